-- What is shown of a right file: how much it has, in numbers and words.
use Rattle.std.specs.Prelude.{ℕ, List, ◌++◌, codes}
use Rattle.std.specs.Fmt.{decimal}
use Rattle.loader.specs.declared.rules.Counts.{Counts}

abbrev pub shown : Counts → List ℕ
shown c =
    decimal c.rules ++ codes " rules, " ++ decimal c.conditions ++ codes " conditions, "
    ++ decimal c.positions ++ codes " positions"
