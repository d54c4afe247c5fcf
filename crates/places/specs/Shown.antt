-- What is shown of a reading: rule, total and head.
use Rattle.std.specs.Prelude.{ℕ, List, ◌++◌, codes}
use Rattle.std.specs.Fmt.{decimal}
use Rattle.places.specs.declared.Reading.{Reading}

abbrev pub shown : Reading → List ℕ
shown d = decimal d.rule ++ codes "/" ++ decimal d.total ++ codes "/" ++ decimal d.head
