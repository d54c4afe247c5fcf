-- A name in its 24 bytes: zeros fill what it leaves.
use Rattle.std.specs.Prelude.{ℕ, ◌-◌, List, ◌++◌, length, replicate}

abbrev pub padded : List ℕ → List ℕ
padded s = s ++ replicate (24 - length s) 0
