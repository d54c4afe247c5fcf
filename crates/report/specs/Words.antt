-- What is shown of a byte, and of a column.
use Rattle.std.specs.Prelude.{ℕ, ◌-◌, cond, ◌&&◌, List, ◌++◌, replicate, codes, nat_le}
use Rattle.std.specs.Str.{byte}

-- printable ASCII as it is, any other byte as a dot
abbrev pub shown_as : ℕ → ℕ
shown_as b = cond (nat_le (byte " ") b && nat_le b (byte "~")) b (byte ".")

-- spaces, and a caret in this column
abbrev pub caret_in : ℕ → List ℕ
caret_in column = replicate (column - 1) (byte " ") ++ codes "^"
