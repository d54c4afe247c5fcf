-- Where a place of a file stands: its line, its column, and the line's two ends.
use Rattle.std.specs.Prelude.{ℕ, zero, suc, ◌+◌, ◌-◌, min, Bool, cond, not, List, length, take, drop, count_by, take_while, ◌==◌, slice_index}
use Rattle.std.specs.Str.{byte}

-- a place behind the file's end counts as the end
abbrev pub clipped : List ℕ → ℕ → ℕ
clipped file place = min place (length file)

abbrev pub newline : ℕ → Bool
newline b = b == byte "\n"

-- how many newlines are among the first n bytes
abbrev pub newlines : List ℕ → ℕ → ℕ
newlines file n = count_by newline (take n file)

-- lines are counted from 1
abbrev pub line_number : List ℕ → ℕ → ℕ
line_number file n = 1 + newlines file n

-- the place behind the last newline before n, or 0
unfoldable pub line_start : List ℕ → ℕ → ℕ
line_start file zero = 0
line_start file (suc n) = cond (newline (slice_index file n)) (suc n) (line_start file n)

-- how many bytes stand before the first newline
abbrev pub before_newline : List ℕ → ℕ
before_newline bs = length (take_while (λ b. not (newline b)) bs)

-- the first newline from n on, or the file's end
abbrev pub line_end : List ℕ → ℕ → ℕ
line_end file n = n + before_newline (drop n file)

-- columns are counted from 1
abbrev pub column_of : List ℕ → ℕ → ℕ
column_of file n = n - line_start file n + 1
