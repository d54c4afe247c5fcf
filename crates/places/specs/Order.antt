-- The order of a listing, as a test.
use Rattle.std.specs.Prelude.{ℕ, Bool, not, ◌&&◌, ◌||◌, List, Option, ◌==◌, nat_lt, slice_get, find}
use Rattle.places.specs.declared.Reading.{Reading}

-- d has a smaller total than this, or the same total and a later rule
abbrev pub later_than : ℕ → ℕ → Reading → Bool
later_than rule total d = nat_lt d.total total || (d.total == total && nat_lt rule d.rule)

-- d comes after the reading of this rule and total; the single byte, rule 0, is the last
abbrev pub comes_after : ℕ → ℕ → Reading → Bool
comes_after rule total d = not (rule == 0) && (d.rule == 0 || later_than rule total d)

-- the first of a listing, and the first one after a reading
abbrev pub first_of : List Reading → Option Reading
first_of ds = slice_get ds 0

abbrev pub next_of : ℕ → ℕ → List Reading → Option Reading
next_of rule total ds = find (comes_after rule total) ds
