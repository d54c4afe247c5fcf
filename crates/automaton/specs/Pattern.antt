-- The positions of a pattern r, with a trailing part x or none: its end mark at a, the positions of
-- r behind it, and for x a
-- slash mark and the positions of x.
use Rattle.std.specs.Prelude.{ℕ, ◌+◌, Bool, false, ◌&&◌, ◌||◌, Some, None, Option, ◌==◌}
use Rattle.patterns.specs.Expression.{Expression}
use Rattle.patterns.specs.Positions.{size, nullable, takes, first, last, follows}
use Rattle.grammar.specs.File.{trailing_size}

-- the slash mark, or where it would be
abbrev pub slash : Expression → ℕ → ℕ
slash r a = a + 1 + size r

-- the position p takes the byte b; marks take none
abbrev pub trail_takes : Option Expression → ℕ → ℕ → ℕ → Bool
trail_takes None c p b = false
trail_takes (Some x) c p b = takes x c p b

abbrev pub pattern_takes : Expression → Option Expression → ℕ → ℕ → ℕ → Bool
pattern_takes r x a p b = takes r (a + 1) p b || trail_takes x (slash r a + 1) p b

-- the trail start: the first positions of x, from c on, and the end mark if x can be empty
abbrev pub trail_start : Option Expression → ℕ → ℕ → ℕ → Bool
trail_start None a c q = false
trail_start (Some x) a c q = first x c q || (nullable x && q == a)

-- what comes after a last position of r: the end mark, or with x the slash mark and the trail start
abbrev pub behind_last : Option Expression → ℕ → ℕ → ℕ → Bool
behind_last None a d q = q == a
behind_last (Some x) a d q = q == d || trail_start (Some x) a (d + 1) q

-- after a position of x, from c on: what follows it there, and after a last one the end mark
abbrev pub trail_after : Option Expression → ℕ → ℕ → ℕ → ℕ → Bool
trail_after None a c p q = false
trail_after (Some x) a c p q = follows x c p q || (last x c p && q == a)

-- q may come straight after the position p
abbrev pub pattern_after : Expression → Option Expression → ℕ → ℕ → ℕ → Bool
pattern_after r x a p q =
    follows r (a + 1) p q || ((last r (a + 1) p && behind_last x a (slash r a) q)
    || trail_after x a (slash r a + 1) p q)

abbrev pub pattern_size : Expression → Option Expression → ℕ
pattern_size r x = 1 + (size r + trailing_size x)

-- the slash mark d is a position if there is an x
abbrev pub slash_of : Option Expression → ℕ → ℕ → Bool
slash_of None d q = false
slash_of (Some x) d q = q == d
