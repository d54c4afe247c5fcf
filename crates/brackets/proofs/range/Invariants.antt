use Rattle.std.proofs.Common.{◌≡◌, ℕ, ◌+◌, ◌≤◌, max, ◌&&◌, ltb, leb}
use Rattle.bits.specs.Set.{has}
use Rattle.brackets.proofs.range.Given as goal

-- the bytes from low on and below b are in the set, and no others
abbrev pub invariant-loop-b : goal.invariant-loop-b
invariant-loop-b l = (l.b ≤ max l.low (l.high + 1)) × ((j : ℕ) → has l.set.words j ≡ (leb l.low j && ltb j l.b))
