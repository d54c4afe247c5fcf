use Rattle.std.proofs.Common.{◌≡◌, ℕ, ◌<◌, ◌≤◌, false}
use Rattle.bits.specs.Set.{has}
use Rattle.brackets.proofs.bytes_where.Given as goal

-- the bytes below b are tested, and there are no others yet
abbrev pub invariant-loop-b : goal.invariant-loop-b
invariant-loop-b g l =
    ((j : ℕ) → j < l.b → goal.F-post g l.test j (has l.set.words j)) × ((j : ℕ) → l.b ≤ j → has l.set.words j ≡ false)
