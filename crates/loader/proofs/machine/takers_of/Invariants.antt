use Rattle.std.proofs.Common.{◌≡◌, ℕ, ◌&&◌, ltb}
use Rattle.bits.specs.Set.{has}
use Rattle.positions.specs.Memory.{member}
use Rattle.loader.proofs.machine.takers_of.Given as goal

abbrev pub invariant-loop-p : goal.invariant-loop-p
invariant-loop-p l = (q : ℕ) → has l.set.words q ≡ (ltb q l.p && member l.machine q l.b)
