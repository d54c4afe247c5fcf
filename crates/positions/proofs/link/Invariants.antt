use Rattle.std.proofs.Common.{◌≡◌, ℕ, ◌&&◌, ◌||◌, ltb, length}
use Rattle.bits.specs.Set.{has}
use Rattle.positions.specs.Memory.{member}
use Rattle.positions.proofs.link.Given as goal

abbrev pub invariant-loop-p : goal.invariant-loop-p
invariant-loop-p l =
    (length l.next-items ≡ 512)
    × ((k q : ℕ) → member l.next-items k q ≡ (member l.initial.next-items k q || (ltb k l.p && (has l.ends.words k && has l.starts.words q))))
