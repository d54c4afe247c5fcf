use Rattle.std.proofs.Common.{◌≡◌, ℕ, ◌+◌, ◌-◌, cond, ◌&&◌, ltb, leb, length}
use Rattle.positions.specs.Memory.{member}
use Rattle.positions.proofs.move_sets.Given as goal

abbrev pub invariant-loop-i : goal.invariant-loop-i
invariant-loop-i l =
    (length l.set-items ≡ l.count)
    × ((k q : ℕ) → member l.set-items k q ≡ cond (ltb k l.i) (ltb q 512 && (leb l.by q && member l.front (l.from + k) (q - l.by))) (member l.initial.set-items k q))
