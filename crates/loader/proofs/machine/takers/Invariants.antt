use Rattle.std.proofs.Common.{◌≡◌, ℕ, ◌+◌, ◌-◌, cond, ◌&&◌, ltb, length}
use Rattle.positions.specs.Memory.{member, between}
use Rattle.loader.proofs.machine.takers.Given as goal

abbrev pub invariant-loop-b : goal.invariant-loop-b
invariant-loop-b l = record {
  long : length l.machine ≡ 1792;
  memory : (k q : ℕ) → member l.machine k q ≡ cond (between 1280 (1280 + l.b) k) (ltb q l.positions && member l.initial.machine q (k - 1280)) (member l.initial.machine k q);
}
