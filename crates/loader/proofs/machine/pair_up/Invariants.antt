use Rattle.std.proofs.Common.{◌≡◌, ℕ, ◌+◌, ◌<◌, ◌||◌, length}
use Rattle.positions.specs.Memory.{member}
use Rattle.loader.proofs.machine.pair_up.Given as goal

abbrev pub invariant-loop-p : goal.invariant-loop-p
invariant-loop-p l = record {
  long : length l.machine ≡ 1792;
  kept : (k q : ℕ) → k < 1536 → member l.machine k q ≡ member l.initial.machine k q;
  paired : (p t : ℕ) → p < l.p → member l.machine (1536 + p) t ≡ (member l.machine (512 + p) t || member l.machine (768 + p) t);
}
