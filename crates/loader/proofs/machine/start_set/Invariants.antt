use Rattle.std.proofs.Common.{◌≡◌, ℕ}
use Rattle.bits.specs.Set.{has, Whole}
use Rattle.loader.specs.Machine.{start_in}
use Rattle.loader.proofs.machine.start_set.Given as goal

abbrev pub invariant-loop-i : goal.invariant-loop-i
invariant-loop-i l = record {
  members : (t : ℕ) → has l.set.words t ≡ start_in l.machine l.loaded l.i l.condition l.at_line_start t;
  whole : Whole 8 l.set.words;
}
