use Rattle.loader.proofs.Starting.{Starting}
use Rattle.loader.proofs.write_starts.Given as goal

abbrev pub invariant-loop-c : goal.invariant-loop-c
invariant-loop-c l = Starting l.machine l.sets l.count l.c l.fn.loaded l.loaded
