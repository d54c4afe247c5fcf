use Rattle.loader.specs.Building.{rows_of}
use Rattle.loader.proofs.Trailing.{Trailing}
use Rattle.loader.proofs.write_trails.Given as goal

abbrev pub invariant-loop-i : goal.invariant-loop-i
invariant-loop-i l = Trailing l.machine (rows_of l.fn.sets l.fn.count) l.sets l.count l.i l.fn.loaded l.loaded
