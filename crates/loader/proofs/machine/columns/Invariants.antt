use Rattle.loader.proofs.Columns.{ColumnsSoFar}
use Rattle.loader.proofs.machine.columns.Given as goal

abbrev pub invariant-loop-b : goal.invariant-loop-b
invariant-loop-b l = ColumnsSoFar l.machine l.columns l.b
