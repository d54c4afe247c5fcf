use Rattle.std.proofs.Common.{◌-◌, length}
use Rattle.loader.specs.Building.{rows_of}
use Rattle.loader.proofs.Growing.{Growing}
use Rattle.loader.proofs.grow.Given as goal

abbrev pub invariant-loop-k : goal.invariant-loop-k
invariant-loop-k l = Growing l.machine l.rules (rows_of l.fn.sets l.fn.count) l.sets l.count l.k l.fn.rows l.rows

abbrev pub decreases-loop-k : goal.decreases-loop-k
decreases-loop-k l = length l.rows - l.k
