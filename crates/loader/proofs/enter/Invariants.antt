use Rattle.std.proofs.Common.{◌≡◌, length}
use Rattle.loader.specs.Machine.{members}
use Rattle.loader.specs.Building.{rows_of}
use Rattle.loader.proofs.Entering.{Entering}
use Rattle.loader.proofs.enter.Given as goal

abbrev pub invariant-loop-b : goal.invariant-loop-b
invariant-loop-b l = record { long : length l.next ≡ 256; entering : Entering l.machine (rows_of l.fn.sets l.count) (members l.set) l.sets l.last l.next l.b }
