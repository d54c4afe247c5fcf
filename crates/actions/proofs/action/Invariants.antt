use Rattle.std.proofs.Common.{◌-◌, length}
use Rattle.conditions.specs.Known.{known}
use Rattle.actions.specs.Steps.{view}
use Rattle.actions.proofs.Read.{Reads}
use Rattle.actions.proofs.action.Given as goal

abbrev pub invariant-loop-read : goal.invariant-loop-read
invariant-loop-read l = Reads l.s (known l.conditions) l.n (view l.read)

abbrev pub decreases-loop-read : goal.decreases-loop-read
decreases-loop-read l = length l.s - l.read.next
