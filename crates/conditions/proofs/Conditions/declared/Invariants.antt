use Rattle.std.proofs.Common.{◌-◌, length}
use Rattle.conditions.specs.Known.{declared_from}
use Rattle.conditions.proofs.Lists.{Declaring}
use Rattle.conditions.proofs.Conditions.declared.Given as goal

abbrev pub invariant-loop-read : goal.invariant-loop-read
invariant-loop-read l = Declaring l.s l.inclusive (declared_from l.initial.read.value l.initial.read.next) (declared_from l.read.value l.read.next)

abbrev pub decreases-loop-read : goal.decreases-loop-read
decreases-loop-read l = length l.s - l.read.next
