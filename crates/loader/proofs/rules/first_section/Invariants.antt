use Rattle.std.proofs.Common.{length}
use Rattle.conditions.specs.Known.{known}
use Rattle.loader.specs.Lines.{left}
use Rattle.loader.proofs.Declaring.{Declaring}
use Rattle.loader.proofs.rules.first_section.Given as goal

abbrev pub invariant-loop-line : goal.invariant-loop-line
invariant-loop-line l = Declaring l.fn.lines l.lines (known l.conditions)

abbrev pub decreases-loop-line : goal.decreases-loop-line
decreases-loop-line l = length (left l.lines)
