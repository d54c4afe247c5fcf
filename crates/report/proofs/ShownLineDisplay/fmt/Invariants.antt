use Rattle.std.proofs.Common.{map, take}
use Rattle.std.specs.Fmt.{IsPlainFormatter, HasWritten}
use Rattle.report.specs.Words.{shown_as}
use Rattle.report.proofs.ShownLineDisplay.fmt.Given as goal

abbrev pub invariant-loop-b : goal.invariant-loop-b
invariant-loop-b g l =
    IsPlainFormatter l.initial.f → HasWritten g.W.Write.write_str_gives l.initial.f (map shown_as (take l.b-index l.self.0.now)) l.f
