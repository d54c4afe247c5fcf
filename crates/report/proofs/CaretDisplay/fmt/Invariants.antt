use Rattle.std.proofs.Common.{◌-◌, ◌≤◌, replicate}
use Rattle.std.specs.Fmt.{IsPlainFormatter, HasWritten}
use Rattle.report.proofs.CaretDisplay.fmt.Given as goal

abbrev pub invariant-loop : goal.invariant-loop
invariant-loop g l =
    (l.counter - 1 ≤ l.self.0 - 1)
    × (IsPlainFormatter l.initial.f → HasWritten g.W.Write.write_str_gives l.initial.f (replicate (l.counter - 1) 32) l.f)
