use Rattle.std.proofs.Common.{◌+◌}
use Rattle.rule_cases.specs.Runs.{Counts}
use Rattle.rule_cases.proofs.escaped.count.Given as goal

abbrev pub invariant-loop-n : goal.invariant-loop-n
invariant-loop-n l = Counts l.text l.from (l.from + l.n) l.times
