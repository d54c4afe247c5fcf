use Rattle.std.proofs.Common.{◌≡◌, ◌++◌, vec_items}
use Rattle.rule_cases.specs.Runs.{copies}
use Rattle.rule_cases.proofs.escaped.run.Given as goal

abbrev pub invariant-loop : goal.invariant-loop
invariant-loop l = vec_items l.out ≡ vec_items l.initial.out ++ copies l.counter (vec_items l.bytes)
