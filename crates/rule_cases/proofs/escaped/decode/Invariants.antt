use Rattle.std.proofs.Common.{◌-◌, ◌≤◌, length, vec_items}
use Rattle.rule_cases.specs.Runs.{Means}
use Rattle.rule_cases.proofs.escaped.decode.Given as goal

abbrev pub invariant-loop-at : goal.invariant-loop-at
invariant-loop-at l = (l.at ≤ length l.text) × Means l.text l.at (vec_items l.out)

abbrev pub decreases-loop-at : goal.decreases-loop-at
decreases-loop-at l = length l.text - l.at
