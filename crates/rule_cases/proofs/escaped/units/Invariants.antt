use Rattle.std.proofs.Common.{◌-◌, ◌≤◌, length, vec_items}
use Rattle.rule_cases.specs.Runs.{Added}
use Rattle.rule_cases.proofs.escaped.units.Given as goal

abbrev pub invariant-loop-at : goal.invariant-loop-at
invariant-loop-at l = (l.from ≤ l.at) × (l.at ≤ length l.text) × Added l.text l.from l.at (vec_items l.initial.out) (vec_items l.out)

abbrev pub decreases-loop-at : goal.decreases-loop-at
decreases-loop-at l = length l.text - l.at
