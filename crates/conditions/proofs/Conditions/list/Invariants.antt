use Rattle.std.proofs.Common.{◌-◌, ◌<◌, ◌≤◌, length}
use Rattle.conditions.specs.Known.{known, picked}
use Rattle.conditions.proofs.Lists.{Picking}
use Rattle.conditions.proofs.Conditions.list.Given as goal

abbrev pub invariant-loop-picked : goal.invariant-loop-picked
invariant-loop-picked l = (l.n < l.picked.next) × (l.picked.next ≤ length l.s) × Picking l.s (known l.self) l.n (picked l.picked)

abbrev pub decreases-loop-picked : goal.decreases-loop-picked
decreases-loop-picked l = length l.s - l.picked.next
