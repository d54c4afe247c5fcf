use Rattle.std.proofs.Common.{◌≡◌, ◌≤◌}
use Rattle.patterns.specs.Expression.{Expression}
use Rattle.patterns.specs.Positions.{size}
use Rattle.expressions.proofs.Copying.{Turn}
use Rattle.expressions.proofs.copies.Given as goal

-- the turns so far, whatever x is
abbrev pub invariant-loop-k : goal.invariant-loop-k
invariant-loop-k l =
    (l.k ≤ l.last)
    × ((e : Expression) → size e ≡ l.size
    → Turn l.interval e l.base l.last l.x l.initial.work l.initial.work l.last l.initial.all
    → Turn l.interval e l.base l.last l.x l.initial.work l.work l.k l.all)

abbrev pub decreases-loop-k : goal.decreases-loop-k
decreases-loop-k l = l.k
