use Rattle.std.proofs.Common.{◌-◌, ◌<◌, ◌≤◌, length}
use Rattle.grammar.specs.Outcome.{then, many}
use Rattle.grammar.specs.Expressions.{in_quotes, quoted_byte, quoted_more}
use Rattle.expressions.proofs.Growing.{Grown}
use Rattle.expressions.proofs.quote.Given as goal

abbrev pub invariant-loop-work : goal.invariant-loop-work
invariant-loop-work l =
    (l.at < l.all.at) × (l.all.at ≤ length l.s)
    × Grown l.s (in_quotes l.s) (quoted_more l.s) (then (quoted_byte l.s l.at l.used) (many (in_quotes l.s) (quoted_more l.s) (length l.s))) l.used l.initial.work l.work l.all

abbrev pub decreases-loop-work : goal.decreases-loop-work
decreases-loop-work l = length l.s - l.all.at
