use Rattle.std.proofs.Common.{◌-◌, ◌<◌, ◌≤◌, length}
use Rattle.grammar.specs.Outcome.{seen}
use Rattle.brackets.specs.Sets.{set}
use Rattle.brackets.proofs.Meant.{Bracketed}
use Rattle.brackets.proofs.members.Given as goal

abbrev pub invariant-loop-all : goal.invariant-loop-all
invariant-loop-all l = (l.n < l.all.next) × (l.all.next ≤ length l.s) × Bracketed l.s l.n (seen set l.all)

abbrev pub decreases-loop-all : goal.decreases-loop-all
decreases-loop-all l = length l.s - l.all.next
