use Rattle.automaton.proofs.Rows.{entries_within}
use Rattle.automaton.proofs.entries_lie_within.Goals as goal

pub returns : goal.returns
returns c = entries_within
