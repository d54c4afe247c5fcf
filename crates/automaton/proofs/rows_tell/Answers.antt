use Rattle.automaton.proofs.Marks.{rows_tell}
use Rattle.automaton.proofs.rows_tell.Goals as goal

pub returns : goal.returns
returns c = rows_tell
