use Rattle.automaton.proofs.Rows.{rows_distinct}
use Rattle.automaton.proofs.rows_are_distinct.Goals as goal

pub returns : goal.returns
returns c = rows_distinct
