use Rattle.automaton.proofs.Ordered.{rows_in_order}
use Rattle.automaton.proofs.rows_in_order.Goals as goal

pub returns : goal.returns
returns c = rows_in_order
