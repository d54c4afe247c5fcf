use Rattle.automaton.proofs.OneOrder.{one_order}
use Rattle.automaton.proofs.one_order.Goals as goal

pub returns : goal.returns
returns c = one_order
