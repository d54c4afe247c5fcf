use Rattle.automaton.proofs.Origins.{stored_are_met}
use Rattle.automaton.proofs.stored_are_met.Goals as goal

pub returns : goal.returns
returns c = stored_are_met
