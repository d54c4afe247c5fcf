use Rattle.automaton.proofs.Rows.{met_are_stored}
use Rattle.automaton.proofs.met_are_stored.Goals as goal

pub returns : goal.returns
returns c = met_are_stored
