use Rattle.automaton.proofs.Room.{room_changes_nothing}
use Rattle.automaton.proofs.room_changes_nothing.Goals as goal

pub returns : goal.returns
returns c = room_changes_nothing
