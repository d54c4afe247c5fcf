use Rattle.automaton.proofs.Rows.{same_is_equal_members}
use Rattle.automaton.proofs.same_is_equal_members.Goals as goal

pub returns : goal.returns
returns c = same_is_equal_members
