use Rattle.automaton.proofs.Rows.{numbers_name_rows}
use Rattle.automaton.proofs.numbers_name_rows.Goals as goal

pub returns : goal.returns
returns c = numbers_name_rows
