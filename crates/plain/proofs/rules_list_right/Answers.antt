use Rattle.plain.proofs.Rules.{rules_list_right}
use Rattle.plain.proofs.rules_list_right.Goals as goal

pub returns : goal.returns
returns c = rules_list_right
