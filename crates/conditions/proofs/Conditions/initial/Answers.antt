use Rattle.std.proofs.Common.{[], lit<}
use Rattle.conditions.specs.Known.{known}
use Rattle.conditions.proofs.Names.{initial_is, alone}
use Rattle.conditions.proofs.Conditions.initial.Goals as goal

pub returns : goal.returns
unfolding known
returns c = initial_is c.of.result [] c.only.result.words c.of.ensures (alone 0 c.only.result.words (lit< tt) c.only.ensures)
