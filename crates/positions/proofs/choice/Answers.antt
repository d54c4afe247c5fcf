use Rattle.std.proofs.Common.{rules}
use Rattle.positions.proofs.choice.Goals as goal

pub returns : goal.returns
returns c = search rules
