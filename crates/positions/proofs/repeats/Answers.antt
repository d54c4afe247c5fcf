use Rattle.std.proofs.Common.{rules}
use Rattle.positions.proofs.repeats.Goals as goal

pub returns : goal.returns
returns c = search rules
