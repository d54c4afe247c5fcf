use Rattle.std.proofs.Common.{rules}
use Rattle.positions.proofs.sequence.Goals as goal

pub returns-then-x-2 : goal.returns-then-x-2
returns-then-x-2 c = search rules

pub returns-else-x-2 : goal.returns-else-x-2
returns-else-x-2 c = search rules
