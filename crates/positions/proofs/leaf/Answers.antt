use Rattle.std.proofs.Common.{rules}
use Rattle.positions.proofs.leaf.Goals as goal

pub returns-then-p-lt-POSITIONS : goal.returns-then-p-lt-POSITIONS
returns-then-p-lt-POSITIONS c = search rules
