use Rattle.std.proofs.Common.{rules}
use Rattle.finder.proofs.BitsSame.same.Goals as goal

pub returns : goal.returns
returns g c = search rules
