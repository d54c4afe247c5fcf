use Rattle.std.proofs.Common.{rules}
use Rattle.finder.proofs.find.Goals as goal

pub returns : goal.returns
returns g c = search rules
