use Rattle.std.proofs.Common.{rules}
use Rattle.finder.proofs.name.Name.blank.Goals as goal

pub returns : goal.returns
returns c = search rules
