use Rattle.std.proofs.Common.{rules}
use Rattle.loader.proofs.rules.keep.Goals as goal

pub returns : goal.returns
returns c = search rules
