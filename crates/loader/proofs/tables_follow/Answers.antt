use Rattle.loader.proofs.Follows.{tables_follow}
use Rattle.loader.proofs.tables_follow.Goals as goal

pub returns : goal.returns
returns c = tables_follow
