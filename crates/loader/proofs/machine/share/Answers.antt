use Rattle.loader.proofs.MachineSets.{shared}
use Rattle.loader.proofs.machine.share.Goals as goal

pub returns : goal.returns
returns c = shared c.args.a.now.words c.args.b.now.words c.common.result.words c.is_empty.result c.common.ensures.whole.0 c.common.ensures.members c.is_empty.ensures
