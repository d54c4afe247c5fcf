use Rattle.examples.proofs.Computed.{others_not_listed}
use Rattle.examples.proofs.others_not_listed.Goals as goal

pub returns : goal.returns
returns c = others_not_listed
