use Rattle.examples.proofs.Computed.{listings_worked}
use Rattle.examples.proofs.listings_worked.Goals as goal

pub returns : goal.returns
returns c = listings_worked
