use Rattle.places.proofs.Rows.{one_listing}
use Rattle.places.proofs.one_listing.Goals as goal

pub returns : goal.returns
returns c = one_listing
