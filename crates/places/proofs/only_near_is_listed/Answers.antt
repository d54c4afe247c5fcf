use Rattle.places.proofs.Near.{only_near}
use Rattle.places.proofs.only_near_is_listed.Goals as goal

pub returns : goal.returns
returns c = only_near
