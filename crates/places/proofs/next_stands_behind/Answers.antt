use Rattle.places.proofs.Following.{next_stands_behind}
use Rattle.places.proofs.next_stands_behind.Goals as goal

pub returns : goal.returns
returns c = next_stands_behind
