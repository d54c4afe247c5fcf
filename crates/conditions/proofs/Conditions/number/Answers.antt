use Rattle.std.proofs.Common.{length-take, rules}
use Rattle.std.proofs.lemmas.List.{length-map}
use Rattle.conditions.specs.Known.{known}
use Rattle.conditions.proofs.Conditions.number.Goals as goal

pub returns : goal.returns
unfolding known
returns c = simp (length-map, length-take) (search rules)
