use Rattle.std.proofs.Common.{refl}
use Rattle.conditions.proofs.Names.{name_is}
use Rattle.conditions.proofs.spelt_at.Goals as goal

pub returns : goal.returns
returns c = name_is c.args.s.now c.args.n c.in-Some-Name.text.now (rw c.in-Some-Name.field-0-is at c.in-Some-Name.ensures) _ c.of.ensures refl
