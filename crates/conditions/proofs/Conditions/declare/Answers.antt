use Rattle.std.proofs.Common.{Err, refl, ap, ◌∙◌, arith}
use Rattle.conditions.proofs.Names.{again_is, passed_is, added_is}
use Rattle.conditions.proofs.Conditions.declare.Goals as goal

pub returns-in-Ok-Old-clause-is : goal.returns-in-Ok-Old-clause-is
returns-in-Ok-Old-clause-is c =
    let f = rw c.in-Ok-Old.field-0-is at c.in-Ok-Old.ensures in
    ap Err c.refused.ensures ∙ again_is _ _ _ _ c.in_ok-spelt.ensures _ _ f.0

pub returns-in-Ok-New-clause-is : goal.returns-in-Ok-New-clause-is
returns-in-Ok-New-clause-is c =
    let f = rw c.in-Ok-New.field-0-is at c.in-Ok-New.ensures in
    added_is _ _ _ _ c.in_ok-spelt.ensures _ _ c.in-Ok-New.k (omega arith) f.0 f.1 f.2 refl f.3 c.included.ensures

pub returns-in-Err-clause-is : goal.returns-in-Err-clause-is
returns-in-Err-clause-is c =
    let f = c.in-Err.ensures in
    ap Err c.refused-in-Err.ensures ∙ passed_is _ _ _ _ c.in_ok-spelt.ensures _ (omega arith) f.0 f.1
