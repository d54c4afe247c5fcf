use Rattle.std.proofs.Common.{Err, ◌-◌, ap, ◌∙◌, arith}
use Rattle.conditions.proofs.Names.{located_some, located_none, named_is, unknown_is}
use Rattle.conditions.proofs.Conditions.named.Goals as goal

pub returns-in-Some-clause-is : goal.returns-in-Some-clause-is
returns-in-Some-clause-is c = named_is _ c.args.self.now _ _ c.in_ok-spelt.ensures _ (located_some c.in_ok-spelt.spelt.value c.args.self.now.names (c.args.self.now.count - 0) c.args.self.now.count (omega arith) c.in-Some.k c.in-Some.ensures)

pub returns-in-None-clause-is : goal.returns-in-None-clause-is
returns-in-None-clause-is c = ap Err c.refused.ensures ∙ unknown_is _ c.args.self.now _ _ c.in_ok-spelt.ensures (located_none c.in_ok-spelt.spelt.value c.args.self.now.names (c.args.self.now.count - 0) c.args.self.now.count (omega arith) c.in-None.ensures)
