use Rattle.std.proofs.Common.{rules}
use Rattle.conditions.proofs.Conditions.declaration.Goals as goal

pub returns-in-Some-eq120 : goal.returns-in-Some-eq120
returns-in-Some-eq120 c = search rules
