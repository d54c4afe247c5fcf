use Rattle.std.proofs.Common.{sym, rules}
use Rattle.conditions.specs.Known.{known}
use Rattle.conditions.proofs.Conditions.active.Goals as goal

pub returns-clause-is : goal.returns-clause-is
unfolding known
returns-clause-is c = rw (sym c.if-stands.ensures)

pub returns-then-stands-clause-is : goal.returns-then-stands-clause-is
returns-then-stands-clause-is c = search rules
