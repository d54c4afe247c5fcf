use Rattle.std.proofs.Common.{rules}
use Rattle.expressions.proofs.intervals.up_to.Goals as goal

pub returns-then-high-gt-LARGEST-clause-is : goal.returns-then-high-gt-LARGEST-clause-is
returns-then-high-gt-LARGEST-clause-is c = search rules

pub returns-then-not-stands-clause-is : goal.returns-then-not-stands-clause-is
returns-then-not-stands-clause-is c = search rules

pub returns-clause-is : goal.returns-clause-is
returns-clause-is c = search rules
