use Rattle.std.proofs.Common.{rules}
use Rattle.expressions.proofs.intervals.bounds.Goals as goal

pub returns-then-low-gt-LARGEST-clause-is : goal.returns-then-low-gt-LARGEST-clause-is
returns-then-low-gt-LARGEST-clause-is c = search rules

pub returns-clause-is : goal.returns-clause-is
returns-clause-is c = search rules
