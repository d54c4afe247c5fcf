use Rattle.std.proofs.Common.{arith}
use Rattle.expressions.proofs.Growing.{joined_steps}
use Rattle.expressions.proofs.quoted_more.Goals as goal

pub returns-clause-gives : goal.returns-clause-gives
returns-clause-gives c =
    joined_steps c.in_ok-more.ensures.gives c.then.ensures (omega arith)
