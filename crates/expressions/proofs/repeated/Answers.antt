use Rattle.std.proofs.Common.{arith}
use Rattle.expressions.proofs.Growing.{interval_steps}
use Rattle.expressions.proofs.repeated.Goals as goal

pub returns-clause-gives : goal.returns-clause-gives
returns-clause-gives c =
    interval_steps c.args.s.now c.args.base c.args.work.now _ c.args.all _ _ _ c.in_ok-bounds.ensures.is c.extra.ensures (omega arith) c.if-all-more-gt-POSITIONS.false c.copies.ensures
