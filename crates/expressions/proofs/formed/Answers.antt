use Rattle.std.proofs.Common.{arith}
use Rattle.expressions.proofs.Copying.{placed_marked}
use Rattle.expressions.proofs.formed.Goals as goal

pub returns-in-Some : goal.returns-in-Some
returns-in-Some c = placed_marked c.args.interval c.args.k _ _ _ _ _ c.in-Some.ensures (omega arith) c.repeats.ensures
