use Rattle.std.proofs.Common.{arith}
use Rattle.actions.proofs.Added.{given_more, counted_more, padded_more}
use Rattle.actions.proofs.steps.Steps.with.Goals as goal

pub invariant_of-result : goal.invariant_of-result
invariant_of-result c =
    let q = c.args.self in
    record { counted = counted_more q.list q.count c.args.step (omega arith) (omega arith) q.counted; padded = padded_more q.list q.count c.args.step (omega arith) (omega arith) q.counted q.padded }

pub returns-clause-more : goal.returns-clause-more
returns-clause-more c = given_more c.args.self.list c.args.self.count c.args.step (omega arith) (omega arith) c.args.self.counted
