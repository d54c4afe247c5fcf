use Rattle.std.proofs.Common.{arith, rules}
use Rattle.std.proofs.lemmas.Bool.Decides.{nat_tests}
use Rattle.positions.proofs.Sets.{part_moved}
use Rattle.positions.proofs.move_sets.Goals as goal

pub returns : goal.returns
returns c =
    let a = c.args in
    let split = c.split_at_mut-front in
    part_moved a.work.now split.result.0.now split.result.1.now c.loop-i.set-items a.from a.count a.by (omega arith) (omega arith)
    split.ensures.front split.ensures.back (search rules)
    (λ k q lt. let is = c.loop-i.invariant.1 k q in grind (arith, nat_tests))
