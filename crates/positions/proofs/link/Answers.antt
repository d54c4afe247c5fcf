use Rattle.std.proofs.Common.{◌≤◌, length, arith, rules}
use Rattle.std.proofs.lemmas.Bool.Decides.{nat_tests}
use Rattle.positions.proofs.Links.{part_linked}
use Rattle.positions.proofs.link.Goals as goal

pub returns : goal.returns
returns c =
    let w = c.args.work.now in
    let big : 1024 ≤ length w = grind (arith, nat_tests) in
    part_linked w c.loop-p.next-items c.args.ends.now.words c.args.starts.now.words big c.loop-p.invariant.0
    (λ k q h. let linked = c.loop-p.invariant.1 k q in grind (arith, nat_tests))

pub loop-p-init : goal.loop-p-init
loop-p-init c = (search rules, search rules)

pub loop-p-preserved : goal.loop-p-preserved
loop-p-preserved c = search rules
