use Rattle.std.proofs.Common.{length, arith}
use Rattle.loader.proofs.Starting.{starting_start, starting_full, starting_more, machine_then, rules_then}
use Rattle.loader.proofs.write_starts.Goals as goal

pub loop-c-init : goal.loop-c-init
loop-c-init c = starting_start c.args.machine.now c.args.sets.now c.args.loaded.now c.requires.room

pub returns-in_err-met-clause-writes : goal.returns-in_err-met-clause-writes
returns-in_err-met-clause-writes c =
    let m = c.args.machine.now in
    let w = c.loop-c.sets in
    let l = c.loop-c.loaded in
    let g = c.loop-c.invariant in
    rw c.from_residual.ensures
    (λ qs a b. starting_full m w c.loop-c.count c.loop-c.c c.args.loaded.now l g qs a b (length c.meet_start.new.sets) c.args.loaded.now.condition_count c.loop-c-test.true
    (c.in_err-met.ensures.meets qs (machine_then m w c.loop-c.count c.loop-c.c c.args.loaded.now l g qs a) (rules_then m w c.loop-c.count c.loop-c.c c.args.loaded.now l g qs b)))

pub loop-c-preserved : goal.loop-c-preserved
loop-c-preserved c =
    starting_more c.args.machine.now c.loop-c.sets c.loop-c.count c.loop-c.c c.args.loaded.now c.loop-c.loaded c.loop-c.invariant c.meet_start.new.sets c.in_ok-met.met (omega arith) c.in_ok-met.ensures.stored c.in_ok-met.ensures.meets
