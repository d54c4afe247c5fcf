use Rattle.loader.specs.Building.{rows_of}
use Rattle.loader.proofs.Growing.{growing_start, growing_full, growing_more, growing_done}
use Rattle.loader.proofs.grow.Goals as goal

pub loop-k-init : goal.loop-k-init
loop-k-init c = growing_start c.args.machine.now c.args.rules c.args.sets.now c.args.count c.args.rows.now c.requires.stored c.requires.room

pub returns-in_err-count-clause-grows : goal.returns-in_err-count-clause-grows
returns-in_err-count-clause-grows c =
    rw c.from_residual.ensures
    (λ qs a. growing_full c.args.machine.now c.args.rules (rows_of c.args.sets.now c.args.count) c.loop-k.sets c.loop-k.count c.loop-k.k c.args.rows.now c.loop-k.rows c.loop-k.invariant c.loop-k-test.true qs a
    c.write_row.new.sets c.write_row.auto.sets (c.in_err-count.ensures.writes qs a))

pub loop-k-preserved : goal.loop-k-preserved
loop-k-preserved c =
    growing_more c.args.machine.now c.args.rules (rows_of c.args.sets.now c.args.count) c.loop-k.sets c.loop-k.count c.loop-k.k c.args.rows.now c.loop-k.rows c.loop-k.invariant c.loop-k-test.true
    c.write_row.new.sets c.in_ok-count.count c.write_row.new.row c.write_row.auto.sets c.in_ok-count.ensures.stored c.in_ok-count.ensures.writes

pub returns-clause-grows : goal.returns-clause-grows
returns-clause-grows c =
    growing_done c.args.machine.now c.args.rules (rows_of c.args.sets.now c.args.count) c.loop-k.sets c.loop-k.count c.loop-k.k c.args.rows.now c.loop-k.rows c.loop-k.invariant c.loop-k-test.false
