use Rattle.std.proofs.Common.{ℕ, length, subst, arith}
use Rattle.loader.specs.Building.{rows_of, TrailsWritten}
use Rattle.loader.proofs.Trailing.{trailing_start, trailing_full, trailing_more}
use Rattle.loader.proofs.write_trails.Goals as goal

pub loop-i-init : goal.loop-i-init
loop-i-init c = trailing_start c.args.machine.now c.args.sets.now c.args.count c.args.loaded.now c.requires.stored

pub returns-in_err-met-clause-writes : goal.returns-in_err-met-clause-writes
returns-in_err-met-clause-writes c =
    rw c.from_residual.ensures
    (λ qs a b. trailing_full c.args.machine.now (rows_of c.args.sets.now c.args.count) c.loop-i.sets c.loop-i.count c.loop-i.i c.args.loaded.now c.loop-i.loaded c.loop-i.invariant c.loop-i-test.true qs a b (length c.meet.new.sets) c.in_err-met.ensures)

pub loop-i-preserved : goal.loop-i-preserved
loop-i-preserved c =
    trailing_more c.args.machine.now (rows_of c.args.sets.now c.args.count) c.loop-i.sets c.loop-i.count c.loop-i.i c.args.loaded.now c.loop-i.loaded c.loop-i.invariant c.loop-i-test.true c.meet.new.sets c.in_ok-met.met _ (omega arith) c.in_ok-met.ensures

pub returns-clause-writes : goal.returns-clause-writes
returns-clause-writes c =
    λ qs a b. subst (λ (n : ℕ). TrailsWritten qs (rows_of c.args.sets.now c.args.count) n (rows_of c.loop-i.sets c.loop-i.count) c.args.loaded.now c.loop-i.loaded) (omega (arith, a.count)) (c.loop-i.invariant.so_far qs a b)
