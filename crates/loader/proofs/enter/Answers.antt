use Rattle.std.proofs.Common.{ℕ, get_or, subst, arith}
use Rattle.loader.specs.Machine.{members}
use Rattle.loader.specs.Building.{rows_of, Entered}
use Rattle.loader.proofs.Entering.{entering_start, entering_full, entering_more, entering_copied}
use Rattle.loader.proofs.enter.Goals as goal
use Rattle.loader.proofs.enter.Goals.{then-column-b, else-column-b+in_ok-last}

pub loop-b-init : goal.loop-b-init
loop-b-init c = record {
  long = omega arith;
  entering = entering_start c.args.machine.now (members c.args.set.now) c.args.sets.now c.args.count c.nowhere-last.result c.args.next.now c.requires.stored c.nowhere-last.ensures.count c.nowhere-last.ensures.number c.nowhere-last.ensures.live;
}

pub returns-in_err-last-clause-enters : goal.returns-in_err-last-clause-enters
returns-in_err-last-clause-enters c =
    rw c.from_residual.ensures
    (λ qs n a. entering_full c.args.machine.now (rows_of c.args.sets.now c.args.count) (members c.args.set.now) c.loop-b.sets c.loop-b.last c.loop-b.next c.loop-b.b c.loop-b.invariant.entering c.lead_on.new.sets (omega arith) qs n a c.in_err-last.ensures)

pub loop-b-preserved : goal.loop-b-preserved
loop-b-preserved c =
    let m = c.args.machine.now in
    let rs = rows_of c.args.sets.now c.args.count in
    let s = members c.args.set.now in
    let b = c.loop-b.b in
    let so_far = c.loop-b.invariant in
    record {
      long = c.if-column-b.array_long;
      entering = elim c.if-column-b.branch [
        | then-column-b w ↦ rw (w.sets-is, w.last-is, w.next-is)
            (entering_copied m rs s c.loop-b.sets c.loop-b.last c.loop-b.next b so_far.entering (omega arith) (omega (arith, so_far.long)) (get_or c.args.columns.now b 0) w.if-column-b.true (λ p. c.requires.columns.same_takers b p (omega arith)))
        | else-column-b+in_ok-last w ↦ rw (w.sets-is, w.last-is, w.next-is)
            (entering_more m rs s c.loop-b.sets c.loop-b.last c.loop-b.next b so_far.entering w.lead_on.new.sets (omega arith) w.in_ok-last.last w.in_ok-last.ensures (omega (arith, so_far.long)))
      ];
    }

pub returns-clause-enters : goal.returns-clause-enters
returns-clause-enters c =
    λ qs n a. subst (λ (b : ℕ). Entered qs (rows_of c.args.sets.now c.args.count) (members c.args.set.now) b (rows_of c.loop-b.sets c.loop-b.last.count) c.loop-b.next) (omega arith) (c.loop-b.invariant.entering.entered qs n a)
