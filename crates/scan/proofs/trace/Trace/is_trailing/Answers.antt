use Rattle.std.proofs.Common.{◌≡◌, ◌+◌, ◌≤◌, length, take, drop, refl, sym, ap, ◌∙◌, arith}
use Rattle.table.specs.Held.{memory_of}
use Rattle.scan.specs.Listed.{row_after}
use Rattle.scan.specs.Traced.{memory_in}
use Rattle.scan.proofs.Steps.{unmarked_from_zero}
use Rattle.scan.proofs.Rows.{less_met}
use Rattle.scan.proofs.trace.Trace.is_trailing.Goals as goal

pub returns-in_default-step : goal.returns-in_default-step
returns-in_default-step g c =
    let t = c.args.self.now in
    let m = memory_in t in
    let rest = g.S.Source.rest t.source.now in
    let n = c.args.total in
    let k = c.loop-k.k in
    let r = row_after m c.args.trail.now.row (drop c.args.h (take n rest)) in
    let w = c.loop-k.walk in
    let within : n ≤ length rest = omega (arith, t.alive.within, c.requires.live) in
    let few : n ≤ 1024 = omega (arith, t.alive.most, c.requires.live) in
    let dead : row_after m 0 (drop (k + 1) (take n rest)) ≡ r =
    less_met m (memory_of w.table.now) w.row 0 c.in-Some.b rest k n r c.loop-k-test.true within few (ap memory_of c.loop-k.invariant.of) (sym c.in-Some.is ∙ c.look.ensures)
    (sym c.in_default-step.ensures) c.loop-k.invariant.left in
    sym (unmarked_from_zero m 0 (drop (k + 1) (take n rest)) r c.args.rule refl dead)

pub loop-k-preserved : goal.loop-k-preserved
loop-k-preserved g c =
    let t = c.args.self.now in
    let m = memory_in t in
    let rest = g.S.Source.rest t.source.now in
    let n = c.args.total in
    let k = c.loop-k.k in
    let r = row_after m c.args.trail.now.row (drop c.args.h (take n rest)) in
    let w = c.loop-k.walk in
    let told = c.in-Some-step.ensures in
    let within : n ≤ length rest = omega (arith, t.alive.within, c.requires.live) in
    let few : n ≤ 1024 = omega (arith, t.alive.most, c.requires.live) in
    record {
      of = told.0 ∙ c.loop-k.invariant.of;
      left =
          less_met m (memory_of w.table.now) w.row c.in-Some-step.next.row c.in-Some.b rest k n r c.loop-k-test.true within few (ap memory_of c.loop-k.invariant.of) (sym c.in-Some.is ∙ c.look.ensures)
          told.1 c.loop-k.invariant.left;
    }
