use Rattle.std.proofs.Common.{◌≡◌, ◌+◌, ◌<◌, length, min, sym, ap, ◌∙◌, arith, length-set}
use borrow.Author.Count.{below_more}
use Rattle.table.specs.Held.{memory_of}
use Rattle.table.specs.Readings.{start_row, IsStored}
use Rattle.scan.specs.Listing.{place_of}
use Rattle.scan.specs.Met.{row_met}
use Rattle.scan.proofs.Rows.{next_met, met_more, beyond_more, live_up_to, stands_stored}
use Rattle.scan.proofs.follow.run_to.Goals as goal

pub returns-in_default-step-clause-live : goal.returns-in_default-step-clause-live
returns-in_default-step-clause-live g c =
    let mem = memory_of c.args.table.now in
    let rest = g.S.Source.rest c.args.source.now in
    let p = place_of c.args.start rest in
    let k = c.loop-k.k in
    let w = c.loop-k.walk in
    let short : k < min 1024 (length rest) = omega (arith, c.requires) in
    let row : 0 ≡ row_met mem p (k + 1) =
    next_met mem (memory_of w.table.now) (start_row mem c.args.start.condition c.args.start.at_line_start) rest k w.row 0 c.in-Some-look.b
    (omega arith) (ap memory_of c.loop-k.invariant.of) c.loop-k.invariant.row (sym c.in-Some-look.is ∙ c.look.ensures) (sym c.in_default-step.ensures) in
    live_up_to mem p k short c.loop-k.invariant.stored row

pub loop-k-preserved : goal.loop-k-preserved
loop-k-preserved g c =
    let mem = memory_of c.args.table.now in
    let rest = g.S.Source.rest c.args.source.now in
    let p = place_of c.args.start rest in
    let k = c.loop-k.k in
    let w = c.loop-k.walk in
    let next = c.in-Some-step.next in
    let told = c.in-Some-step.ensures in
    let row : next.row ≡ row_met mem p (k + 1) =
    next_met mem (memory_of w.table.now) (start_row mem c.args.start.condition c.args.start.at_line_start) rest k w.row next.row c.in-Some-look.b
    (omega (arith, c.requires)) (ap memory_of c.loop-k.invariant.of) c.loop-k.invariant.row (sym c.in-Some-look.is ∙ c.look.ensures) told.1 in
    let same : next.table.now ≡ c.args.table.now = told.0 ∙ c.loop-k.invariant.of in
    record {
      of = same;
      row = row;
      stored = below_more (λ j. IsStored mem (row_met mem p (j + 1))) k c.loop-k.invariant.stored (stands_stored c.args.table.now next (row_met mem p (k + 1)) same row);
      met = met_more mem p c.loop-k.met k c.row.result (omega (arith, c.loop-k.invariant.whole)) (c.row.ensures ∙ row) c.loop-k.invariant.met;
      beyond = beyond_more c.loop-k.met c.args.met.now k c.row.result c.loop-k.invariant.beyond;
      whole = length-set c.loop-k.met k c.row.result ∙ c.loop-k.invariant.whole;
    }
