use Rattle.std.proofs.Common.{◌≡◌, ◌<◌, ◌≤◌, length, get_or, refl, sym, ap, subst, ◌∙◌, arith}
use Rattle.table.specs.Held.{memory_of}
use Rattle.table.specs.Readings.{next_row, IsStored}
use Rattle.scan.specs.Trails.{AreMoving}
use Rattle.scan.specs.Traced.{memory_in, place_in}
use Rattle.scan.proofs.Rows.{stands_stored}
use Rattle.scan.proofs.Trailing.{Went, went_nowhere, went_on, all_moved}
use Rattle.scan.proofs.trace.Trace.go_on.Goals as goal
use Rattle.scan.proofs.trace.Trace.go_on.Goals.{in-Some, in_default}

pub stored-requires : goal.stored-requires
stored-requires g c = (c.loop-j.invariant.moving.left c.loop-j.j (omega arith) c.loop-j-test.true).stored

pub loop-j-preserved : goal.loop-j-preserved
loop-j-preserved g c =
    let s = c.args.self.now in
    let m = memory_in s in
    let p = place_in s in
    let i = c.args.rule in
    let n = c.args.k in
    let from = c.args.from in
    let at = c.loop-j.at in
    let j = c.loop-j.j in
    let to = c.args.high in
    let b = c.args.b in
    let rs = c.loop-j.trails.rows in
    let hs = c.loop-j.trails.heads in
    let inv = c.loop-j.invariant in
    let short : n < length p.rest = omega (arith, s.alive.within, c.requires.live) in
    let byte = c.requires.byte in
    let left = c.loop-j-test.true in
    let walk = c.stored.result in
    let here : next_row (memory_of walk.table.now) walk.row b ≡ next_row m (get_or rs j 0) b =
    ap (λ o. next_row (memory_of o) walk.row b) c.stored.ensures.table ∙ ap (λ q. next_row m q b) c.stored.ensures.row in
    let low : from ≤ at = omega (arith, c.requires.from, inv.low) in
    let few_rows : j < length rs = omega (arith, inv.rows, c.requires.few) in
    let few_heads : j < length hs = omega (arith, inv.heads, c.requires.few) in
    let went : Went m p i n from at j to b rs hs inv.moving short byte left c.match-step.trails.rows c.match-step.trails.heads c.match-step.at = elim c.match-step.branch [
      | in-Some w ↦
          let next = w.in-Some.next in
          let row : next.row ≡ next_row m (get_or rs j 0) b = w.in-Some.ensures.1 ∙ here in
          let stored : IsStored m w.row.result = subst (IsStored m) (sym w.row.ensures) (stands_stored s.table.now next next.row (w.in-Some.ensures.0 ∙ c.stored.ensures.table) refl) in
          let new = w.add-at.new.self in
          rw (w.trails-is, w.at-is)
          (went_on m p i n from at j to b rs hs inv.moving short byte left w.row.result new.rows new.heads w.add-at.result low inv.high few_rows few_heads (w.row.ensures ∙ row) stored w.add-at.ensures)
      | in_default w ↦ rw (w.trails-is, w.at-is) (went_nowhere m p i n from at j to b rs hs inv.moving short byte left inv.high (sym w.in_default.ensures ∙ here))
    ] in
    record {
      moving = went.moving;
      low = omega (arith, inv.low, went.low);
      high = went.high;
      rows = went.rows_kept ∙ inv.rows;
      heads = went.heads_kept ∙ inv.heads;
    }

pub returns-clause-moved : goal.returns-clause-moved
returns-clause-moved g c =
    let s = c.args.self.now in
    let all : c.loop-j.j ≡ c.args.high = omega (arith, c.loop-j-test.false, c.requires.order) in
    let t = c.loop-j.trails in
    all_moved (memory_in s) (place_in s) c.args.rule c.args.k c.args.from c.loop-j.at c.args.high t.rows t.heads
    (subst (λ o. AreMoving (memory_in s) (place_in s) c.args.rule c.args.k c.args.from c.loop-j.at o c.args.high t.rows t.heads) all c.loop-j.invariant.moving)
