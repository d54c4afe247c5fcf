use Rattle.std.proofs.Common.{◌≡◌, ◌+◌, refl, sym}
use Rattle.table.specs.Readings.{trail_row}
use Rattle.scan.specs.Traced.{memory_in, place_in}
use Rattle.scan.proofs.Greatest.{no_trail}
use Rattle.scan.proofs.Rows.{stands_nowhere}
use Rattle.scan.proofs.ending.Ending.head.Goals as goal

pub returns-then-is_none : goal.returns-then-is_none
returns-then-is_none g c =
    let e = c.args.self.now in
    let t = e.trace.now in
    let none : trail_row (memory_in t) (e.rule + 1) ≡ 0 = stands_nowhere t.table.now (trail_row (memory_in t) (e.rule + 1)) c.trail.result c.is_none.result c.is_none.ensures c.if-is_none.true c.trail.ensures in
    no_trail (memory_in t) (place_in t) e.total e.rule 0 (sym none) refl
