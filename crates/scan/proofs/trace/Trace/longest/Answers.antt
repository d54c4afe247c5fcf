use Rattle.std.proofs.Common.{◌≡◌, true, sym, ap, ◌∙◌, get_or, arith}
use Rattle.bits.specs.Set.{bit}
use Rattle.table.specs.Held.{memory_of}
use Rattle.table.specs.Readings.{end_marks}
use Rattle.scan.specs.Traced.{memory_in, place_in}
use Rattle.scan.proofs.Trailing.{head_at, head_none}
use Rattle.scan.proofs.trace.Trace.longest.Goals as goal

pub returns-then-marked : goal.returns-then-marked
returns-then-marked g c =
    let s = c.args.self.now in
    let m = memory_in s in
    let x = c.loop-x.x in
    let t = c.args.trails.now in
    let w = c.stored.result in
    let on : bit (end_marks m (get_or t.rows x 0)) c.args.rule ≡ true =
    ap (λ o. bit o c.args.rule) (sym (c.ends.ensures ∙ ap (λ o. end_marks (memory_of o) w.row) c.stored.ensures.table ∙ ap (end_marks m) c.stored.ensures.row)) ∙ sym c.marked.ensures ∙ c.if-marked.true in
    head_at m (place_in s) c.args.rule c.args.n c.args.from c.args.to t.rows t.heads c.requires.trails x c.loop-x.auto.x c.loop-x-test.true
    c.loop-x.invariant on

pub returns : goal.returns
returns g c =
    let s = c.args.self.now in
    let t = c.args.trails.now in
    head_none (memory_in s) (place_in s) c.args.rule c.args.n c.args.from c.args.to t.rows t.heads c.requires.trails
    (λ y low high. c.loop-x.invariant y low (omega (arith, c.loop-x-test.false)))
