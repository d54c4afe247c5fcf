use Rattle.std.proofs.Common.{◌≡◌, suc, ◌+◌, ◌-◌, ◌<◌, length, get_or, get_or-set_same, get_or-set_other, sym, ap, ◌∙◌, arith}
use Rattle.bits.specs.Set.{bit}
use Rattle.table.specs.Readings.{trail_row, IsStored}
use Rattle.scan.specs.Trails.{slashed}
use Rattle.scan.specs.Traced.{memory_in, place_in}
use Rattle.scan.proofs.Rows.{stands_stored}
use Rattle.scan.proofs.Trailing.{none_begins, one_begins}
use Rattle.scan.proofs.trace.Trace.begin.Goals as goal

pub returns-then-not-marked-clause-moving : goal.returns-then-not-marked-clause-moving
returns-then-not-marked-clause-moving g c =
    let s = c.args.self.now in
    let m = memory_in s in
    let p = place_in s in
    let t = c.args.trails.now in
    let slash : c.marked.result ≡ slashed m p c.args.rule (c.args.k + 1) = c.marked.ensures ∙ ap (λ o. bit o c.args.rule) c.slashes.ensures in
    none_begins m p c.args.rule c.args.k c.args.low c.args.high t.rows t.heads c.requires.trails (omega (arith, s.alive.within, c.requires.live)) (sym slash ∙ c.if-not-marked.true)

pub returns-clause-moving : goal.returns-clause-moving
returns-clause-moving g c =
    let s = c.args.self.now in
    let m = memory_in s in
    let p = place_in s in
    let i = c.args.rule in
    let t = c.args.trails.now in
    let new = c.put.new.self in
    let n = c.args.k in
    let at = c.args.low - 1 in
    let trail = c.args.trail.now in
    let slash : c.marked.result ≡ slashed m p i (n + 1) = c.marked.ensures ∙ ap (λ o. bit o i) c.slashes.ensures in
    let stored : IsStored m (trail_row m (suc i)) = stands_stored s.table.now trail (trail_row m (suc i)) c.requires.of c.requires.trail in
    let few_rows : at < length t.rows = omega (arith, c.requires.some, c.requires.few) in
    let few_heads : at < length t.heads = omega (arith, c.requires.some, c.requires.few) in
    one_begins m p i n c.args.low c.args.high t.rows t.heads c.requires.trails (omega (arith, s.alive.within, c.requires.live)) at new.rows new.heads (omega (arith, c.requires.some))
    (sym slash ∙ c.if-not-marked.false) stored
    (ap (λ xs. get_or xs at 0) c.put.ensures.rows ∙ get_or-set_same t.rows at c.row.result 0 few_rows ∙ c.row.ensures ∙ c.requires.trail)
    (ap (λ xs. get_or xs at 0) c.put.ensures.heads ∙ get_or-set_same t.heads at (n + 1) 0 few_heads)
    (λ x a. ap (λ xs. get_or xs x 0) c.put.ensures.rows ∙ get_or-set_other t.rows at x c.row.result 0 (λ e. omega arith))
    (λ x a. ap (λ xs. get_or xs x 0) c.put.ensures.heads ∙ get_or-set_other t.heads at x (n + 1) 0 (λ e. omega arith))
