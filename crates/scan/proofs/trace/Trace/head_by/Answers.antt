use Rattle.std.proofs.Common.{◌≡◌, ◌+◌, ◌-◌, ◌≤◌, refl, sym, ap, ◌∙◌, arith}
use Rattle.bits.specs.Set.{bit}
use Rattle.table.specs.Readings.{slash_marks}
use Rattle.scan.specs.Met.{row_met}
use Rattle.scan.specs.Traced.{memory_in, place_in}
use Rattle.scan.proofs.Greatest.{none_fits, no_trail, this_fits}
use Rattle.scan.proofs.trace.Trace.head_by.Goals as goal

pub returns-in_default : goal.returns-in_default
returns-in_default g c =
    let t = c.args.self.now in
    no_trail (memory_in t) (place_in t) c.args.total c.args.rule 0 (sym c.in_default.ensures) refl

pub returns-then-is_trailing : goal.returns-then-is_trailing
returns-then-is_trailing g c =
    let t = c.args.self.now in
    let m = memory_in t in
    let p = place_in t in
    let trail = c.in-Some.trail in
    let h = c.loop-k.k - 1 + 1 in
    let same : h ≡ c.loop-k.k = omega (arith, c.loop-k-test.true) in
    let most : h ≤ c.args.total = omega arith in
    let slash : c.marked.result ≡ bit (slash_marks m (row_met m p h)) c.args.rule = c.marked.ensures ∙ ap (λ o. bit o c.args.rule) c.slashes.ensures in
    this_fits m p c.args.total c.args.rule trail.row c.in-Some.ensures.1 h c.marked.result c.marked.result c.is_trailing.result (omega arith) most slash refl c.if-marked.true c.is_trailing.ensures c.if-is_trailing.true
    (λ k a b. c.loop-k.invariant.longer k (omega arith) b)

pub returns : goal.returns
returns g c =
    let t = c.args.self.now in
    none_fits (memory_in t) (place_in t) c.args.total c.args.rule
    (λ h some most. c.loop-k.invariant.longer h (omega (arith, c.loop-k-test.false)) most)
