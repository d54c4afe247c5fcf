use Rattle.std.proofs.Common.{inl, inr, ◌∙◌, arith}
use Rattle.scan.specs.Traced.{memory_in, place_in}
use Rattle.scan.proofs.Found.{next_beyond, next_past, none_then}
use Rattle.scan.proofs.trace.Trace.after.Goals as goal
use Rattle.scan.proofs.trace.Trace.after.Goals.{then-rule-eq0-via-then-rule-eq0, then-rule-eq0-via-else-rule-eq0+then-total-eq0}

pub returns-then-rule-eq0 : goal.returns-then-rule-eq0
returns-then-rule-eq0 g c =
    let t = c.args.self.now in
    let none = none_then (memory_in t) (place_in t) c.args.rule c.args.total in
    elim c.then-rule-eq0.branch [
      | then-rule-eq0-via-then-rule-eq0 w ↦ (none (inl w.if-rule-eq0.true), tt)
      | then-rule-eq0-via-else-rule-eq0+then-total-eq0 w ↦ (none (inr w.if-total-eq0.true), tt)
    ]

pub returns-then-total-self : goal.returns-then-total-self
returns-then-total-self g c =
    let t = c.args.self.now in
    let beyond = next_beyond (memory_in t) (place_in t) c.args.rule c.args.total t.live in
    (c.up_to.ensures.0 ∙ beyond c.if-rule-eq0.false c.if-total-self.true t.alive, c.up_to.ensures.1)

pub returns-then-rule-gt64 : goal.returns-then-rule-gt64
returns-then-rule-gt64 g c =
    let t = c.args.self.now in
    let past = next_past (memory_in t) (place_in t) c.args.rule c.args.total t.live in
    (c.up_to-then-rule-gt64.ensures.0 ∙ past c.if-rule-eq0.false (omega (arith, c.if-rule-gt64.true)) c.if-total-eq0.false (omega (arith, c.if-total-self.false)) t.alive, c.up_to-then-rule-gt64.ensures.1)
