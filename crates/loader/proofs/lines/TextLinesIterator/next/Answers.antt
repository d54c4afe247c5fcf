use Rattle.std.proofs.Common.{ℕ, ◌≤◌, List, length, take, sym, refl, ap, ◌∙◌, subst, arith}
use Rattle.loader.proofs.Left.{within, whole, given, passed, none_left}
use Rattle.loader.proofs.lines.TextLinesIterator.next.Goals as goal

pub slice_bounds-result-end : goal.slice_bounds-result-end
slice_bounds-result-end c =
    let s = c.loop-self.self in
    whole s.file.now s.at _ _ c.loop-self-test.true s.few c.line_at-line.ensures.end c.line_at-line.ensures.next

pub returns-then-start-line-clause-steps : goal.returns-then-start-line-clause-steps
returns-then-start-line-clause-steps c =
    let s = c.loop-self.self in
    let end = c.line_at-line.result.end in
    let i = c.loop-self.invariant in
    record {
      file = i.0;
      first = (record { start = s.at; end = end }, sym i.1 ∙ given s.file.now s.at _ _ c.loop-self-test.true s.few c.line_at-line.ensures.end c.line_at-line.ensures.next c.if-start-line.true, record { within = subst (λ (f : List ℕ). end ≤ length f) i.0 (within s.file.now s.at end _ c.loop-self-test.true s.few c.line_at-line.ensures.end c.line_at-line.ensures.next); text = ap (take end) i.0; start = refl });
    }

pub returns-then-start-line-clause-goes : goal.returns-then-start-line-clause-goes
returns-then-start-line-clause-goes c =
    let s = c.loop-self.self in
    let g = given s.file.now s.at _ _ c.loop-self-test.true s.few c.line_at-line.ensures.end c.line_at-line.ensures.next c.if-start-line.true in
    record { on = λ _. (tt, tt, omega (arith, ap length g, ap length c.loop-self.invariant.1)); keeps = tt; rests = λ _. tt }

pub loop-self-preserved : goal.loop-self-preserved
loop-self-preserved c =
    let s = c.loop-self.self in
    let i = c.loop-self.invariant in
    (i.0, passed s.file.now s.at _ _ c.loop-self-test.true s.few c.line_at-line.ensures.end c.line_at-line.ensures.next c.if-start-line.false ∙ i.1)

pub returns-clause-steps : goal.returns-clause-steps
returns-clause-steps c =
    let s = c.loop-self.self in
    let i = c.loop-self.invariant in
    let none = none_left s.file.now (length s.file.now) s.at c.loop-self-test.false in
    record { file = i.0; first = (sym i.1 ∙ none, none) }
