use Rattle.std.proofs.Common.{◌≡◌, ◌∷◌, length, List, None, Some, sym, ap, ◌∙◌, arith}
use Rattle.places.specs.declared.Reading.{Reading}
use Rattle.scan.specs.Listing.{reading}
use Rattle.scan.specs.Left.{reading_at, left_of}
use Rattle.scan.specs.Traced.{memory_in, place_in, ends_with}
use Rattle.scan.proofs.Yielding.{first_left_of, rule_given, single_given}
use Rattle.scan.proofs.given.ReadingsLeftIterator.next.Goals as goal

pub returns-in-Some-clause-steps : goal.returns-in-Some-clause-steps
returns-in-Some-clause-steps g c =
    let s = c.args.self.now in
    let t = s.trace.now in
    let m = memory_in t in
    let p = place_in t in
    let e = c.in-Some.ending in
    let x = c.end.result in
    let of = c.in-Some.ensures.1 in
    let same : ends_with e ≡ reading_at m p x = λ i. reading (memory_in (of i)) (place_in (of i)) (sym c.end.ensures.1 i) (sym c.end.ensures.0 i) in
    let given : c.with_head.result ≡ reading_at m p x = c.with_head.ensures ∙ same in
    let first = first_left_of m p s.last (Some (ends_with e)) c.in-Some.ensures.0 in
    rule_given m p s.last x s.over s.over c.if-self.false c.if-self.false (ap Some (sym same) ∙ first)
    ∙ ap (λ d. d ∷ left_of m p (Some x) s.over) (sym given)

pub returns-in-Some-clause-goes : goal.returns-in-Some-clause-goes
returns-in-Some-clause-goes g c =
    let s = c.args.self.now in
    let t = s.trace.now in
    let m = memory_in t in
    let p = place_in t in
    let left : List Reading = left_of m p (Some c.end.result) s.over in
    let step : left_of m p s.last s.over ≡ c.with_head.result ∷ left = returns-in-Some-clause-steps g c in
    let more : length (left_of m p s.last s.over) ≡ length (c.with_head.result ∷ left) = ap length step in
    record { on = λ f. (tt, f, omega (arith, more)); keeps = tt; rests = λ f. tt }

pub returns-in-None-clause-steps : goal.returns-in-None-clause-steps
returns-in-None-clause-steps g c =
    let s = c.args.self.now in
    let t = s.trace.now in
    let m = memory_in t in
    let p = place_in t in
    single_given m p s.last c.single.result s.over c.if-self.false c.single.ensures (first_left_of m p s.last None c.in-None.ensures.0)
