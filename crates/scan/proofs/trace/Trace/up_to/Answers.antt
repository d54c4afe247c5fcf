use Rattle.std.proofs.Common.{◌≡◌, suc, ◌+◌, ◌-◌, Some, None, refl, sym, ap, ◌∙◌, arith}
use Rattle.table.specs.Readings.{end_marks}
use Rattle.places.specs.Order.{first_of}
use Rattle.scan.specs.Listing.{reading, up_to}
use Rattle.scan.specs.Met.{row_met}
use Rattle.scan.specs.Traced.{memory_in, place_in}
use Rattle.scan.proofs.Found.{first_at}
use Rattle.scan.proofs.trace.Trace.up_to.Goals as goal

pub returns-in-Some : goal.returns-in-Some
returns-in-Some g c =
    let t = c.args.self.now in
    let m = memory_in t in
    let p = place_in t in
    let k = c.loop-k.k in
    let same : k - 1 + 1 ≡ suc (k - 1) = omega arith in
    let all : suc (k - 1) ≡ k = omega (arith, c.loop-k-test.true) in
    let marks : c.ends-marks.result ≡ end_marks m (row_met m p (suc (k - 1))) = c.ends-marks.ensures ∙ ap (λ n. end_marks m (row_met m p n)) same in (
      ap (λ n. Some (reading m p n c.in-Some.rule)) same
          ∙ sym (first_at m p (k - 1) c.ends-marks.result (Some c.in-Some.rule) marks c.in-Some.ensures)
          ∙ ap (λ n. first_of (up_to m p n)) all ∙ c.loop-k.invariant,
      refl,
    )

pub loop-k-preserved : goal.loop-k-preserved
loop-k-preserved g c =
    let t = c.args.self.now in
    let m = memory_in t in
    let p = place_in t in
    let k = c.loop-k.k in
    let same : k - 1 + 1 ≡ suc (k - 1) = omega arith in
    let all : suc (k - 1) ≡ k = omega (arith, c.loop-k-test.true) in
    let marks : c.ends-marks.result ≡ end_marks m (row_met m p (suc (k - 1))) = c.ends-marks.ensures ∙ ap (λ n. end_marks m (row_met m p n)) same in
    sym (first_at m p (k - 1) c.ends-marks.result None marks c.in_default.ensures)
    ∙ ap (λ n. first_of (up_to m p n)) all ∙ c.loop-k.invariant
