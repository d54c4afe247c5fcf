use Rattle.std.proofs.Common.{◌≡◌, suc, ◌-◌, ◌≤◌, length, min, Some, None, refl, sym, ap, ◌∙◌, arith}
use Rattle.table.specs.Readings.{end_marks}
use Rattle.places.specs.Order.{next_of}
use Rattle.scan.specs.Listing.{reading, of_rules}
use Rattle.scan.specs.Met.{row_met}
use Rattle.scan.specs.Traced.{memory_in, place_in}
use Rattle.scan.proofs.Found.{next_at}
use Rattle.scan.proofs.trace.Trace.behind.Goals as goal

pub returns-in-Some : goal.returns-in-Some
returns-in-Some g c =
    let t = c.args.self.now in
    let m = memory_in t in
    let p = place_in t in
    let j = c.args.total - 1 in
    let all : suc j ≡ c.args.total = omega (arith, c.requires.total) in
    let most : suc j ≤ min 1024 (length p.rest) = omega (arith, c.requires.total, c.requires.live, t.alive.most, t.alive.within) in
    let marks : c.args.marks ≡ end_marks m (row_met m p (suc j)) = c.requires.marks ∙ ap (λ n. end_marks m (row_met m p n)) (sym all) in (
      ap (λ n. Some (reading m p n c.in-Some.rule)) (sym all)
          ∙ sym (next_at m p (suc c.args.rule) j (min 1024 (length p.rest)) c.args.marks (Some c.in-Some.rule) (λ e. omega arith) most marks c.in-Some.ensures)
          ∙ ap (λ n. next_of (suc c.args.rule) n (of_rules m p)) all,
      refl,
    )

pub returns-in-None : goal.returns-in-None
returns-in-None g c =
    let t = c.args.self.now in
    let m = memory_in t in
    let p = place_in t in
    let j = c.args.total - 1 in
    let all : suc j ≡ c.args.total = omega (arith, c.requires.total) in
    let most : suc j ≤ min 1024 (length p.rest) = omega (arith, c.requires.total, c.requires.live, t.alive.most, t.alive.within) in
    let marks : c.args.marks ≡ end_marks m (row_met m p (suc j)) = c.requires.marks ∙ ap (λ n. end_marks m (row_met m p n)) (sym all) in (
      c.up_to.ensures.0
          ∙ sym (next_at m p (suc c.args.rule) j (min 1024 (length p.rest)) c.args.marks None (λ e. omega arith) most marks c.in-None.ensures)
          ∙ ap (λ n. next_of (suc c.args.rule) n (of_rules m p)) all,
      c.up_to.ensures.1,
    )
