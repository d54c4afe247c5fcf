use Rattle.std.proofs.Common.{suc, sym, ap, ◌∙◌}
use Rattle.std.specs.Option.{option_map}
use Rattle.places.specs.Order.{comes_after, first_of}
use Rattle.scan.specs.Listing.{of_rules}
use Rattle.scan.specs.Left.{behind, reading_at}
use Rattle.scan.specs.Traced.{memory_in, place_in}
use Rattle.scan.proofs.Behind.{first_found}
use Rattle.scan.proofs.left.ReadingsLeft.ending.Goals as goal

pub returns-in-Some : goal.returns-in-Some
returns-in-Some g c =
    let t = c.args.self.now.trace.now in
    let m = memory_in t in
    let p = place_in t in
    let last = c.in-Some.last in
    let ds = of_rules m p in (
      c.behind.ensures.0
          ∙ sym (first_found (comes_after (suc last.rule) last.total) ds)
          ∙ ap (λ o. first_of (behind (option_map (reading_at m p) o) ds)) (sym c.in-Some.is),
      c.behind.ensures.1,
    )
