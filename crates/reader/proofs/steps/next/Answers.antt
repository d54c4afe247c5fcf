use Rattle.std.proofs.Common.{◌≡◌, ℕ, length, None, sym, ap, ◌∙◌}
use Rattle.table.specs.Held.{memory_of}
use Rattle.places.specs.Order.{first_of}
use Rattle.scan.specs.Listing.{table_listing}
use Rattle.plain.specs.Book.{answer}
use Rattle.reader.specs.declared.state.Idle.{Idle}
use Rattle.reader.specs.declared.reader.Reader.TheVariants.{Waiting}
use Rattle.reader.specs.declared.fault.ScanFault.{ScanFault}
use Rattle.reader.specs.Numbers.{number_of}
use Rattle.reader.specs.Moves.{idle_at}
use Rattle.reader.specs.Follows.{around, view}
use Rattle.reader.proofs.Denied.{next_denied}
use Rattle.reader.proofs.Listed.{none_listed}
use Rattle.reader.proofs.steps.next.Goals as goal

-- nothing is left, so that nothing is listed
pub returns-in-Err : goal.returns-in-Err
returns-in-Err g c =
    let m = memory_of c.args.table.now in
    let source = c.args.source.now in
    let rest = g.S.Source.rest source in
    let place = idle_at c.args.idle rest in
    let here = around rest (g.S.Source.slack source) c.args.strip.now in
    let refused = c.in-Err.ensures in
    let why = next_denied (length c.args.strip.now) rest _ c.requires refused.0.0 in
    let none : first_of (table_listing m place) ≡ None = none_listed m place why.1 in
    let number : c.number.result ≡ 21 =
    c.number.ensures ∙ ap (λ (f : ScanFault). number_of f) why.0 in
    λ offered within. rw none (
      c.plain.ensures ∙ ap (λ (n : ℕ). answer n 0) number,
      ap (λ (i : Idle). view here offered (Waiting i)) (sym refused.0.1),
      tt,
      refused.1,
    )
