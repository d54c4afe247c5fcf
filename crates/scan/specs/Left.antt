-- What is left of a listing, where its readings are given one after another.
use Rattle.std.specs.Prelude.{◌≡◌, ℕ, ◌≤◌, Bool, cond, List, [], Some, None, Option, filter}
use Rattle.std.specs.Option.{option_map}
use Rattle.table.specs.Memory.{Memory}
use Rattle.table.specs.Readings.{end_marks}
use Rattle.places.specs.declared.Reading.{Reading}
use Rattle.places.specs.Listing.{Place}
use Rattle.places.specs.Order.{comes_after}
use Rattle.scan.specs.declared.end.End.{End}
use Rattle.scan.specs.Listing.{reading, table_listing}
use Rattle.scan.specs.Met.{row_met}

-- those behind the reading that was given last, or all before any was given
abbrev pub behind : Option Reading → List Reading → List Reading
behind None ds = ds
behind (Some d) ds = filter (comes_after d.rule d.total) ds

-- the reading of a rule that ended there
abbrev pub reading_at : Memory → Place → End → Reading
reading_at m p e = reading m p e.total e.rule

-- it ended within n live bytes, and these are the end marks there
abbrev pub EndedAt : Memory → Place → ℕ → End → Type 0
EndedAt m p n e = (1 ≤ e.total) × (e.total ≤ n) × (e.marks ≡ end_marks m (row_met m p e.total))

-- what is left behind the reading of a rule that was given last; nothing once the listing is over
abbrev pub left_of : Memory → Place → Option End → Bool → List Reading
left_of m p last over =
    cond over [] (behind (option_map (reading_at m p) last) (table_listing m p))
