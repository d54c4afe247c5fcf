-- What the calls of a reader do.
use Rattle.std.specs.Prelude.{◌≡◌, ℕ, ◌-◌, List, length, Ok, Some, None, Option, Result, MatchResult, slice_index, nat_eq}
use Rattle.std.specs.Str.{byte}
use lib.Seq.{paste}
use Rattle.source.specs.Moves.{GoesBy, PutsBack}
use Rattle.places.specs.declared.Reading.{Reading}
use Rattle.places.specs.Listing.{Place}
use Rattle.places.specs.Order.{first_of, next_of}
use Rattle.plain.specs.Lawful.{MayTake}
use Rattle.reader.specs.declared.fault.ScanFault.{ScanFault}
use Rattle.reader.specs.declared.state.Idle.{Idle}
use Rattle.reader.specs.declared.state.Holding.{Holding}
use Rattle.reader.specs.declared.state.Refused.{Refused}
use Rattle.reader.specs.Refusals.{next_refusal, reject_refusal, begin_refusal, return_refusal}

-- where a reader stands, with these bytes left
abbrev pub idle_at : Idle → List ℕ → Place
idle_at idle rest =
    record { condition = idle.condition; at_line_start = idle.at_line_start; rest = rest }

abbrev pub holding_at : Holding → List ℕ → Place
holding_at holding rest =
    record { condition = holding.condition; at_line_start = holding.at_line_start; rest = rest }

-- a refused call gives the state back
abbrev pub GivesBack : {T : Type 0} → Option ScanFault → T → Refused T → Type 0
GivesBack why state refused = (why ≡ Some refused.fault) × (refused.state ≡ state)

-- the reading found is in hand, its head may be taken and stands in the strip behind what is kept,
-- and all else is as it was
pub record Offered (place : Place) (kept : ℕ) (found : Option Reading) (strip strip' : List ℕ)
    (holding : Holding) : Type 0 where
  pub condition : holding.condition ≡ place.condition
  pub line_start : holding.at_line_start ≡ place.at_line_start
  pub kept_stays : holding.kept ≡ kept
  pub reading : found ≡ Some holding.reading
  pub may : MayTake place.rest holding.reading.head
  pub copied : strip' ≡ paste strip kept place.rest holding.reading.head

abbrev pub Nexts :
    Idle → List ℕ → List Reading → List ℕ → List ℕ → Result Holding (Refused Idle) → Type 0
Nexts idle rest listing strip strip' result =
    let why = next_refusal (length strip) rest in
    MatchResult result
    (λ holding. (why ≡ None)
    × Offered (idle_at idle rest) idle.kept (first_of listing) strip strip' holding)
    (λ refused. GivesBack why idle refused × (strip' ≡ strip))

abbrev pub Rejects :
    Holding → List ℕ → List Reading → List ℕ → List ℕ → Result Holding (Refused Holding) → Type 0
Rejects holding rest listing strip strip' result =
    let following = next_of holding.reading.rule holding.reading.total listing in
    let why = reject_refusal (length strip) following in
    MatchResult result
    (λ other. (why ≡ None)
    × Offered (holding_at holding rest) holding.kept following strip strip' other)
    (λ refused. GivesBack why holding refused × (strip' ≡ strip))

-- the reader is in the other condition
pub record Begun (idle : Idle) (condition : ℕ) (other : Idle) : Type 0 where
  pub goes : other.condition ≡ condition
  pub line_start : other.at_line_start ≡ idle.at_line_start
  pub kept : other.kept ≡ idle.kept

abbrev pub Begins : Idle → ℕ → ℕ → Result Idle (Refused Idle) → Type 0
Begins idle conditions condition result =
    let why = begin_refusal conditions condition in
    MatchResult result
    (λ other. (why ≡ None) × Begun idle condition other)
    (λ refused. GivesBack why idle refused)

-- n bytes of the rest are taken, the last of which tells whether it is at line start now, and so
-- many are kept
pub record Taken (holding : Holding) (n keeping : ℕ) (rest : List ℕ) (idle : Idle) : Type 0 where
  pub condition : idle.condition ≡ holding.condition
  pub line_start : idle.at_line_start ≡ nat_eq (slice_index rest (n - 1)) (byte "\n")
  pub kept : idle.kept ≡ keeping

module _ {S : Type 0} (rest : S → List ℕ) (slack : S → ℕ) where
  -- the byte is in front of what is left
  abbrev pub Returns : Idle → ℕ → S → S → Result Idle (Refused Idle) → Type 0
  Returns idle b source source' result =
      let why = return_refusal (slack source) in
      MatchResult result
      (λ other. (why ≡ None) × (other ≡ idle) × PutsBack rest slack b source source' (Ok idle))
      (λ refused. GivesBack why idle refused × (source' ≡ source))

  -- the source goes by n bytes, unless this is why not
  abbrev pub Takes :
      ℕ → Holding → Option ScanFault → ℕ → ℕ → S → S → Result Idle (Refused Holding) → Type 0
  Takes capacity holding why n keeping source source' result =
      MatchResult result
      (λ idle. (why ≡ None) × Taken holding n keeping (rest source) idle
      × GoesBy rest slack capacity n source source' (Ok idle))
      (λ refused. GivesBack why holding refused × (source' ≡ source))
