-- What a trace stands for.
use Rattle.std.specs.Prelude.{◌≡◌, ℕ, ◌<◌, List, slice_index, Option, IfSome}
use Rattle.std.specs.Option.{option_map}
use Rattle.table.specs.Memory.{Memory}
use Rattle.table.specs.Held.{memory_of}
use Rattle.source.specs.declared.Source.{Ghosts}
use Rattle.places.specs.declared.Reading.{Reading}
use Rattle.places.specs.Listing.{Place}
use Rattle.scan.specs.declared.trace.Trace.{Trace}
use Rattle.scan.specs.declared.ending.Ending.{Ending}
use Rattle.scan.specs.declared.trails.Trails.{Trails}
use Rattle.scan.specs.Listing.{place_of, head_of, reading, of_rules, table_listing}
use Rattle.scan.specs.Trails.{AreTrails, AreMoving, HeadsOf}
use Rattle.scan.specs.declared.told.RuleHeads.{RuleHeads}
use Rattle.scan.specs.Told.{Told}

module _ {S : Type 0} {g : Ghosts S} where
  -- what its table holds, and the place where it begins
  abbrev pub memory_in : Trace S g → Memory
  memory_in t = memory_of t.table.now

  abbrev pub place_in : Trace S g → Place
  place_in t = place_of t.start (g.rest t.source.now)

  -- the readings of rules that are listed there, and all that is
  abbrev pub rules_in : Trace S g → List Reading
  rules_in t = of_rules (memory_in t) (place_in t)

  abbrev pub listing_in : Trace S g → List Reading
  listing_in t = table_listing (memory_in t) (place_in t)

  -- the head that rule i has there with total n
  abbrev pub head_in : Trace S g → ℕ → ℕ → ℕ
  head_in t n i = head_of (memory_in t) (place_in t) n i

  -- the first n of these are its bytes
  abbrev pub AreBytes : Trace S g → List ℕ → ℕ → Type 0
  AreBytes t bytes n = (k : ℕ) → k < n → slice_index bytes k ≡ slice_index (place_in t).rest k

  -- the reading that ends there
  abbrev pub ends_with : Ending S g → Reading
  ends_with e = reading (memory_in e.trace.now) (place_in e.trace.now) e.total e.rule

  -- r is where the reading d ends in the trace t
  abbrev pub EndsIn : Trace S g → Option Reading → Option (Ending S g) → Type 0
  EndsIn t d r = (option_map ends_with r ≡ d) × IfSome r (λ e. e.trace.now ≡ t)

  -- work memory holds the trails of rule i after n bytes, from `from` up to `to`
  abbrev pub TrailsIn : Trace S g → ℕ → ℕ → ℕ → ℕ → Trails → Type 0
  TrailsIn t i n from to w = AreTrails (memory_in t) (place_in t) i n from to w.rows w.heads

  -- those up to `at` have moved by one byte more, those from j on have not
  abbrev pub MovingIn : Trace S g → ℕ → ℕ → ℕ → ℕ → ℕ → ℕ → Trails → Type 0
  MovingIn t i n from at j to w =
      AreMoving (memory_in t) (place_in t) i n from at j to w.rows w.heads

  -- hs tells the heads of rule i with each total up to the live bytes
  abbrev pub HeadsIn : Trace S g → List ℕ → ℕ → Type 0
  HeadsIn t hs i = HeadsOf (memory_in t) (place_in t) t.live hs i

  -- the heads of these rules are told
  abbrev pub ToldIn : Trace S g → List RuleHeads → List ℕ → Type 0
  ToldIn t hs told = Told (memory_in t) (place_in t) t.live hs told
