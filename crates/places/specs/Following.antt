-- What comes after a reading of the listing.
use Rattle.std.specs.Prelude.{◌≡◌, List, ◌∷◌, ◌++◌}
use Rattle.grammar.specs.File.{RuleText}
use Rattle.places.specs.declared.Reading.{Reading}
use Rattle.places.specs.Listing.{Place, Listing}
use Rattle.places.specs.Order.{first_of, next_of}

-- behind each reading of a listing the one found is the next of the list, and none behind the last
abbrev pub NextStandsBehind : Type 0
NextStandsBehind =
    (rules : List RuleText) (p : Place) (before behind : List Reading) (d : Reading) →
    Listing rules p (before ++ (d ∷ behind))
    → next_of d.rule d.total (before ++ (d ∷ behind)) ≡ first_of behind
