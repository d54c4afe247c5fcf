-- What is listed at a place, and the listing.
use Rattle.std.specs.Prelude.{◌≡◌, ℕ, suc, ◌<◌, ◌≤◌, Bool, true, ◌⊎◌, List, [], ◌∷◌, ◌++◌, length, take, drop, Some, None, Option, slice_get, All, AllPairs, Contains}
use Rattle.patterns.specs.Expression.{Expression, Has}
use Rattle.grammar.specs.File.{RuleText}
use Rattle.places.specs.declared.Reading.{Reading}

-- where a text is read from: in a condition, at line start or not, and the bytes that are left
pub record Place : Type 0 where
  pub condition : ℕ
  pub at_line_start : Bool
  pub rest : List ℕ

-- the first h of the bytes s are a string of r, and the others one of the trailing part; without
-- one, all of s is r's
abbrev pub Splits : Expression → Option Expression → List ℕ → ℕ → Type 0
Splits r None s h = (h ≡ length s) × Has r s
Splits r (Some x) s h = (h ≤ length s) × Has r (take h s) × Has x (drop h s)

-- at the place p the rule q matches so many bytes in all, of which the head is r's: a head of at
-- least
-- one byte, and the greatest there is
pub record Matches (q : RuleText) (p : Place) (total head : ℕ) : Type 0 where
  pub active : q.active p.condition ≡ true
  pub anchor : q.anchored ≡ true → p.at_line_start ≡ true
  pub some : 1 ≤ total
  pub within : total ≤ length p.rest
  pub headed : 1 ≤ head
  pub splits : Splits q.expression q.trailing (take total p.rest) head
  pub greatest : (h : ℕ) → Splits q.expression q.trailing (take total p.rest) h → h ≤ head

-- d is a reading of one of the rules, which count from 1: a match of at most 1,024 bytes
pub record Listed (rules : List RuleText) (p : Place) (d : Reading) : Type 0 where
  pub before : ℕ
  pub rule : RuleText
  pub number : d.rule ≡ suc before
  pub of : slice_get rules before ≡ Some rule
  pub matches : Matches rule p d.total d.head
  pub most : d.total ≤ 1024

-- longer totals first, then earlier rules
abbrev pub Before : Reading → Reading → Type 0
Before d e = (e.total < d.total) ⊎ ((d.total ≡ e.total) × (d.rule < e.rule))

-- where there is a byte, it is a reading by itself, of rule 0
abbrev pub single : Reading
single = record { rule = 0; total = 1; head = 1 }

abbrev pub last_resort : List ℕ → List Reading
last_resort [] = []
last_resort (b ∷ s) = single ∷ []

-- ds has each reading that is allowed, and no other, in order, and then the single byte
pub record IsListing (allowed : Reading → Type 0) (rest : List ℕ) (ds : List Reading) : Type 0 where
  pub readings : List Reading
  pub whole : ds ≡ readings ++ last_resort rest
  pub order : AllPairs Before readings
  pub right : All allowed readings
  pub none_missing : (d : Reading) → allowed d → Contains readings d

-- the listing at a place
abbrev pub Listing : List RuleText → Place → List Reading → Type 0
Listing rules p = IsListing (Listed rules p) p.rest

-- there is one at each place, and no other
abbrev pub OneListing : Type 0
OneListing =
    (rules : List RuleText) (p : Place) →
    ((ds : List Reading) × Listing rules p ds)
    × ((ds es : List Reading) → Listing rules p ds → Listing rules p es → ds ≡ es)
