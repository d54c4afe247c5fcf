-- Which sets are the rows, and in which order: the one in which they first come up.
use Rattle.std.specs.Prelude.{◌≡◌, ℕ, ◌<◌, ◌≤◌, Bool, true, false, ◌⊎◌, List, length, slice_index_or}
use Rattle.grammar.specs.File.{RuleText}
use Rattle.automaton.specs.Sets.{Set, empty, same}
use Rattle.automaton.specs.Automaton.{start_set, trail_set, leads}
use Rattle.automaton.specs.Numbering.{none, row_sets}
use Rattle.automaton.specs.Theorems.{Known, Alike}

-- where a set comes up: by a start, by a trail start, or by a byte from a row, counted from 0
pub data Meeting : Type 0 where
  by_start : (condition : ℕ) → (at_line_start : Bool) → Meeting
  by_trail : (rule : ℕ) → Meeting
  by_byte : (row byte : ℕ) → Meeting

-- the set that comes up there
abbrev pub met_at : List RuleText → List Set → Meeting → Set
met_at qs rs (by_start condition line) = start_set qs 0 condition line
met_at qs rs (by_trail rule) = trail_set qs 0 rule
met_at qs rs (by_byte row byte) = leads qs (slice_index_or rs row none) byte

-- its turn: the starts by condition, away from line start and then at it; then the trail starts by
-- rule; then the bytes from row 0, from 0 to 255, those from row 1, and so on
abbrev pub turn : Meeting → ℕ × ℕ × ℕ
turn (by_start condition false) = (0, condition, 0)
turn (by_start condition true) = (0, condition, 1)
turn (by_trail rule) = (1, rule, 0)
turn (by_byte row byte) = (2, row, byte)

-- turn s is before turn t: of the numbers that differ, the first is less
abbrev pub TurnBefore : ℕ × ℕ × ℕ → ℕ × ℕ × ℕ → Type 0
TurnBefore s t = (s.0 < t.0) ⊎ ((s.0 ≡ t.0) × ((s.1 < t.1) ⊎ ((s.1 ≡ t.1) × (s.2 < t.2))))

abbrev pub Sooner : Meeting → Meeting → Type 0
Sooner m n = TurnBefore (turn m) (turn n)

-- with these rules, so many conditions and these sets as rows
module _ (qs : List RuleText) (conditions : ℕ) (rs : List Set) where
  -- there is such a condition, such a rule, or such a row and byte
  abbrev pub TakesPlace : Meeting → Type 0
  TakesPlace (by_start condition line) = condition < conditions
  TakesPlace (by_trail rule) = rule < length qs
  TakesPlace (by_byte row byte) = (row < length rs) × (byte < 256)

  -- the set of row k comes up at m and not sooner, and if by a byte, then from a row before k
  pub record FirstMeeting (k : ℕ) (m : Meeting) : Type 0 where
    pub takes_place : TakesPlace m
    pub of_row : same (slice_index_or rs k none) (met_at qs rs m) ≡ true
    pub from_before : (row byte : ℕ) → m ≡ by_byte row byte → row < k
    pub first : (n : Meeting) → TakesPlace n → Sooner n m
        → same (slice_index_or rs k none) (met_at qs rs n) ≡ false

  -- whatever comes up is empty or has a row; no row is empty, each comes up, and they stand in the
  -- order in which they first do
  pub record InOrder : Type 0 where
    pub complete : (m : Meeting) → TakesPlace m → Known rs (met_at qs rs m)
    pub filled : (k : ℕ) → k < length rs → empty (slice_index_or rs k none) ≡ false
    pub met : (k : ℕ) → k < length rs → (m : Meeting) × FirstMeeting k m
    pub in_order : (j k : ℕ) (m n : Meeting) → j < k → k < length rs
        → FirstMeeting j m → FirstMeeting k n → Sooner m n

-- the rows of a file, where they fit, are in order
abbrev pub RowsInOrder : Type 0
RowsInOrder =
    (qs : List RuleText) (conditions most : ℕ) → length (row_sets qs conditions most) ≤ most
    → InOrder qs conditions (row_sets qs conditions most)

-- two lists of sets that are in order are the same sets, place by place
abbrev pub OneOrder : Type 0
OneOrder =
    (qs : List RuleText) (conditions : ℕ) (rs ts : List Set)
    → InOrder qs conditions rs → InOrder qs conditions ts → Alike rs ts
