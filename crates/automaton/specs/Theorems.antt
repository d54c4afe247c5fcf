-- What holds of the rows and of their numbers.
use Rattle.std.specs.Prelude.{◌≡◌, ℕ, suc, ◌<◌, ◌≤◌, Bool, true, false, ◌||◌, ◌↔◌, List, ◌++◌, length, slice_index_or}
use Rattle.grammar.specs.File.{RuleText}
use Rattle.automaton.specs.Sets.{Set, empty, same}
use Rattle.automaton.specs.Automaton.{start_set, trail_set, leads}
use Rattle.automaton.specs.Numbering.{stored, place, number, meet, none, row_sets}

-- the set has a number among these rows: it is empty or one of them
abbrev pub Known : List Set → Set → Type 0
Known rs s = (empty s || stored rs s) ≡ true

-- i, counted from 0, is the first of these that is the same set
pub record FirstSame (rs : List Set) (s : Set) (i : ℕ) : Type 0 where
  pub within : i < length rs
  pub equal : same (slice_index_or rs i none) s ≡ true
  pub earliest : (j : ℕ) → j < i → same (slice_index_or rs j none) s ≡ false

-- no two of these are the same, and none is empty
pub record Apart (rs : List Set) : Type 0 where
  pub distinct : (i j : ℕ) → i < j → j < length rs
      → same (slice_index_or rs i none) (slice_index_or rs j none) ≡ false
  pub filled : (i : ℕ) → i < length rs → empty (slice_index_or rs i none) ≡ false

abbrev pub RowsDistinct : Type 0
RowsDistinct = (qs : List RuleText) (conditions most : ℕ) → Apart (row_sets qs conditions most)

-- whatever a scan may start from is among the rows, and where they are not too many, whatever a
-- byte leads to from a row
pub record Closed (qs : List RuleText) (conditions most : ℕ) (rs : List Set) : Type 0 where
  pub from_starts : (c : ℕ) (line : Bool) → c < conditions → Known rs (start_set qs 0 c line)
  pub from_trails : (i : ℕ) → i < length qs → Known rs (trail_set qs 0 i)
  pub from_rows : length rs ≤ most → (k b : ℕ) → k < length rs → b < 256
      → Known rs (leads qs (slice_index_or rs k none) b)

abbrev pub MetAreStored : Type 0
MetAreStored = (qs : List RuleText) (conditions most : ℕ)
    → Closed qs conditions most (row_sets qs conditions most)

-- the number of a set is 0, or that of the first row that is the same; once given, it stays
pub record Named (rs : List Set) (s : Set) : Type 0 where
  pub of_empty : empty s ≡ true → number rs s ≡ 0
  pub of_stored : empty s ≡ false → stored rs s ≡ true → (i : ℕ) × (number rs s ≡ suc i)
      × FirstSame rs s i
  pub stays : Known rs s → (ts : List Set) → number (rs ++ ts) s ≡ number rs s

abbrev pub NumbersNameRows : Type 0
NumbersNameRows = (rs : List Set) (s : Set) → Named rs s

-- as many of these as of those, and each the same as the one at its place
pub record Alike (rs ts : List Set) : Type 0 where
  pub as_many : length rs ≡ length ts
  pub at_places : (k : ℕ) → same (slice_index_or rs k none) (slice_index_or ts k none) ≡ true

-- sets are the same if they have the same members, and then nothing here tells them apart
pub record SameIsEqualMembers : Type 0 where
  pub same_members : (s t : Set) → (same s t ≡ true) ↔ ((p : ℕ) → p < 512 → s p ≡ t p)
  pub no_members : (s : Set) → (empty s ≡ true) ↔ ((p : ℕ) → p < 512 → s p ≡ false)
  pub reflexive : (s : Set) → same s s ≡ true
  pub symmetric : (s t : Set) → same s t ≡ true → same t s ≡ true
  pub transitive : (s t u : Set) → same s t ≡ true → same t u ≡ true → same s u ≡ true
  pub as_empty : (s t : Set) → same s t ≡ true → empty s ≡ empty t
  pub as_stored : (rs : List Set) (s t : Set) → same s t ≡ true → stored rs s ≡ stored rs t
  pub as_placed : (rs : List Set) (s t : Set) → same s t ≡ true → place rs s ≡ place rs t
  pub as_numbered : (rs : List Set) (s t : Set) → same s t ≡ true → number rs s ≡ number rs t
  pub as_met : (rs : List Set) (s t : Set) → same s t ≡ true → Alike (meet rs s) (meet rs t)

abbrev pub EntriesWithin : Type 0
EntriesWithin = (rs : List Set) (s : Set) → Known rs s → number rs s ≤ length rs

-- where the rows fit, more room changes none of them
abbrev pub RoomChangesNothing : Type 0
RoomChangesNothing =
    (qs : List RuleText) (conditions most more : ℕ) → length (row_sets qs conditions most) ≤ most
    → most ≤ more → row_sets qs conditions more ≡ row_sets qs conditions most

-- row k, counted from 0, stands for a start, for a trail start, or for where a byte leads from a
-- row before it
pub data Met (qs : List RuleText) (conditions : ℕ) (rs : List Set) (k : ℕ) : Type 0 where
  at_start : (c : ℕ) (line : Bool) → c < conditions
      → slice_index_or rs k none ≡ start_set qs 0 c line → Met qs conditions rs k
  at_trail : (i : ℕ) → i < length qs → slice_index_or rs k none ≡ trail_set qs 0 i
      → Met qs conditions rs k
  from_row : (j b : ℕ) → j < k → b < 256
      → slice_index_or rs k none ≡ leads qs (slice_index_or rs j none) b → Met qs conditions rs k

-- no other set is stored
abbrev pub StoredAreMet : Type 0
StoredAreMet = (qs : List RuleText) (conditions most k : ℕ)
    → k < length (row_sets qs conditions most) → Met qs conditions (row_sets qs conditions most) k
