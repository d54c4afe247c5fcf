-- Trails: where the trailing part of a rule stands, begun behind each head.
-- A trail at x has its row in rs and its head in hs; the longest head comes first.
use Rattle.std.specs.Prelude.{◌≡◌, ℕ, suc, ◌+◌, ◌<◌, ◌≤◌, ◌⊎◌, Bool, true, List, take, drop, slice_index, slice_set}
use Rattle.bits.specs.Set.{bit}
use Rattle.table.specs.Memory.{Memory}
use Rattle.table.specs.Readings.{slash_marks, trail_row, IsStored}
use Rattle.places.specs.Listing.{Place}
use Rattle.scan.specs.Listed.{row_after}
use Rattle.scan.specs.Listing.{head_of}
use Rattle.scan.specs.Met.{row_met}

-- rule i has its slash mark after h bytes
abbrev pub slashed : Memory → Place → ℕ → ℕ → Bool
slashed m p i h = bit (slash_marks m (row_met m p h)) i

-- the row to which its trailing part leads from there to the end of the first n bytes
abbrev pub trail_met : Memory → Place → ℕ → ℕ → ℕ → ℕ
trail_met m p i n h = row_after m (trail_row m (suc i)) (drop h (take n p.rest))

-- the trail at x stands there after n bytes
pub record Stands (m : Memory) (p : Place) (i n : ℕ) (rs hs : List ℕ) (x : ℕ) : Type 0 where
  pub some : 1 ≤ slice_index hs x
  pub most : slice_index hs x ≤ n
  pub slash : slashed m p i (slice_index hs x) ≡ true
  pub at : slice_index rs x ≡ trail_met m p i n (slice_index hs x)
  pub stored : IsStored m (slice_index rs x)

-- one of the trails stands where that of head h does, and its own head is no shorter
abbrev pub Covers : Memory → Place → ℕ → ℕ → ℕ → ℕ → List ℕ → List ℕ → ℕ → Type 0
Covers m p i n from to rs hs h =
    (x : ℕ) × (from ≤ x) × (x < to)
    × (slice_index rs x ≡ trail_met m p i n h) × (h ≤ slice_index hs x)

-- the trails from `from` up to `to` are those of the heads of up to n bytes
pub record AreTrails (m : Memory) (p : Place) (i n from to : ℕ) (rs hs : List ℕ) : Type 0 where
  pub each : (x : ℕ) → from ≤ x → x < to → Stands m p i n rs hs x
  pub falling : (x y : ℕ) → from ≤ x → x ≤ y → y < to → slice_index hs y ≤ slice_index hs x
  pub all : (h : ℕ) → 1 ≤ h → h ≤ n → slashed m p i h ≡ true → 1 ≤ trail_met m p i n h
      → Covers m p i n from to rs hs h

-- those up to `at` stand after one byte more, those from j on do not yet
pub record AreMoving (m : Memory) (p : Place) (i n from at j to : ℕ) (rs hs : List ℕ) : Type 0 where
  pub moved : (x : ℕ) → from ≤ x → x < at → Stands m p i (n + 1) rs hs x
  pub left : (x : ℕ) → j ≤ x → x < to → Stands m p i n rs hs x
  pub moved_fall : (x y : ℕ) → from ≤ x → x ≤ y → y < at → slice_index hs y ≤ slice_index hs x
  pub across_fall : (x y : ℕ) → from ≤ x → x < at → j ≤ y → y < to
      → slice_index hs y ≤ slice_index hs x
  pub left_fall : (x y : ℕ) → j ≤ x → x ≤ y → y < to → slice_index hs y ≤ slice_index hs x
  pub all : (h : ℕ) → 1 ≤ h → h ≤ n + 1 → slashed m p i h ≡ true → 1 ≤ trail_met m p i (n + 1) h
      → Covers m p i (n + 1) from at rs hs h ⊎ ((h ≤ n) × Covers m p i n j to rs hs h)

-- one of the trails from `from` up to `at` stands in row r
abbrev pub IsTaken : ℕ → ℕ → List ℕ → ℕ → Type 0
IsTaken from at rs r = (x : ℕ) × (from ≤ x) × (x < at) × (slice_index rs x ≡ r)

-- a trail in row r is one of those up to `at`, or it is put there
abbrev pub Added : ℕ → ℕ → ℕ → ℕ → List ℕ → List ℕ → List ℕ → List ℕ → ℕ → Type 0
Added from at r h rs hs rs' hs' end =
    ((end ≡ at) × (rs' ≡ rs) × (hs' ≡ hs) × IsTaken from at rs r) ⊎
    ((end ≡ at + 1) × (rs' ≡ slice_set rs at r) × (hs' ≡ slice_set hs at h))

-- hs tells the heads of rule i: at k that of k + 1 bytes, for each of n
abbrev pub HeadsOf : Memory → Place → ℕ → List ℕ → ℕ → Type 0
HeadsOf m p n hs i = (k : ℕ) → k < n → slice_index hs k ≡ head_of m p (k + 1) i
