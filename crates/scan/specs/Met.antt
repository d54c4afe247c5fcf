-- The rows that are met at a place, and how far one comes.
use Rattle.std.specs.Prelude.{◌≡◌, ℕ, ◌+◌, ◌<◌, ◌≤◌, List, length, min, take, slice_index}
use Rattle.table.specs.Memory.{Memory}
use Rattle.table.specs.Readings.{IsStored}
use Rattle.places.specs.Listing.{Place}
use Rattle.scan.specs.Listed.{row_at_place}

-- the row after the first n bytes
abbrev pub row_met : Memory → Place → ℕ → ℕ
row_met m p n = row_at_place m p (take n p.rest)

-- so many bytes are live: at most 1,024, each of which leads to a stored row, and no byte more
pub record IsLive (m : Memory) (p : Place) (n : ℕ) : Type 0 where
  pub most : n ≤ 1024
  pub within : n ≤ length p.rest
  pub stored : (k : ℕ) → k < n → IsStored m (row_met m p (k + 1))
  pub all : n < min 1024 (length p.rest) → row_met m p (n + 1) ≡ 0

-- the first n elements are the rows after each of so many bytes
abbrev pub Met : Memory → Place → List ℕ → ℕ → Type 0
Met m p met n = (k : ℕ) → k < n → slice_index met k ≡ row_met m p (k + 1)
