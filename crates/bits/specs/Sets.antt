-- Sets of numbers, one behind another.
use Rattle.std.specs.Prelude.{◌≡◌, ℕ, Bool, true, List, [], slice_index_or}
use Rattle.bits.specs.declared.Bits.{Bits}
use Rattle.bits.specs.Set.{has}

-- j is in set k
abbrev pub member : {W : ℕ} → List (Bits W) → ℕ → ℕ → Bool
member sets k j = has (slice_index_or sets k (record { words = [] })).words j

-- j is in one of the sets whose numbers are in ws
abbrev pub InUnion : {W : ℕ} → List ℕ → List (Bits W) → ℕ → Type 0
InUnion ws sets j = (k : ℕ) × (has ws k ≡ true) × (member sets k j ≡ true)
