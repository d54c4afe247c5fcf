-- Which rules' heads are told.
use Rattle.std.specs.Prelude.{◌≡◌, ℕ, true, List, [], slice_index_or}
use Rattle.bits.specs.Set.{has}
use Rattle.table.specs.Memory.{Memory}
use Rattle.places.specs.Listing.{Place}
use Rattle.scan.specs.declared.told.RuleHeads.{RuleHeads}
use Rattle.scan.specs.Trails.{HeadsOf}

-- the heads of rule i
abbrev pub heads_at : List RuleHeads → ℕ → List ℕ
heads_at hs i = (slice_index_or hs i record { heads = [] }).heads

-- those of each rule of a set are told, with each total up to n
abbrev pub Told : Memory → Place → ℕ → List RuleHeads → List ℕ → Type 0
Told m p n hs set = (i : ℕ) → has set i ≡ true → HeadsOf m p n (heads_at hs i) i
