-- Where an item is found among others, and where it is put. `m` is what an item means.
use Rattle.std.specs.Prelude.{◌≡◌, ℕ, ◌<◌, List, length, Some, None, Option, Ok, Err, Result, ◌≢◌, slice_set}
use Rattle.std.specs.List.{AllWithin, HoldsAt}
use Rattle.finder.specs.declared.Found.{Found}
use Rattle.finder.specs.declared.Found.TheVariants.{Old, New}
use Rattle.finder.specs.declared.Full.{Full}

-- none of the first n means what x means
abbrev pub Fresh : {X : Type 0} → (X → List ℕ) → List X → ℕ → X → Type 0
Fresh m xs n x = AllWithin (λ y. m y ≢ m x) xs 0 n

-- k is the first of the first n that means what x means
abbrev pub FirstFound : {X : Type 0} → (X → List ℕ) → List X → ℕ → X → ℕ → Type 0
FirstFound m xs n x k = (k < n) × HoldsAt (λ y. m y ≡ m x) xs k × Fresh m xs k x

abbrev pub Located : {X : Type 0} → (X → List ℕ) → List X → X → Option ℕ → Type 0
Located m xs x None = Fresh m xs (length xs) x
Located m xs x (Some k) = FirstFound m xs (length xs) x k

-- the n items in use are xs before and ys after
abbrev pub Placed : {X : Type 0} → (X → List ℕ) → List X → List X → ℕ → X → Result Found Full
    → Type 0
Placed m xs ys n x (Ok (Old k)) = FirstFound m xs n x k × (ys ≡ xs)
Placed m xs ys n x (Ok (New k)) = (k ≡ n) × (n < length xs) × Fresh m xs n x
    × (ys ≡ slice_set xs n x)
Placed m xs ys n x (Err e) = (n ≡ length xs) × Fresh m xs n x × (ys ≡ xs)
