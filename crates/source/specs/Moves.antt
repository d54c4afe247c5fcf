-- How a source goes by bytes, and takes a byte back.
use Rattle.std.specs.Prelude.{◌≡◌, ℕ, ◌+◌, ◌<◌, ◌≤◌, List, ◌∷◌, Result, MatchResult, min, drop}
use Rattle.source.specs.Reach.{seen_of}
use Rattle.source.specs.declared.SourceFault.{SourceFault}
use Rattle.source.specs.declared.SourceFault.TheVariants.{PastEnd, NoSlack}

abbrev pub number_of : SourceFault → ℕ
number_of PastEnd = 11
number_of NoSlack = 12

module _ {S A : Type 0} (rest : S → List ℕ) (slack : S → ℕ) where
  -- it goes by n bytes where so many are seen, and else refuses
  abbrev pub GoesBy : ℕ → ℕ → S → S → Result A SourceFault → Type 0
  GoesBy capacity n old new result =
      MatchResult result
      (λ _. (n ≤ seen_of (rest old))
      × (rest new ≡ drop n (rest old))
      × (slack new ≡ min capacity (slack old + n)))
      (λ e. (seen_of (rest old) < n) × (e ≡ PastEnd) × (new ≡ old))

  -- it takes the byte where there is slack, and else refuses
  abbrev pub PutsBack : ℕ → S → S → Result A SourceFault → Type 0
  PutsBack b old new result =
      MatchResult result
      (λ _. (rest new ≡ b ∷ rest old) × (slack new + 1 ≡ slack old))
      (λ e. (slack old ≡ 0) × (e ≡ NoSlack) × (new ≡ old))
