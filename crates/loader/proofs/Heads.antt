-- The greatest head that splits, by a test of heads.
use Rattle.std.proofs.Common.{◌≡◌, ℕ, ◌<◌, ◌≤◌, Bool, true, false, ◌⊎◌, ◌↔◌, List, length, Option, Some, None, IsSome, refl, ◌∙◌, sym, inl, inr, arith}
use Rattle.std.proofs.lemmas.Bool.{false≢true, cases_lt, false_from_ne_true}
use Rattle.patterns.specs.Expression.{Expression}
use Rattle.places.specs.Listing.{Splits}
use Rattle.scan.specs.Listed.{GreatestFit}

-- the test passes a head where a trailing part splits off there
abbrev pub TellsSplits : Expression → Option Expression → List ℕ → (ℕ → Bool) → Type 0
TellsSplits r o s test = (h : ℕ) → 1 ≤ h → h ≤ length s → (test h ≡ true) ↔ (IsSome o × Splits r o s h)

-- h splits the bytes, and no greater head does
abbrev pub GreatestHead : Expression → Option Expression → List ℕ → ℕ → Type 0
GreatestHead r o s h = Splits r o s h × ((k : ℕ) → Splits r o s k → k ≤ h)

module _ (r : Expression) (s : List ℕ) (test : ℕ → Bool) where
  -- the greatest one that passes is the greatest that splits, where one does
  pub head_of_fit : (o : Option Expression) (n h : ℕ) → length s ≡ n → TellsSplits r o s test → GreatestFit test n h → (k : ℕ) → 1 ≤ k → Splits r o s k → GreatestHead r o s h
  head_of_fit None n h len tells g k some m = elim g.fit [
    | inl t ↦ absurd (false≢true ((tells h g.some (omega (arith, g.most))).0 t).0)
    | inr e ↦ ((omega (arith, e.0), m.1), λ j a. omega (arith, a.0, e.0))
  ]
  head_of_fit (Some x) n h len tells g k some m = (splits g.fit, λ j a. least j a (cases_lt h j))
    where
      splits : (test h ≡ true) ⊎ ((h ≡ n) × ((j : ℕ) → 1 ≤ j → j ≤ n → test j ≡ false)) → Splits r (Some x) s h
      splits (inl t) = ((tells h g.some (omega (arith, g.most))).0 t).1
      splits (inr e) = absurd (false≢true (sym (e.1 k some (omega (arith, m.0))) ∙ (tells k some (omega (arith, m.0))).1 (refl, m)))

      least : (j : ℕ) → Splits r (Some x) s j → (h < j) ⊎ (j ≤ h) → j ≤ h
      least j a (inr le) = le
      least j a (inl gt) =
          let low : 1 ≤ j = omega arith in
          absurd (false≢true (sym (g.greatest j gt (omega (arith, a.0))) ∙ (tells j low (omega (arith, a.0))).1 (refl, a)))

  -- and the greatest that splits is the greatest one that passes
  pub fit_of_head : (o : Option Expression) (n h : ℕ) → length s ≡ n → TellsSplits r o s test → 1 ≤ h → GreatestHead r o s h → GreatestFit test n h
  fit_of_head None n h len tells some m = record {
    some = some;
    most = omega (arith, m.0.0);
    fit = inr (omega (arith, m.0.0), λ k low high. fails k low high);
    greatest = λ k above high. fails k (omega arith) high;
  }
    where
      fails : (k : ℕ) → 1 ≤ k → k ≤ n → test k ≡ false
      fails k low high = false_from_ne_true (test k) (λ t. false≢true ((tells k low (omega arith)).0 t).0)
  fit_of_head (Some x) n h len tells some m = record {
    some = some;
    most = omega (arith, m.0.0);
    fit = inl ((tells h some m.0.0).1 (refl, m.0));
    greatest = λ k above high. false_from_ne_true (test k) (λ t. let le : k ≤ h = m.1 k ((tells k (omega arith) (omega arith)).0 t).1 in absurd (omega arith));
  }
