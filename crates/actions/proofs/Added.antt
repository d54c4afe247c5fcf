-- One step more in the list, and None behind it.
use Rattle.std.proofs.Common.{◌≡◌, ℕ, suc, ◌+◌, ◌-◌, ◌<◌, List, [], ◌∷◌, ◌++◌, map, length, take, set, replicate, Some, None, Option, sym, ap, ◌∙◌, append_assoc, arith}
use Rattle.std.specs.List.{filter_map}
use Rattle.std.proofs.lemmas.List.{length-append, length-map, map-append, set_at, take_more_set}
use Rattle.std.proofs.lemmas.List.Elements.{filter_map-append}
use Rattle.grammar.specs.declared.Step.{Step}
use Rattle.actions.specs.Given.{given, padded}

set_padded : (ys : List Step) (x : Step) (k : ℕ) → length ys ≡ k → k < 10 → set (padded ys) k (Some x) ≡ padded (ys ++ (x ∷ []))
set_padded ys x k h lt =
    let m : 10 - length ys ≡ suc (9 - length ys) = omega arith in
    let r : 10 - length (ys ++ (x ∷ [])) ≡ 9 - length ys = omega (arith, length-append ys (x ∷ [])) in
    ap (λ (j : ℕ). set (map Some ys ++ replicate j None) k (Some x)) m ∙ set_at (map Some ys) None (replicate (9 - length ys) None) (Some x) k (length-map ys Some ∙ h)
    ∙ sym (rw (r, map-append Some ys (x ∷ []), append_assoc))

module _ (xs : List (Option Step)) (k : ℕ) (x : Step) (long : length xs ≡ 10) (room : k < 10) (n : length (given xs k) ≡ k) where
  pub given_more : given (set xs k (Some x)) (k + 1) ≡ given xs k ++ (x ∷ [])
  given_more = ap (filter_map (λ y. y)) (take_more_set xs k (Some x) (omega arith)) ∙ filter_map-append (λ y. y) (take k xs) (Some x ∷ [])

  pub counted_more : length (given (set xs k (Some x)) (k + 1)) ≡ k + 1
  counted_more = ap length given_more ∙ length-append (given xs k) (x ∷ []) ∙ (omega arith)

  pub padded_more : xs ≡ padded (given xs k) → set xs k (Some x) ≡ padded (given (set xs k (Some x)) (k + 1))
  padded_more p = ap (λ (ys : List (Option Step)). set ys k (Some x)) p ∙ set_padded (given xs k) x k n room ∙ ap padded (sym given_more)
