-- For each byte one that is not behind it and that the same positions take.
use Rattle.std.proofs.Common.{◌≡◌, ℕ, ◌+◌, ◌<◌, ◌≤◌, List, length, take, drop, get_or, set, Some, None, Option, sym, refl, ap, ◌∙◌, inl, inr, arith, ◌≢◌, subst, length-set, length-take, get_or-set_other, get_or-set_same}
use Rattle.std.specs.Option.{unwrap_or}
use Rattle.std.proofs.lemmas.Bool.{cases_eq}
use Rattle.std.proofs.lemmas.List.{get_or-take}
use Rattle.bits.specs.Set.{has}
use Rattle.positions.specs.Memory.{Work, member}
use Rattle.finder.specs.Placed as finder
use Rattle.loader.proofs.Stored.{nil, words_of}
use Rattle.loader.proofs.MachineSets.{part_at}

-- a byte that is not behind b and that the same positions take
pub record Column (m : Work) (b c : ℕ) : Type 0 where
  pub not_behind : c ≤ b
  pub same_takers : (p : ℕ) → member m (1280 + c) p ≡ member m (1280 + b) p

-- as the finder answers, of the bytes before b
pub column_is : (m : Work) (b n : ℕ) (o : Option ℕ) → n ≡ b → b < 256 → finder.Located words_of (take n (take 256 (drop 1280 m))) (get_or (take 256 (drop 1280 m)) b nil) o → Column m b (unwrap_or o b)
column_is m b n None e lt f = record { not_behind = omega arith; same_takers = λ p. refl }
column_is m b n (Some k) e lt f =
    let takers : Work = take 256 (drop 1280 m) in
    let less : k < n = omega (arith, f.0, length-take n takers) in
    let here : get_or (take n takers) k nil ≡ get_or m (1280 + k) nil = get_or-take n takers k nil less ∙ part_at m 1280 256 k nil (omega arith) in
    record {
      not_behind = omega arith;
      same_takers = λ p. ap (λ (ws : List ℕ). has ws p) (ap words_of (sym here) ∙ f.1 nil ∙ ap words_of (part_at m 1280 256 b nil lt));
    }

-- one byte more
pub record ColumnsSoFar (m : Work) (cs : List ℕ) (n : ℕ) : Type 0 where
  pub long : length cs ≡ 256
  pub each : (b : ℕ) → b < n → Column m b (get_or cs b 0)

pub columns_more : (m : Work) (cs : List ℕ) (n c : ℕ) → n < 256 → ColumnsSoFar m cs n → Column m n c → ColumnsSoFar m (set cs n c) (n + 1)
columns_more m cs n c lt g h = record {
  long = omega (arith, g.long, length-set {A = ℕ});
  each = λ b l. elim (cases_eq b n) [
    | inl e ↦
        let at : get_or (set cs n c) n 0 ≡ c = get_or-set_same cs n c 0 (omega (arith, g.long)) in
        subst (λ (i : ℕ). Column m i (get_or (set cs n c) i 0)) (sym e) (subst (Column m n) (sym at) h)
    | inr ne ↦ let other : b ≢ n = ne in subst (Column m b) (sym (get_or-set_other cs n b c 0 other)) (g.each b (omega arith))
  ];
}
