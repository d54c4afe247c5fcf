-- Memory that is unchanged but for the positions from a up to b.
use Rattle.std.proofs.Common.{◌≡◌, ℕ, ◌+◌, ◌-◌, ◌<◌, ◌≤◌, Bool, true, false, ◌&&◌, ◌||◌, ltb, leb, ◌⊎◌, List, sym, refl, ap, ◌∙◌, inl, inr, arith}
use Rattle.std.proofs.lemmas.Bool.{false_from_ne_true, and_right, lt-leb, le-ltb}
use Rattle.bits.specs.Set.{has}
use Rattle.patterns.specs.Expression.{Expression}
use Rattle.patterns.specs.Positions.{size}
use Rattle.patterns.proofs.Ranges.{last_in}
use Rattle.positions.specs.declared.Fragment.{Fragment}
use Rattle.positions.specs.Memory.{Work, member, between}
use Rattle.positions.specs.Laid.{Laid, Kept}
use Rattle.expressions.specs.Frames.{Apart, Outside}

pub outside_refl : (a b : ℕ) (w : Work) → Outside a b w w
outside_refl a b w = record { bytes = λ p q h o. refl; order = λ p q h o. refl; others = λ k q h. refl }

pub outside_trans : (a b : ℕ) (u v w : Work) → Outside a b u v → Outside a b v w → Outside a b u w
outside_trans a b u v w f g = record {
  bytes = λ p q h o. g.bytes p q h o ∙ f.bytes p q h o;
  order = λ p q h o. g.order p q h o ∙ f.order p q h o;
  others = λ k q h. g.others k q h ∙ f.others k q h;
}

wider : (a b c d p : ℕ) → c ≤ a → b ≤ d → Apart c d p → Apart a b p
wider a b c d p h k (inl x) = inl (omega arith)
wider a b c d p h k (inr x) = inr (omega arith)

pub outside_wider : (a b c d : ℕ) (w w' : Work) → c ≤ a → b ≤ d → Outside a b w w' → Outside c d w w'
outside_wider a b c d w w' h k f = record {
  bytes = λ p q l o. f.bytes p q l (wider a b c d p h k o);
  order = λ p q l o. f.order p q l (wider a b c d p h k o);
  others = f.others;
}

pub kept_outside : (a b : ℕ) (w w' : Work) → a ≤ 512 → Outside a b w w' → Kept a w w'
kept_outside a b w w' h f = record {
  bytes = λ p q l. f.bytes p q (omega arith) (inl l);
  order = λ p q l. f.order p q (omega arith) (inl l);
  others = f.others;
}

pub laid_outside : (e : Expression) (a c d : ℕ) (w w' : Work) (f : Fragment) → Laid w e a f → Outside c d w w' → (a + size e ≤ c) ⊎ (d ≤ a) → Laid w' e a f
laid_outside e a c d w w' f l o side = record {
  within = l.within;
  empty = l.empty;
  begins = l.begins;
  ends = l.ends;
  bytes = λ p b h k t. o.bytes p b (bound p k) (away p h k side) ∙ l.bytes p b h k t;
  order = λ p q h k. o.order p q (bound p k) (away p h k side) ∙ l.order p q h k;
}
  where
    bound : (p : ℕ) → p < a + size e → p < 512
    bound p k = omega (arith, l.within)

    away : (p : ℕ) → a ≤ p → p < a + size e → (a + size e ≤ c) ⊎ (d ≤ a) → Apart c d p
    away p h k (inl x) = inl (omega arith)
    away p h k (inr x) = inr (omega arith)

-- what `Linked` and its kin add is in the sets of the last positions of e, which lie from a on
module _ (e : Expression) (a : ℕ) (w : Work) (x : Fragment) (l : Laid w e a x) where
  no_last : (p : ℕ) → Apart a (a + size e) p → has x.last.words p ≡ false
  no_last p o = false_from_ne_true (has x.last.words p) (λ t.
      let i = last_in e a p (sym (l.ends p) ∙ t) in
      elim o [ inl lt ↦ omega (arith, i.0) | inr ge ↦ omega (arith, i.1) ])

  none_added : (m g h s : Bool) → g ≡ false → (m || (h && (g && s))) ≡ m
  none_added true g h s e = refl
  none_added false g true s e = rw e
  none_added false g false s e = refl

  not_between : (m s : Bool) (k : ℕ) (t : Bool) → (between 512 1024 k ≡ false) → (m || ((t && between 512 1024 k) && s)) ≡ m
  not_between true s k t e = refl
  not_between false s k true e = rw e
  not_between false s k false e = refl

  low : (p : ℕ) → p < 512 → between 512 1024 p ≡ false
  low p h = let f : leb 512 p ≡ false = lt-leb 512 p h in rw f

  high : (k : ℕ) → 1024 ≤ k → between 512 1024 k ≡ false
  high k h = let f : ltb k 1024 ≡ false = le-ltb k 1024 h in and_right (leb 512 k) (ltb k 1024) f

  pub outside_linked : (w' : Work) (t : Bool) (starts : List ℕ)
      → ((k q : ℕ) → member w' k q ≡ (member w k q || ((t && between 512 1024 k) && (has x.last.words (k - 512) && has starts q))))
      → Outside a (a + size e) w w'
  outside_linked w' t starts m = record {
    bytes = λ p q h o. m p q ∙ not_between (member w p q) _ p t (low p h);
    order = λ p q h o.
        let z : 512 + p - 512 ≡ p = omega arith in
        let f : has x.last.words (512 + p - 512) ≡ false = ap (has x.last.words) z ∙ no_last p o in
        m (512 + p) q ∙ none_added (member w (512 + p) q) _ (t && between 512 1024 (512 + p)) (has starts q) f;
    others = λ k q h. m k q ∙ not_between (member w k q) _ k t (high k h);
  }
