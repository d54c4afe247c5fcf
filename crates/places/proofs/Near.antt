-- A listing looks no further than 1,024 bytes.
use Rattle.std.proofs.Common.{◌≡◌, ℕ, zero, suc, ◌≤◌, ◌↔◌, List, [], ◌∷◌, ◌++◌, take, refl, sym, ap, ◌∙◌, subst, arith}
use Rattle.std.proofs.lemmas.List.{length-take}
use Rattle.grammar.specs.File.{RuleText}
use Rattle.places.specs.declared.Reading.{Reading}
use Rattle.places.specs.Listing.{Place, Matches, Splits, Listed, last_resort, IsListing}
use Rattle.places.specs.Near.{near, OnlyNear}
use Rattle.places.proofs.Ordered.{listing_as}

pub take_take : {X : Type 0} (h n : ℕ) (xs : List X) → h ≤ n → take h (take n xs) ≡ take h xs
take_take zero n xs le = refl
take_take (suc h) zero xs le = absurd (omega arith)
take_take (suc h) (suc n) [] le = refl
take_take (suc h) (suc n) (x ∷ xs) le = ap (λ ys. x ∷ ys) (take_take h n xs (omega arith))

module _ (p : Place) where
  same_front : (n : ℕ) → n ≤ 1024 → take n (take 1024 p.rest) ≡ take n p.rest
  same_front n le = take_take n 1024 p.rest le

  same_resort : last_resort p.rest ≡ last_resort (take 1024 p.rest)
  same_resort = one p.rest
    where
      one : (s : List ℕ) → last_resort s ≡ last_resort (take 1024 s)
      one [] = refl
      one (b ∷ s) = refl

  to_near : (q : RuleText) (n h : ℕ) → Matches q p n h → n ≤ 1024 → Matches q (near p) n h
  to_near q n h r most =
      let e = same_front n most in
      record {
        active = r.active;
        anchor = r.anchor;
        some = r.some;
        within = omega (arith, most, r.within, length-take 1024 p.rest);
        headed = r.headed;
        splits = subst (λ (s : List ℕ). Splits q.expression q.trailing s h) (sym e) r.splits;
        greatest = λ k s. r.greatest k (subst (λ (t : List ℕ). Splits q.expression q.trailing t k) e s);
      }

  from_near : (q : RuleText) (n h : ℕ) → Matches q (near p) n h → n ≤ 1024 → Matches q p n h
  from_near q n h r most =
      let e = same_front n most in
      record {
        active = r.active;
        anchor = r.anchor;
        some = r.some;
        within = omega (arith, r.within, length-take 1024 p.rest);
        headed = r.headed;
        splits = subst (λ (s : List ℕ). Splits q.expression q.trailing s h) e r.splits;
        greatest = λ k s. r.greatest k (subst (λ (t : List ℕ). Splits q.expression q.trailing t k) (sym e) s);
      }

  module _ (rules : List RuleText) where
    listed_near : (d : Reading) → Listed rules p d ↔ Listed rules (near p) d
    listed_near d = (
      λ l. record { before = l.before; rule = l.rule; number = l.number; of = l.of; matches = to_near l.rule d.total d.head l.matches l.most; most = l.most },
      λ l. record { before = l.before; rule = l.rule; number = l.number; of = l.of; matches = from_near l.rule d.total d.head l.matches l.most; most = l.most },
    )

other_rest : (A : Reading → Type 0) (r t : List ℕ) (ds : List Reading) → last_resort r ≡ last_resort t → IsListing A r ds → IsListing A t ds
other_rest A r t ds e l = record { readings = l.readings; whole = l.whole ∙ ap (λ xs. l.readings ++ xs) e; order = l.order; right = l.right; none_missing = l.none_missing }

pub only_near : OnlyNear
only_near rules p ds = (
  λ l. other_rest (Listed rules (near p)) p.rest (take 1024 p.rest) ds (same_resort p) (listing_as (Listed rules p) (Listed rules (near p)) p.rest ds (listed_near p rules) l),
  λ l.
      other_rest (Listed rules p) (take 1024 p.rest) p.rest ds (sym (same_resort p))
      (listing_as (Listed rules (near p)) (Listed rules p) (take 1024 p.rest) ds (λ d. let k = listed_near p rules d in (k.1, k.0)) l),
)
