-- What a table lists is listed right: in order, with heads that may be taken.
use Rattle.std.proofs.Common.{◌≡◌, ℕ, zero, suc, ap, List, [], ◌∷◌, ◌++◌, length, Option, Some, None, refl, sym, subst, ◌∙◌, arith}
use Rattle.std.specs.Option.{MatchOption, IfSome}
use Rattle.std.specs.List.{All}
use Rattle.std.proofs.lemmas.List.Elements.{All-append}
use Rattle.table.specs.Memory.{Memory}
use Rattle.places.specs.declared.Reading.{Reading}
use Rattle.places.specs.Listing.{Place, last_resort}
use Rattle.places.specs.Order.{first_of, next_of, comes_after}
use Rattle.places.proofs.Following.{listing_follows}
use Rattle.plain.specs.Lawful.{MayTake}
use Rattle.plain.specs.Theorems.{IsListedRight}
use Rattle.scan.specs.Listed.{TableListed}
use Rattle.scan.specs.Listing.{table_listing}
use Rattle.scan.proofs.Lists.{table_lists}
use Rattle.reader.proofs.Found.{found, first_found, none_found}

heads_of : (m : Memory) (p : Place) (d : Reading) → TableListed m p d → MayTake p.rest d.head
heads_of m p d t = record {
  some = t.head.some;
  most = omega (arith, t.head.most, t.most);
  within = omega (arith, t.head.most, t.within);
}

head_of_single : (rest : List ℕ) → All (λ d. MayTake rest d.head) (last_resort rest)
head_of_single [] k d below = absurd (omega arith)
head_of_single (b ∷ rest) zero d below =
    record { some = omega arith; most = omega arith; within = omega arith }
head_of_single (b ∷ rest) (suc k) d below = absurd (omega arith)

module _ (m : Memory) (p : Place) where
  heads : All (λ d. MayTake p.rest d.head) (table_listing m p)
  heads =
      let listing = table_lists m p in
      let Right : Reading → Type 0 = λ d. MayTake p.rest d.head in
      let of_rules : All Right listing.readings =
      λ k d below. heads_of m p _ (listing.right k d below) in
      let all : All Right (listing.readings ++ last_resort p.rest) =
      All-append Right listing.readings (last_resort p.rest) of_rules (head_of_single p.rest) in
      subst (All Right) (sym listing.whole) all

  nothing_left : first_of (table_listing m p) ≡ None → p.rest ≡ []
  nothing_left e =
      let listing = table_lists m p in
      let none : table_listing m p ≡ [] = none_found (table_listing m p) e in
      no_more p.rest listing.readings (sym listing.whole ∙ none)
    where
      no_more : (rest : List ℕ) (xs : List Reading) → xs ++ last_resort rest ≡ [] → rest ≡ []
      no_more [] xs e = refl
      no_more (b ∷ rest) [] e = absurd (cc)
      no_more (b ∷ rest) (x ∷ xs) e = absurd (cc)

  pub none_listed : p.rest ≡ [] → first_of (table_listing m p) ≡ None
  none_listed e =
      let listing = table_lists m p in
      ap first_of listing.whole ∙ none p.rest listing.readings e listing.right
    where
      none :
          (rest : List ℕ) (xs : List Reading) → rest ≡ [] → All (TableListed m p) xs →
          first_of (xs ++ last_resort rest) ≡ None
      none [] [] empty right = refl
      none (b ∷ rest) xs empty right = absurd (cc)
      none [] (x ∷ xs) empty right =
          let t = right zero x (omega arith) in
          let short : length p.rest ≡ 0 = ap length e in
          absurd (omega (arith, t.some, t.within))

  pub first_right :
      (o : Option Reading) → o ≡ first_of (table_listing m p) →
      MatchOption o (p.rest ≡ []) (λ d. MayTake p.rest d.head)
  first_right None e = nothing_left (sym e)
  first_right (Some d) e =
      first_found (λ d. MayTake p.rest d.head) (table_listing m p) d heads (sym e)

  pub following_right :
      (rule total : ℕ) (o : Option Reading) → o ≡ next_of rule total (table_listing m p) →
      IfSome o (λ d. MayTake p.rest d.head)
  following_right rule total None e = tt
  following_right rule total (Some d) e =
      found (λ d. MayTake p.rest d.head) (comes_after rule total)
      (table_listing m p) d heads (sym e)

pub table_lists_right : (m : Memory) → IsListedRight (table_listing m)
table_lists_right m = record {
  in_order = λ p.
      listing_follows (TableListed m p) p.rest (table_listing m p)
      (λ d t. omega (arith, t.number)) (table_lists m p);
  heads = λ p. heads m p;
}
