-- Behind each reading of a listing are the others, from the next one on.
use Rattle.std.proofs.Common.{◌≡◌, ℕ, Bool, true, false, List, [], ◌∷◌, slice_index_or, Some, None, Option, refl, sym, ap, ◌∙◌, subst, inl, inr, arith}
use Rattle.std.specs.List.{All, AllPairs, filter, find}
use Rattle.std.proofs.lemmas.Bool.{cases_Bool, cond-true, cond-false}
use Rattle.std.proofs.lemmas.Grind.{common_steps}
use Rattle.std.proofs.lemmas.Option.{none-some, same_Some}
use Rattle.std.proofs.lemmas.List.Elements.{All-head, All-tail}
use Rattle.table.specs.Memory.{Memory}
use Rattle.places.specs.declared.Reading.{Reading}
use Rattle.places.specs.Listing.{Place}
use Rattle.places.specs.Order.{comes_after, first_of}
use Rattle.places.proofs.Following.{Follows, not_itself, not_back, listing_follows, first_precedes, others_follow}
use Rattle.scan.specs.Listed.{TableListed}
use Rattle.scan.specs.Listing.{table_listing}
use Rattle.scan.proofs.Lists.{table_lists}
use Rattle.scan.specs.Left.{behind}

-- ---- the order of a listing
further : (rule total : ℕ) (d e : Reading) → comes_after rule total d ≡ true → Follows d e → comes_after rule total e ≡ true
further rule total d e h f = grind (arith, common_steps)

table_follows : (mem : Memory) (p : Place) → AllPairs Follows (table_listing mem p)
table_follows mem p = listing_follows (TableListed mem p) p.rest (table_listing mem p) (λ d t. omega (arith, t.number)) (table_lists mem p)

-- ---- lists in that order
keeps_all : (test : Reading → Bool) (ds : List Reading) → All (λ d. test d ≡ true) ds → filter test ds ≡ ds
keeps_all test [] h = refl
keeps_all test (d ∷ ds) h =
    let P : Reading → Type 0 = λ d. test d ≡ true in
    cond-true (test d) (d ∷ filter test ds) (filter test ds) (All-head P d ds h) ∙ ap (λ (l : List Reading). d ∷ l) (keeps_all test ds (All-tail P d ds h))

module _ (test : Reading → Bool) (d : Reading) (ds : List Reading) where
  keeps_first : test d ≡ true → filter test (d ∷ ds) ≡ d ∷ filter test ds
  keeps_first = cond-true (test d) (d ∷ filter test ds) (filter test ds)

  passes_first : test d ≡ false → filter test (d ∷ ds) ≡ filter test ds
  passes_first = cond-false (test d) (d ∷ filter test ds) (filter test ds)

  finds_first : test d ≡ true → find test (d ∷ ds) ≡ Some d
  finds_first = cond-true (test d) (Some d) (find test ds)

  finds_later : test d ≡ false → find test (d ∷ ds) ≡ find test ds
  finds_later = cond-false (test d) (Some d) (find test ds)

-- what is found is one of the list
found_holds : (P : Reading → Type 0) (test : Reading → Bool) (ds : List Reading) (e : Reading) → All P ds → find test ds ≡ Some e → P e
found_holds P test [] e all h = absurd (none-some e h)
found_holds P test (d ∷ ds) e all h = elim (cases_Bool (test d)) [
  | inl on ↦ subst P (same_Some d e (sym (finds_first test d ds on) ∙ h)) (All-head P d ds all)
  | inr off ↦ found_holds P test ds e (All-tail P d ds all) (sym (finds_later test d ds off) ∙ h)
]

-- behind the first one are all others
behind_first : (d : Reading) (ds : List Reading) → AllPairs Follows (d ∷ ds) → behind (Some d) (d ∷ ds) ≡ ds
behind_first d ds o =
    let test : Reading → Bool = comes_after d.rule d.total in
    passes_first test d ds (not_itself d) ∙ keeps_all test ds (first_precedes d ds o)

-- ---- what is given is the first of what is left
pub first_found : (test : Reading → Bool) (ds : List Reading) → first_of (filter test ds) ≡ find test ds
first_found test [] = refl
first_found test (d ∷ ds) = elim (cases_Bool (test d)) [
  | inl on ↦ ap first_of (keeps_first test d ds on) ∙ sym (finds_first test d ds on)
  | inr off ↦ ap first_of (passes_first test d ds off) ∙ first_found test ds ∙ sym (finds_later test d ds off)
]

pub none_left : (ds : List Reading) → None ≡ first_of ds → ds ≡ []
none_left [] h = refl
none_left (d ∷ ds) h = absurd (none-some d h)

next_left : (rule total : ℕ) (ds : List Reading) (e : Reading) → AllPairs Follows ds → find (comes_after rule total) ds ≡ Some e → filter (comes_after rule total) ds ≡ e ∷ behind (Some e) ds
next_left rule total [] e o h = absurd (none-some e h)
next_left rule total (d ∷ ds) e o h =
    let test : Reading → Bool = comes_after rule total in
    elim (cases_Bool (test d)) [
      | inl on ↦
          let same : d ≡ e = same_Some d e (sym (finds_first test d ds on) ∙ h) in
          let all : filter test ds ≡ ds = keeps_all test ds (λ k x lt. further rule total d (slice_index_or ds k x) on (first_precedes d ds o k x lt)) in
          keeps_first test d ds on ∙ ap (λ (l : List Reading). d ∷ l) (all ∙ sym (behind_first d ds o)) ∙ ap (λ x. x ∷ behind (Some x) (d ∷ ds)) same
      | inr off ↦
          let found : find test ds ≡ Some e = sym (finds_later test d ds off) ∙ h in
          let back : comes_after e.rule e.total d ≡ false = not_back d e (found_holds (Follows d) test ds e (first_precedes d ds o) found) in
          passes_first test d ds off ∙ next_left rule total ds e (others_follow d ds o) found
          ∙ ap (λ (l : List Reading). e ∷ l) (sym (passes_first (comes_after e.rule e.total) d ds back))
    ]

first_left : (last : Option Reading) (ds : List Reading) (e : Reading) → AllPairs Follows ds → first_of (behind last ds) ≡ Some e → behind last ds ≡ e ∷ behind (Some e) ds
first_left None [] e o h = absurd (none-some e h)
first_left None (d ∷ ds) e o h =
    ap (λ (l : List Reading). d ∷ l) (sym (behind_first d ds o)) ∙ ap (λ x. x ∷ behind (Some x) (d ∷ ds)) (same_Some d e h)
first_left (Some d) ds e o h = next_left d.rule d.total ds e o (sym (first_found (comes_after d.rule d.total) ds) ∙ h)

-- what is left of a table's listing begins with what is given
pub table_left : (mem : Memory) (p : Place) (last : Option Reading) (e : Reading) → Some e ≡ first_of (behind last (table_listing mem p)) → behind last (table_listing mem p) ≡ e ∷ behind (Some e) (table_listing mem p)
table_left mem p last e h = first_left last (table_listing mem p) e (table_follows mem p) (sym h)
