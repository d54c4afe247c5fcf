-- The first of a listing, and the first one behind a reading, among the readings of rules and then the single byte.
use Rattle.std.proofs.Common.{◌≡◌, ℕ, zero, suc, ◌≤◌, Bool, true, false, cond, ◌≢◌, List, [], ◌∷◌, ◌++◌, None, Option, slice_get, sym, refl, ap, ◌∙◌, arith, ne_eqb, Some}
use Rattle.std.specs.List.{filter, find}
use Rattle.std.specs.Option.{option_or}
use Rattle.table.specs.Memory.{Memory}
use Rattle.places.specs.declared.Reading.{Reading}
use Rattle.places.specs.Listing.{Place, last_resort}
use Rattle.places.specs.Order.{comes_after, first_of, next_of}
use Rattle.scan.specs.Listed.{ended}
use Rattle.scan.specs.Listing.{reading, of_total, up_to, of_rules, table_listing}
use Rattle.scan.specs.Left.{behind}
use Rattle.scan.proofs.Seeking.{find_append}
use Rattle.scan.proofs.Behind.{first_found}

-- tests that answer alike find the same
find_alike : {X : Type 0} (test other : X → Bool) (b : Bool) (x : X) (xs : List X) → test x ≡ other x → find test xs ≡ find other xs → find test (cond b (x ∷ xs) xs) ≡ find other (cond b (x ∷ xs) xs)
find_alike test other false x xs e f = f
find_alike test other true x xs e f = rw (e, f)

module _ (mem : Memory) (p : Place) (test other : Reading → Bool) where
  alike_of_total : (n i k : ℕ) → ((j : ℕ) → test (reading mem p n j) ≡ other (reading mem p n j)) → find test (of_total mem p n i k) ≡ find other (of_total mem p n i k)
  alike_of_total n i zero h = refl
  alike_of_total n i (suc k) h = find_alike test other (ended mem p n i) (reading mem p n i) (of_total mem p n (suc i) k) (h i) (alike_of_total n (suc i) k h)

  pub alike_up_to : (n : ℕ) → ((m i : ℕ) → m ≤ n → test (reading mem p m i) ≡ other (reading mem p m i)) → find test (up_to mem p n) ≡ find other (up_to mem p n)
  alike_up_to zero h = refl
  alike_up_to (suc n) h =
      let of : List Reading = of_total mem p (suc n) 0 64 in
      let more : List Reading = up_to mem p n in
      find_append test of more ∙ ap (λ o. option_or o (find test more)) (alike_of_total (suc n) 0 64 (λ j. h (suc n) j (omega arith)))
      ∙ ap (λ o. option_or (find other of) o) (alike_up_to n (λ m i le. h m i (omega arith))) ∙ sym (find_append other of more)

pub any_first : {X : Type 0} (xs : List X) → find (λ x. true) xs ≡ slice_get xs 0
any_first [] = refl
any_first (x ∷ xs) = refl

first_append : (ds es : List Reading) → first_of (ds ++ es) ≡ option_or (first_of ds) (first_of es)
first_append [] es = refl
first_append (d ∷ ds) es = refl

-- behind the single byte nothing is listed
none_after_zero : (total : ℕ) (ds : List Reading) → next_of 0 total ds ≡ None
none_after_zero total [] = refl
none_after_zero total (d ∷ ds) = none_after_zero total ds

pub none_after : (rule total : ℕ) → rule ≡ 0 → (ds : List Reading) → None ≡ next_of rule total ds
none_after rule total z ds = sym (ap (λ r. next_of r total ds) z ∙ none_after_zero total ds)

single_after : (rule total : ℕ) → rule ≢ 0 → (rest : List ℕ) → next_of rule total (last_resort rest) ≡ first_of (last_resort rest)
single_after rule total n [] = refl
single_after rule total n (b ∷ rest) = rw (ne_eqb rule 0 n)

-- ---- what is left behind the reading that was given last
filter_append : (test : Reading → Bool) (ds es : List Reading) → filter test (ds ++ es) ≡ filter test ds ++ filter test es
filter_append test [] es = refl
filter_append test (d ∷ ds) es = case (test d) (filter_append test ds es)
  where
    case : (b : Bool) → filter test (ds ++ es) ≡ filter test ds ++ filter test es
        → cond b (d ∷ filter test (ds ++ es)) (filter test (ds ++ es)) ≡ cond b (d ∷ filter test ds) (filter test ds) ++ filter test es
    case true e = ap (λ (l : List Reading). d ∷ l) e
    case false e = e

behind_append : (last : Option Reading) (ds es : List Reading) → behind last (ds ++ es) ≡ behind last ds ++ behind last es
behind_append None ds es = refl
behind_append (Some d) ds es = filter_append (comes_after d.rule d.total) ds es

-- a is the first of the readings of rules that are left, and b the single byte, where it is left
pub left_first : (last : Option Reading) (ds es : List Reading) (a b : Option Reading) → a ≡ first_of (behind last ds) → b ≡ first_of (behind last es)
    → option_or a b ≡ first_of (behind last (ds ++ es))
left_first last ds es a b e f =
    ap (λ o. option_or o b) e ∙ ap (option_or (first_of (behind last ds))) f
    ∙ sym (ap first_of (behind_append last ds es) ∙ first_append (behind last ds) (behind last es))

pub resort_over : (d : Reading) (ds : List Reading) → d.rule ≡ 0 → None ≡ first_of (behind (Some d) ds)
resort_over d ds z = none_after d.rule d.total z ds ∙ sym (first_found (comes_after d.rule d.total) ds)

pub resort_left : (d : Reading) (rest : List ℕ) → d.rule ≢ 0 → first_of (last_resort rest) ≡ first_of (behind (Some d) (last_resort rest))
resort_left d rest ruled = sym (first_found (comes_after d.rule d.total) (last_resort rest) ∙ single_after d.rule d.total ruled rest)

-- a is the reading of a rule, where there is one
module _ (mem : Memory) (p : Place) (a : Option Reading) where
  pub first_listed : a ≡ first_of (of_rules mem p) → option_or a (first_of (last_resort p.rest)) ≡ first_of (table_listing mem p)
  first_listed e = ap (λ o. option_or o (first_of (last_resort p.rest))) e ∙ sym (first_append (of_rules mem p) (last_resort p.rest))

  pub next_listed : (rule total : ℕ) → rule ≢ 0 → a ≡ next_of rule total (of_rules mem p) → option_or a (first_of (last_resort p.rest)) ≡ next_of rule total (table_listing mem p)
  next_listed rule total some e =
      ap (λ o. option_or o (first_of (last_resort p.rest))) e
      ∙ ap (option_or (next_of rule total (of_rules mem p))) (sym (single_after rule total some p.rest))
      ∙ sym (find_append (comes_after rule total) (of_rules mem p) (last_resort p.rest))
