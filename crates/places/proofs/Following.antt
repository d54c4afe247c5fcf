-- In a listing each reading is followed by those behind it.
use Rattle.std.proofs.Common.{◌≡◌, ℕ, zero, suc, ◌≤◌, true, false, List, [], ◌∷◌, ◌++◌, slice_index_or, Some, refl, sym, ◌∙◌, subst, arith}
use Rattle.std.specs.List.{All, AllPairs, find}
use Rattle.std.proofs.lemmas.Bool.{cond-true, cond-false}
use Rattle.std.proofs.lemmas.Grind.{common_steps}
use Rattle.std.proofs.lemmas.List.{append-nil}
use Rattle.std.proofs.lemmas.List.Elements.{All-tail}
use Rattle.std.proofs.lemmas.List.Quantifiers.{all_pairs_push}
use Rattle.places.specs.declared.Reading.{Reading}
use Rattle.places.specs.Listing.{Before, single, last_resort, Listed, IsListing}
use Rattle.places.specs.Order.{comes_after, first_of, next_of}
use Rattle.places.specs.Following.{NextStandsBehind}

abbrev pub Follows : Reading → Reading → Type 0
Follows d e = comes_after d.rule d.total e ≡ true

pub not_itself : (d : Reading) → comes_after d.rule d.total d ≡ false
not_itself d = grind (arith, common_steps)

pub not_back : (d e : Reading) → Follows d e → comes_after e.rule e.total d ≡ false
not_back d e f = grind (arith, common_steps)

pub later : (d e : Reading) → 1 ≤ d.rule → Before d e → Follows d e
later d e ruled b = grind (arith, common_steps)

pub single_last : (d : Reading) → 1 ≤ d.rule → Follows d single
single_last d ruled = grind (arith, common_steps)

pub in_order : (xs : List Reading) → All (λ d. 1 ≤ d.rule) xs → AllPairs Before xs → AllPairs Follows xs
in_order xs ruled order i j d lt within = later (slice_index_or xs i d) (slice_index_or xs j d) (ruled i d (omega arith)) (order i j d lt within)

pub closed : (rest : List ℕ) (xs : List Reading) → All (λ d. 1 ≤ d.rule) xs → AllPairs Follows xs → AllPairs Follows (xs ++ last_resort rest)
closed [] xs ruled order = subst (AllPairs Follows) (sym (append-nil xs)) order
closed (b ∷ rest) xs ruled order = all_pairs_push Follows xs single order (λ k d lt. single_last (slice_index_or xs k d) (ruled k d lt))

-- a listing is in this order where each reading that is allowed is of a rule, from 1 on
pub listing_follows : (allowed : Reading → Type 0) (rest : List ℕ) (ds : List Reading) → ((d : Reading) → allowed d → 1 ≤ d.rule) → IsListing allowed rest ds → AllPairs Follows ds
listing_follows allowed rest ds numbered l =
    let ruled : All (λ d. 1 ≤ d.rule) l.readings = λ k d lt. numbered (slice_index_or l.readings k d) (l.right k d lt) in
    subst (AllPairs Follows) (sym l.whole) (closed rest l.readings ruled (in_order l.readings ruled l.order))

module _ (d : Reading) (ds : List Reading) (o : AllPairs Follows (d ∷ ds)) where
  pub first_precedes : All (Follows d) ds
  first_precedes k e below = o zero (suc k) e (omega arith) (omega arith)

  pub others_follow : AllPairs Follows ds
  others_follow i j e less below = o (suc i) (suc j) e (omega arith) (omega arith)

first_found : (d : Reading) (ds : List Reading) → All (Follows d) ds → find (comes_after d.rule d.total) ds ≡ first_of ds
first_found d [] all = refl
first_found d (e ∷ ds) all = cond-true (comes_after d.rule d.total e) (Some e) (find (comes_after d.rule d.total) ds) (all 0 e (omega arith))

pub found_behind : (before behind : List Reading) (d : Reading) → AllPairs Follows (before ++ (d ∷ behind)) → next_of d.rule d.total (before ++ (d ∷ behind)) ≡ first_of behind
found_behind [] behind d o =
    cond-false (comes_after d.rule d.total d) (Some d) (find (comes_after d.rule d.total) behind) (not_itself d)
    ∙ first_found d behind (first_precedes d behind o)
found_behind (e ∷ before) behind d o =
    cond-false (comes_after d.rule d.total e) (Some e) (find (comes_after d.rule d.total) (before ++ (d ∷ behind))) (not_back e d (there before (first_precedes e (before ++ (d ∷ behind)) o)))
    ∙ found_behind before behind d (others_follow e (before ++ (d ∷ behind)) o)
  where
    there : (xs : List Reading) → All (Follows e) (xs ++ (d ∷ behind)) → Follows e d
    there [] all = all 0 d (omega arith)
    there (x ∷ xs) all = there xs (All-tail (Follows e) x (xs ++ (d ∷ behind)) all)

pub next_stands_behind : NextStandsBehind
next_stands_behind rules p before behind d l =
    found_behind before behind d (listing_follows (Listed rules p) p.rest (before ++ (d ∷ behind)) (λ e k. omega (arith, k.number)) l)
