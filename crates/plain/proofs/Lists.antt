-- First parts of a list of readings.
use Rattle.std.proofs.Common.{◌≡◌, ◌≢◌, ℕ, List, [], ◌∷◌, ◌++◌, length, take, drop, slice_index_or, Some, None, refl, sym, ap, ◌∙◌, subst, arith}
use Rattle.std.specs.List.{All, AllPairs}
use Rattle.std.proofs.lemmas.Bool.{false≢true}
use Rattle.std.proofs.lemmas.List.{take_at, take-append-drop, get_or-take, length-take}
use Rattle.std.proofs.lemmas.List.Elements.{All-tail}
use Rattle.places.specs.declared.Reading.{Reading}
use Rattle.places.specs.Order.{first_of}
use Rattle.places.proofs.Following.{Follows, not_itself}

-- the first, with what is behind it
pub first_is : (ds : List Reading) (d : Reading) → first_of ds ≡ Some d → (others : List Reading) × (ds ≡ d ∷ others)
first_is [] d e = absurd (cc)
first_is (x ∷ ds) d e = (ds, cc)

pub none_is : (ds : List Reading) → first_of ds ≡ None → ds ≡ []
none_is [] e = refl
none_is (x ∷ ds) e = absurd (cc)

pub all_at : (P : Reading → Type 0) (xs ds : List Reading) (d : Reading) → All P (xs ++ (d ∷ ds)) → P d
all_at P [] ds d all = all 0 d (omega arith)
all_at P (x ∷ xs) ds d all = all_at P xs ds d (All-tail P x (xs ++ (d ∷ ds)) all)

-- a first part of a list
pub first_part : (xs ys all : List Reading) → all ≡ xs ++ ys → xs ≡ take (length xs) all
first_part xs ys all e = sym (ap (take (length xs)) e ∙ take_at xs ys (length xs) refl)

pub parted : (xs all : List Reading) → xs ≡ take (length xs) all → all ≡ xs ++ drop (length xs) all
parted xs all e = sym (take-append-drop (length xs) all) ∙ ap (λ (ys : List Reading). ys ++ drop (length xs) all) (sym e)

-- in a first part of a list in order no reading stands twice
pub no_two : (ds : List Reading) (n : ℕ) → AllPairs Follows ds → AllPairs (λ one later. one ≢ later) (take n ds)
no_two ds n ordered i j d less below same =
    let long = length-take n ds in
    let first : slice_index_or (take n ds) i d ≡ slice_index_or ds i d = get_or-take n ds i d (omega arith) in
    let second : slice_index_or (take n ds) j d ≡ slice_index_or ds j d = get_or-take n ds j d (omega arith) in
    let one : slice_index_or ds i d ≡ slice_index_or ds j d = sym first ∙ same ∙ second in
    let follows : Follows (slice_index_or ds i d) (slice_index_or ds j d) = ordered i j d less (omega arith) in
    false≢true (sym (not_itself (slice_index_or ds j d)) ∙ subst (λ (x : Reading). Follows x (slice_index_or ds j d)) one follows)
