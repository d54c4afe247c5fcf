-- What holds of each reading of a listing holds of the one that is found.
use Rattle.std.proofs.Common.{◌≡◌, Bool, true, false, cond, List, [], ◌∷◌, Option, Some, None, find, refl, subst, arith}
use Rattle.std.specs.List.{All}
use Rattle.std.proofs.lemmas.List.Elements.{All-tail}
use Rattle.places.specs.declared.Reading.{Reading}
use Rattle.places.specs.Order.{first_of}

found_by :
    (P : Reading → Type 0) (b : Bool) (x d : Reading) (others : Option Reading) →
    cond b (Some x) others ≡ Some d → P x → (others ≡ Some d → P d) → P d
found_by P true x d others e here there = let same : x ≡ d = cc in subst P same here
found_by P false x d others e here there = there e

pub found :
    (P : Reading → Type 0) (test : Reading → Bool) (ds : List Reading) (d : Reading) →
    All P ds → find test ds ≡ Some d → P d
found P test [] d all e = absurd (cc)
found P test (x ∷ ds) d all e =
    found_by P (test x) x d (find test ds) e (all 0 x (omega arith))
    (found P test ds d (All-tail P x ds all))

pub first_found :
    (P : Reading → Type 0) (ds : List Reading) (d : Reading) →
    All P ds → first_of ds ≡ Some d → P d
first_found P [] d all e = absurd (cc)
first_found P (x ∷ ds) d all e = let same : x ≡ d = cc in subst P same (all 0 x (omega arith))

pub none_found : (ds : List Reading) → first_of ds ≡ None → ds ≡ []
none_found [] e = refl
none_found (x ∷ ds) e = absurd (cc)
