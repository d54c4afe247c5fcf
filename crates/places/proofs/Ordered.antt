-- Lists of readings in order: two with the same readings are equal, and two can be joined.
use Rattle.std.proofs.Common.{◌≡◌, ℕ, zero, suc, ◌⊎◌, ◌↔◌, List, [], ◌∷◌, ◌++◌, All, AllPairs, Contains, refl, sym, ap, subst, ◌∙◌, inl, inr, arith}
use Rattle.std.proofs.lemmas.List.Elements.{All-nil, All-cons, All-head, All-tail, All-append, All-weaker, All-contains, Contains-append_left, Contains-append_right}
use Rattle.std.proofs.lemmas.List.Kept.{AllPairs-cons}
use Rattle.places.specs.declared.Reading.{Reading}
use Rattle.places.specs.Listing.{Before, last_resort, IsListing}

contains_none : (d : Reading) → Contains [] d → ⊥
contains_none d (k, below, e) = omega arith

contains_first : (d : Reading) (ds : List Reading) → Contains (d ∷ ds) d
contains_first d ds = (zero, omega arith, refl)

contains_later : (d x : Reading) (ds : List Reading) → Contains ds d → Contains (x ∷ ds) d
contains_later d x ds (k, below, e) = (suc k, omega arith, e)

contains_cases : (d x : Reading) (ds : List Reading) → Contains (x ∷ ds) d → (d ≡ x) ⊎ Contains ds d
contains_cases d x ds (zero, below, e) = inl (sym e)
contains_cases d x ds (suc k, below, e) = inr (k, omega arith, e)

before_asym : (d e : Reading) → Before d e → Before e d → ⊥
before_asym d e h k = omega arith

-- what a list in order says of its first reading, and of the others
first_before : (d : Reading) (ds : List Reading) → AllPairs Before (d ∷ ds) → All (Before d) ds
first_before d ds o k e below = o zero (suc k) e (omega arith) (omega arith)

others_ordered : (d : Reading) (ds : List Reading) → AllPairs Before (d ∷ ds) → AllPairs Before ds
others_ordered d ds o i j e less below = o (suc i) (suc j) e (omega arith) (omega arith)

-- a later reading of one list is a later one of the other
contains_other : (x y d : Reading) (xs ys : List Reading) → x ≡ y → All (Before x) xs → Contains xs d → Contains (y ∷ ys) d → Contains ys d
contains_other x y d xs ys s o m n =
    elim (contains_cases d y ys n) [
      | inl e ↦ let b : Before x x = subst (Before x) (e ∙ sym s) (All-contains (Before x) xs d o m) in absurd (before_asym x x b b)
      | inr k ↦ k
    ]

-- the first readings of two lists that share their readings are one
same_first : (x y : Reading) (xs ys : List Reading) → All (Before x) xs → All (Before y) ys → Contains (y ∷ ys) x → Contains (x ∷ xs) y → x ≡ y
same_first x y xs ys o p m n =
    elim (contains_cases x y ys m) [
      | inl e ↦ e
      | inr k ↦ elim (contains_cases y x xs n) [
        | inl e ↦ sym e
        | inr l ↦ absurd (before_asym x y (All-contains (Before x) xs y o l) (All-contains (Before y) ys x p k))
      ]
    ]

same_ordered : (xs ys : List Reading) → AllPairs Before xs → AllPairs Before ys → ((d : Reading) → Contains xs d → Contains ys d) → ((d : Reading) → Contains ys d → Contains xs d) → xs ≡ ys
same_ordered [] [] o p f g = refl
same_ordered [] (y ∷ ys) o p f g = absurd (contains_none y (g y (contains_first y ys)))
same_ordered (x ∷ xs) [] o p f g = absurd (contains_none x (f x (contains_first x xs)))
same_ordered (x ∷ xs) (y ∷ ys) o p f g =
    let a : All (Before x) xs = first_before x xs o in
    let b : All (Before y) ys = first_before y ys p in
    let e : x ≡ y = same_first x y xs ys a b (f x (contains_first x xs)) (g y (contains_first y ys)) in
    let t : xs ≡ ys =
    same_ordered xs ys (others_ordered x xs o) (others_ordered y ys p)
    (λ d m. contains_other x y d xs ys e a m (f d (contains_later d x xs m)))
    (λ d m. contains_other y x d ys xs (sym e) b m (g d (contains_later d y ys m))) in
    cc

-- ds has each reading of which P holds, and no other, in order
pub record Exactly (P : Reading → Type 0) (ds : List Reading) : Type 0 where
  pub order : AllPairs Before ds
  pub right : All P ds
  pub none_missing : (d : Reading) → P d → Contains ds d

exactly_same : (P : Reading → Type 0) (ds es : List Reading) → Exactly P ds → Exactly P es → ds ≡ es
exactly_same P ds es a b =
    same_ordered ds es a.order b.order
    (λ d m. b.none_missing d (All-contains P ds d a.right m))
    (λ d m. a.none_missing d (All-contains P es d b.right m))

ordered_none : AllPairs Before []
ordered_none i j d less below = absurd (omega arith)

pub exactly_none : (P : Reading → Type 0) → ((d : Reading) → P d → ⊥) → Exactly P []
exactly_none P f = record { order = ordered_none; right = All-nil P; none_missing = λ d h. absurd (f d h) }

pub exactly_one : (P : Reading → Type 0) (d : Reading) → P d → ((e : Reading) → P e → e ≡ d) → Exactly P (d ∷ [])
exactly_one P d h f = record {
  order = AllPairs-cons Before d [] (All-nil (Before d)) ordered_none;
  right = All-cons P d [] h (All-nil P);
  none_missing = λ e k. rw (f e k) (contains_first d []);
}

ordered_append : (ds es : List Reading) → AllPairs Before ds → AllPairs Before es → All (λ d. All (Before d) es) ds → AllPairs Before (ds ++ es)
ordered_append [] es o p h = p
ordered_append (d ∷ ds) es o p h =
    let A : Reading → Type 0 = λ x. All (Before x) es in
    AllPairs-cons Before d (ds ++ es)
    (All-append (Before d) ds es (first_before d ds o) (All-head A d ds h))
    (ordered_append ds es (others_ordered d ds o) p (All-tail A d ds h))

-- what R holds of, in two parts, each reading of the first before each of the second
module _ (P Q R : Reading → Type 0) (before : (d e : Reading) → P d → Q e → Before d e) (first : (d : Reading) → P d → R d) (second : (d : Reading) → Q d → R d) (only : (d : Reading) → R d → P d ⊎ Q d) where
  pub exactly_join : (ds es : List Reading) → Exactly P ds → Exactly Q es → Exactly R (ds ++ es)
  exactly_join ds es p q =
      let A : Reading → Type 0 = λ d. All (Before d) es in
      record {
        order = ordered_append ds es p.order q.order (All-weaker P A (λ d h. All-weaker Q (Before d) (λ e k. before d e h k) es q.right) ds p.right);
        right = All-append R ds es (All-weaker P R first ds p.right) (All-weaker Q R second es q.right);
        none_missing = λ d h. elim (only d h) [
          | inl k ↦ Contains-append_left ds es d (p.none_missing d k)
          | inr k ↦ Contains-append_right ds es d (q.none_missing d k)
        ];
      }

-- a listing is its readings and the single byte
exactly_of : (A : Reading → Type 0) (rest : List ℕ) (ds : List Reading) (l : IsListing A rest ds) → Exactly A l.readings
exactly_of A rest ds l = record { order = l.order; right = l.right; none_missing = l.none_missing }

pub listing_of : (A : Reading → Type 0) (rest : List ℕ) (ds : List Reading) → Exactly A ds → IsListing A rest (ds ++ last_resort rest)
listing_of A rest ds a = record { readings = ds; whole = refl; order = a.order; right = a.right; none_missing = a.none_missing }

-- whatever is allowed, two listings of it are one
pub listing_unique : (allowed : Reading → Type 0) (rest : List ℕ) (ds es : List Reading) → IsListing allowed rest ds → IsListing allowed rest es → ds ≡ es
listing_unique A rest ds es a b =
    let same : a.readings ≡ b.readings = exactly_same A a.readings b.readings (exactly_of A rest ds a) (exactly_of A rest es b) in
    a.whole ∙ ap (λ (l : List Reading). l ++ last_resort rest) same ∙ sym b.whole

-- a listing of what is allowed is one of whatever is allowed exactly then
pub listing_as : (A B : Reading → Type 0) (rest : List ℕ) (ds : List Reading) → ((d : Reading) → A d ↔ B d) → IsListing A rest ds → IsListing B rest ds
listing_as A B rest ds f l = record {
  readings = l.readings;
  whole = l.whole;
  order = l.order;
  right = All-weaker A B (λ d. (f d).0) l.readings l.right;
  none_missing = λ d h. l.none_missing d ((f d).1 h);
}
