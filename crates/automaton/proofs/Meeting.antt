-- Sets met one behind the other: which rows there are, and which numbers they have.
use Rattle.std.proofs.Common.{◌≡◌, ℕ, zero, suc, ◌+◌, ◌<◌, ◌≤◌, true, false, ◌&&◌, ◌||◌, ltb, leb, ◌⊎◌, List, [], ◌∷◌, ◌++◌, length, get_or, sym, refl, ap, ◌∙◌, subst, inl, inr, append_assoc, append-nil, add-zero, add-suc, suc-add, zero-add, arith, length-append}
use lib.ListN.{get_or-append}
use Rattle.std.proofs.lemmas.Bool.{cases_Bool, cases_lt, false≢true, or_cases, or_parts, or_from, or_left, or_right, and_from, and_left, and_right, cond-true, cond-false, lt-ltb, le-ltb, le-leb, lt-leb}
use Rattle.grammar.specs.File.{RuleText}
use Rattle.automaton.specs.Sets.{Set, empty, same}
use Rattle.automaton.specs.Automaton.{leads}
use Rattle.automaton.specs.Numbering.{stored, place, number, meet, meet_all, starts, trails, none, leads_from, grown}
use Rattle.automaton.specs.Theorems.{Known, FirstSame}
use Rattle.automaton.proofs.Members.{same_refl}

-- by places
pub stored_none : (rs : List Set) (s : Set) → stored rs s ≡ false → (k : ℕ) → k < length rs → same (get_or rs k none) s ≡ false
stored_none [] s h k lt = absurd (omega arith)
stored_none (r ∷ rs) s h zero lt = (or_parts (same r s) (stored rs s) h).0
stored_none (r ∷ rs) s h (suc k) lt = stored_none rs s (or_parts (same r s) (stored rs s) h).1 k (omega arith)

first_head : (r : Set) (rs : List Set) (s : Set) → same r s ≡ true → FirstSame (r ∷ rs) s 0
first_head r rs s t = record { within = omega arith; equal = t; earliest = λ j lt. absurd (omega arith) }

first_later : (r : Set) (rs : List Set) (s : Set) (k : ℕ) → same r s ≡ false → FirstSame rs s k → FirstSame (r ∷ rs) s (suc k)
first_later r rs s k f h = record { within = omega (arith, h.within); equal = h.equal; earliest = before }
  where
    before : (j : ℕ) → j < suc k → same (get_or (r ∷ rs) j none) s ≡ false
    before zero lt = f
    before (suc j) lt = h.earliest j (omega arith)

pub stored_first : (rs : List Set) (s : Set) → stored rs s ≡ true → (k : ℕ) × FirstSame rs s k
stored_first [] s h = absurd (false≢true h)
stored_first (r ∷ rs) s h = elim (cases_Bool (same r s)) [
  | inl t ↦ (0, first_head r rs s t)
  | inr f ↦ let q = stored_first rs s (rw f at h) in (suc q.0, first_later r rs s q.0 f q.1)
]

pub place_first : (rs : List Set) (s : Set) (k : ℕ) → FirstSame rs s k → place rs s ≡ suc k
place_first [] s k h = absurd (omega (arith, h.within))
place_first (r ∷ rs) s zero h = cond-true (same r s) 1 (suc (place rs s)) h.equal
place_first (r ∷ rs) s (suc k) h =
    let f : same r s ≡ false = h.earliest 0 (omega arith) in
    cond-false (same r s) 1 (suc (place rs s)) f
    ∙ ap suc (place_first rs s k (record { within = omega (arith, h.within); equal = h.equal; earliest = λ j lt. h.earliest (suc j) (omega arith) }))

-- rows added behind
pub stored_append : (rs ts : List Set) (s : Set) → stored rs s ≡ true → stored (rs ++ ts) s ≡ true
stored_append [] ts s h = absurd (false≢true h)
stored_append (r ∷ rs) ts s h = elim (or_cases (same r s) (stored rs s) h) [
  | inl t ↦ or_left (same r s) (stored (rs ++ ts) s) t
  | inr t ↦ or_right (same r s) (stored (rs ++ ts) s) (stored_append rs ts s t)
]

pub place_append : (rs ts : List Set) (s : Set) → stored rs s ≡ true → place (rs ++ ts) s ≡ place rs s
place_append [] ts s h = absurd (false≢true h)
place_append (r ∷ rs) ts s h = elim (cases_Bool (same r s)) [
  | inl t ↦ rw t
  | inr f ↦ rw f (ap suc (place_append rs ts s (rw f at h)))
]

pub known_append : (rs ts : List Set) (s : Set) → Known rs s → Known (rs ++ ts) s
known_append rs ts s h = elim (or_cases (empty s) (stored rs s) h) [
  | inl e ↦ or_left (empty s) (stored (rs ++ ts) s) e
  | inr t ↦ or_right (empty s) (stored (rs ++ ts) s) (stored_append rs ts s t)
]

-- numbers
pub number_empty : (rs : List Set) (s : Set) → empty s ≡ true → number rs s ≡ 0
number_empty rs s h = cond-true (empty s) 0 (place rs s) h

pub number_placed : (rs : List Set) (s : Set) → empty s ≡ false → number rs s ≡ place rs s
number_placed rs s h = cond-false (empty s) 0 (place rs s) h

pub number_append : (rs ts : List Set) (s : Set) → Known rs s → number (rs ++ ts) s ≡ number rs s
number_append rs ts s h = elim (cases_Bool (empty s)) [
  | inl e ↦ rw e
  | inr e ↦ rw e (place_append rs ts s (rw e at h))
]

-- a set is met
pub meet_old : (rs : List Set) (s : Set) → Known rs s → meet rs s ≡ rs
meet_old rs s h = cond-true (empty s || stored rs s) rs (rs ++ (s ∷ [])) h

pub meet_new : (rs : List Set) (s : Set) → empty s ≡ false → stored rs s ≡ false → meet rs s ≡ rs ++ (s ∷ [])
meet_new rs s e f = cond-false (empty s || stored rs s) rs (rs ++ (s ∷ [])) (or_from (empty s) (stored rs s) e f)

-- a set is known or new
pub known_or_new : (rs : List Set) (s : Set) → Known rs s ⊎ ((empty s ≡ false) × (stored rs s ≡ false))
known_or_new rs s = elim (cases_Bool (empty s || stored rs s)) [ inl t ↦ inl t | inr f ↦ inr (or_parts (empty s) (stored rs s) f) ]

-- rows at the front stay
abbrev pub Front : List Set → List Set → Type 0
Front rs us = (ts : List Set) × (us ≡ rs ++ ts)

pub front_same : (rs : List Set) → Front rs rs
front_same rs = ([], sym (append-nil rs))

pub front_trans : (rs us vs : List Set) → Front rs us → Front us vs → Front rs vs
front_trans rs us vs h k = (h.0 ++ k.0, k.1 ∙ ap (λ xs. xs ++ k.0) h.1 ∙ append_assoc rs h.0 k.0)

module _ (rs us : List Set) (h : Front rs us) where
  pub front_length : length rs ≤ length us
  front_length = omega (arith, ap length h.1, length-append rs h.0)

  pub front_get_or : (k : ℕ) → k < length rs → get_or us k none ≡ get_or rs k none
  front_get_or k lt = ap (λ xs. get_or xs k none) h.1 ∙ get_or-append rs h.0 none k lt

  pub front_known : (s : Set) → Known rs s → Known us s
  front_known s k = subst (λ xs. Known xs s) (sym h.1) (known_append rs h.0 s k)

pub meet_front : (rs : List Set) (s : Set) → Front rs (meet rs s)
meet_front rs s = elim (known_or_new rs s) [
  | inl k ↦ ([], meet_old rs s k ∙ sym (append-nil rs))
  | inr n ↦ (s ∷ [], meet_new rs s n.0 n.1)
]

pub meet_known : (rs : List Set) (s : Set) → Known (meet rs s) s
meet_known rs s = elim (known_or_new rs s) [
  | inl k ↦ subst (λ us. Known us s) (sym (meet_old rs s k)) k
  | inr n ↦ subst (λ us. Known us s) (sym (meet_new rs s n.0 n.1)) (or_right (empty s) (stored (rs ++ (s ∷ [])) s) (last rs))
]
  where
    last : (us : List Set) → stored (us ++ (s ∷ [])) s ≡ true
    last [] = or_left (same s s) false (same_refl s)
    last (u ∷ us) = or_right (same u s) (stored (us ++ (s ∷ [])) s) (last us)

-- several sets are met
pub meet_all_append : (rs ss ts : List Set) → meet_all rs (ss ++ ts) ≡ meet_all (meet_all rs ss) ts
meet_all_append rs [] ts = refl
meet_all_append rs (s ∷ ss) ts = meet_all_append (meet rs s) ss ts

pub meet_all_front : (rs ss : List Set) → Front rs (meet_all rs ss)
meet_all_front rs [] = front_same rs
meet_all_front rs (s ∷ ss) = front_trans rs (meet rs s) (meet_all (meet rs s) ss) (meet_front rs s) (meet_all_front (meet rs s) ss)

pub meet_all_length : (rs ss : List Set) → length rs ≤ length (meet_all rs ss)
meet_all_length rs ss = front_length rs (meet_all rs ss) (meet_all_front rs ss)

pub meet_all_known : (rs ss : List Set) (s : Set) (ts : List Set) → Known (meet_all rs (ss ++ (s ∷ ts))) s
meet_all_known rs ss s ts =
    let us : List Set = meet (meet_all rs ss) s in
    subst (λ vs. Known vs s) (sym (meet_all_append rs ss (s ∷ ts)))
    (front_known us (meet_all us ts) (meet_all_front us ts) s (meet_known (meet_all rs ss) s))

-- what is met, cut in two
module _ (qs : List RuleText) where
  pub starts_append : (c n m : ℕ) → starts qs c (n + m) ≡ starts qs c n ++ starts qs (c + n) m
  starts_append c zero m = rw (zero-add m, add-zero c)
  starts_append c (suc n) m = rw (suc-add n m, add-suc c n, ← suc-add c n, starts_append (suc c) n m)

  pub trails_append : (i n m : ℕ) → trails qs i (n + m) ≡ trails qs i n ++ trails qs (i + n) m
  trails_append i zero m = rw (zero-add m, add-zero i)
  trails_append i (suc n) m = rw (suc-add n m, add-suc i n, ← suc-add i n, trails_append (suc i) n m)

  pub leads_from_append : (s : Set) (b n m : ℕ) → leads_from qs s b (n + m) ≡ leads_from qs s b n ++ leads_from qs s (b + n) m
  unfolding leads_from
  leads_from_append s b zero m = rw (zero-add m, add-zero b)
  leads_from_append s b (suc n) m = rw (suc-add n m, add-suc b n, ← suc-add b n, leads_from_append s (suc b) n m)

  pub leads_from_more : (s : Set) (b n : ℕ) → leads_from qs s b (suc n) ≡ leads qs s b ∷ leads_from qs s (suc b) n
  unfolding leads_from
  leads_from_more s b n = refl

-- no more turns, and one turn more
module _ (qs : List RuleText) (most : ℕ) where
  pub grown_end : (k : ℕ) (rs : List Set) → grown qs most 0 k rs ≡ rs
  unfolding grown
  grown_end k rs = refl

  pub grown_stop : (n k : ℕ) (rs : List Set) → (length rs ≤ k) ⊎ (most < length rs) → grown qs most n k rs ≡ rs
  unfolding grown
  grown_stop zero k rs h = refl
  grown_stop (suc n) k rs h = cond-false (ltb k (length rs) && leb (length rs) most) (grown qs most n (suc k) (meet_all rs (leads_from qs (get_or rs k none) 0 256))) rs (stops h)
    where
      stops : (length rs ≤ k) ⊎ (most < length rs) → (ltb k (length rs) && leb (length rs) most) ≡ false
      stops (inl a) = and_left (ltb k (length rs)) (leb (length rs) most) (le-ltb k (length rs) a)
      stops (inr a) = and_right (ltb k (length rs)) (leb (length rs) most) (lt-leb (length rs) most a)

  pub grown_step : (n k : ℕ) (rs : List Set) → k < length rs → length rs ≤ most → grown qs most (suc n) k rs ≡ grown qs most n (suc k) (meet_all rs (leads_from qs (get_or rs k none) 0 256))
  unfolding grown
  grown_step n k rs a b = cond-true (ltb k (length rs) && leb (length rs) most) (grown qs most n (suc k) (meet_all rs (leads_from qs (get_or rs k none) 0 256))) rs
      (and_from (ltb k (length rs)) (leb (length rs) most) (lt-ltb k (length rs) a) (le-leb (length rs) most b))

  -- what each turn keeps is kept by all
  pub grown_keeps : (P : List Set → Type 0) → ((rs ss : List Set) → P rs → P (meet_all rs ss)) → (n k : ℕ) (rs : List Set) → P rs → P (grown qs most n k rs)
  grown_keeps P more zero k rs h = subst P (sym (grown_end k rs)) h
  grown_keeps P more (suc n) k rs h = elim (cases_lt k (length rs)) [
    | inr past ↦ subst P (sym (grown_stop (suc n) k rs (inl past))) h
    | inl here ↦ elim (cases_lt most (length rs)) [
      | inl many ↦ subst P (sym (grown_stop (suc n) k rs (inr many))) h
      | inr few ↦
          let ss : List Set = leads_from qs (get_or rs k none) 0 256 in
          subst P (sym (grown_step n k rs here few)) (grown_keeps P more n (suc k) (meet_all rs ss) (more rs ss h))
    ]
  ]

  pub grown_front : (n k : ℕ) (rs : List Set) → Front rs (grown qs most n k rs)
  grown_front n k rs = grown_keeps (Front rs) (λ us ss h. front_trans rs us (meet_all us ss) h (meet_all_front us ss)) n k rs (front_same rs)
