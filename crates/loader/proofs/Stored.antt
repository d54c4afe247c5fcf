-- Sets in the work memory, seen as rows by their members.
use Rattle.std.proofs.Common.{◌≡◌, ℕ, suc, ◌+◌, ◌<◌, ◌≤◌, Bool, true, false, ◌||◌, ◌≢◌, List, [], ◌∷◌, ◌++◌, map, length, take, get_or, set, min, Some, Ok, Err, Result, sym, refl, ap, ◌∙◌, subst, inl, inr, arith, length-take, length-append, length-set, get_or-set_other, get_or-set_same}
use mathlib.Core.Path.{fun_ext}
use Rattle.std.proofs.lemmas.List.{get_or-map, get_or-take, get_or_default, take_more_set, map-append, length-map}
use Rattle.std.proofs.lemmas.Bool.{cases_lt, cases_eq, cases_Bool, false≢true, or_parts, or_left, or_right, cond-true, cond-false}
use Rattle.bits.specs.declared.Bits.{Bits}
use Rattle.bits.specs.Set.{has, Whole}
use Rattle.bits.proofs.Words.{has_past, same_members}
use Rattle.positions.specs.Memory.{Work}
use Rattle.finder.specs.declared.Found.{Found}
use Rattle.finder.specs.declared.Found.TheVariants.{Old, New}
use Rattle.finder.specs.declared.Full.{Full}
use Rattle.finder.specs.Placed as finder
use Rattle.automaton.specs.Sets.{Set, empty, same}
use Rattle.automaton.specs.Numbering.{stored, place, number, meet, none}
use Rattle.automaton.specs.Theorems.{Known, FirstSame}
use Rattle.automaton.proofs.Members.{same_true, empty_from, empty_true, same_refl}
use Rattle.automaton.proofs.Meeting.{stored_none, stored_first, place_first, number_empty, number_placed, meet_old, meet_new}
use Rattle.loader.specs.Machine.{members}
use Rattle.loader.specs.Building.{rows_of, Stored, Guessed, MetAs}

abbrev pub nil : Bits 8
nil = record { words = [] }

abbrev pub words_of : Bits 8 → List ℕ
words_of s = s.words

-- a set of eight words has no member past 511
pub none_past : (ws : List ℕ) (j : ℕ) → length ws ≡ 8 → 512 ≤ j → has ws j ≡ false
none_past ws j l h = has_past ws j (omega arith)

-- the same set has the same words
pub words_same : (ws vs : List ℕ) → Whole 8 ws → Whole 8 vs → same (has ws) (has vs) ≡ true → ws ≡ vs
words_same ws vs a b e = same_members ws vs (a.0 ∙ sym b.0) a.1 b.1 (λ j. at j)
  where
    at : (j : ℕ) → has ws j ≡ has vs j
    at j = elim (cases_lt j 512) [ inl lt ↦ same_true (has ws) (has vs) e j lt | inr past ↦ none_past ws j a.0 past ∙ sym (none_past vs j b.0 past) ]

-- the first n sets, one by one
module _ (w : Work) (n : ℕ) (room : n ≤ length w) where
  pub rows_length : length (rows_of w n) ≡ n
  rows_length = length-map (take n w) members ∙ length-take n w ∙ omega arith

  pub rows_at : (k : ℕ) → k < n → get_or (rows_of w n) k none ≡ members (get_or w k nil)
  rows_at k lt = get_or-map members (take n w) k nil none (omega (arith, length-take n w)) ∙ ap members (get_or-take n w k nil lt)

pub rows_more : (w : Work) (n : ℕ) (x : Bits 8) → n < length w → rows_of (set w n x) (n + 1) ≡ rows_of w n ++ (members x ∷ [])
rows_more w n x lt = ap (map members) (take_more_set w n x lt) ∙ map-append members (take n w) (x ∷ [])

-- one more set, which is none of them
module _ (w : Work) (n : ℕ) (x : Bits 8) (s : Stored w n) (h : Whole 8 x.words) (some : empty (members x) ≡ false) (fresh : finder.Fresh words_of w n x) (lt : n < length w) where
  put : get_or (set w n x) n nil ≡ x
  put = get_or-set_same w n x nil lt

  still : (k : ℕ) → k < n → get_or (set w n x) k nil ≡ get_or w k nil
  still k l = let other : k ≢ n = omega arith in get_or-set_other w n k x nil other

  -- what holds of the sets and of x holds of all
  all_more : (P : Bits 8 → Type 0) → ((k : ℕ) → k < n → P (get_or w k nil)) → P x → (k : ℕ) → k < n + 1 → P (get_or (set w n x) k nil)
  all_more P old new k l = elim (cases_eq k n) [
    | inl e ↦ subst (λ (i : ℕ). P (get_or (set w n x) i nil)) (sym e) (subst P (sym put) new)
    | inr ne ↦ subst P (sym (still k (omega arith))) (old k (omega arith))
  ]

  apart_more : (j k : ℕ) → j < k → k < n + 1 → (get_or (set w n x) j nil).words ≢ (get_or (set w n x) k nil).words
  apart_more j k less l = elim (cases_eq k n) [
    | inl e ↦ λ q. fresh j nil (omega arith) (omega arith) (ap words_of (sym (still j (omega arith))) ∙ q ∙ ap (λ (i : ℕ). (get_or (set w n x) i nil).words) e ∙ ap words_of put)
    | inr ne ↦ λ q. s.apart j k less (omega arith) (ap words_of (sym (still j (omega arith))) ∙ q ∙ ap words_of (still k (omega arith)))
  ]

  pub stored_more : Stored (set w n x) (n + 1)
  stored_more = record {
    room = omega (arith, length-set {A = Bits 8});
    most = omega (arith, s.most, length-set {A = Bits 8});
    whole = all_more (λ y. Whole 8 y.words) s.whole h;
    filled = all_more (λ y. empty (members y) ≡ false) s.filled some;
    apart = apart_more;
  }

-- the number of one that is new
place_last : (rs : List Set) (s : Set) → stored rs s ≡ false → place (rs ++ (s ∷ [])) s ≡ suc (length rs)
place_last [] s f = cond-true (same s s) 1 (suc (place [] s)) (same_refl s)
place_last (r ∷ rs) s f =
    let p = or_parts (same r s) (stored rs s) f in
    cond-false (same r s) 1 (suc (place (rs ++ (s ∷ [])) s)) p.0 ∙ ap suc (place_last rs s p.1)

-- x is looked for among the first n sets, or put behind them
module _ (w : Work) (n : ℕ) (x : Bits 8) (s : Stored w n) (h : Whole 8 x.words) where
  -- one that is the same as a row has its words
  row_words : (k : ℕ) → k < n → same (get_or (rows_of w n) k none) (members x) ≡ true → (get_or w k nil).words ≡ x.words
  row_words k lt e = words_same (get_or w k nil).words x.words (s.whole k lt) h (subst (λ (r : Set). same r (members x) ≡ true) (rows_at w n s.room k lt) e)

  found_first : (k : ℕ) → finder.FirstFound words_of w n x k → FirstSame (rows_of w n) (members x) k
  found_first k g = record {
    within = omega (arith, rows_length w n s.room, g.0);
    equal = subst (λ (r : Set). same r (members x) ≡ true) (sym (rows_at w n s.room k g.0)) (subst (λ (ws : List ℕ). same (has ws) (members x) ≡ true) (sym (g.1 nil)) (same_refl (members x)));
    earliest = λ j lt. elim (cases_Bool (same (get_or (rows_of w n) j none) (members x))) [
      | inr f ↦ f
      | inl t ↦ absurd (g.2 j nil (omega arith) lt (row_words j (omega (arith, g.0)) t))
    ];
  }

  fresh_new : finder.Fresh words_of w n x → stored (rows_of w n) (members x) ≡ false
  fresh_new g = elim (cases_Bool (stored (rows_of w n) (members x))) [
    | inr f ↦ f
    | inl t ↦
        let q = stored_first (rows_of w n) (members x) t in
        let lt : q.0 < n = omega (arith, q.1.within, rows_length w n s.room) in
        absurd (g q.0 nil (omega arith) lt (row_words q.0 lt q.1.equal))
  ]

  found_known : (k : ℕ) → FirstSame (rows_of w n) (members x) k → Known (rows_of w n) (members x)
  found_known k g = or_right (empty (members x)) (stored (rows_of w n) (members x)) (elim (cases_Bool (stored (rows_of w n) (members x))) [
    | inl t ↦ t
    | inr f ↦ absurd (false≢true (sym (stored_none (rows_of w n) (members x) f k g.within) ∙ g.equal))
  ])

  pub met_old : (k : ℕ) → empty (members x) ≡ false → finder.FirstFound words_of w n x k → MetAs (rows_of w n) (members x) w (record { number = k + 1; count = n })
  met_old k e f =
      let q = found_first k f in
      let old : meet (rows_of w n) (members x) ≡ rows_of w n = meet_old (rows_of w n) (members x) (found_known k q) in
      record {
        rows = sym old;
        number = sym (ap (λ (rs : List Set). number rs (members x)) old ∙ number_placed (rows_of w n) (members x) e ∙ place_first (rows_of w n) (members x) k q ∙ omega arith);
        stored = s;
      }

  pub met_new : empty (members x) ≡ false → n < length w → finder.Fresh words_of w n x → MetAs (rows_of w n) (members x) (set w n x) (record { number = n + 1; count = n + 1 })
  met_new e lt f =
      let no : stored (rows_of w n) (members x) ≡ false = fresh_new f in
      let new : meet (rows_of w n) (members x) ≡ rows_of w n ++ (members x ∷ []) = meet_new (rows_of w n) (members x) e no in
      record {
        rows = rows_more w n x lt ∙ sym new;
        number = sym (ap (λ (rs : List Set). number rs (members x)) new ∙ number_placed (rows_of w n ++ (members x ∷ [])) (members x) e
            ∙ place_last (rows_of w n) (members x) no ∙ omega (arith, rows_length w n s.room));
        stored = stored_more w n x s h e f lt;
      }

  pub met_full : empty (members x) ≡ false → n ≡ length w → finder.Fresh words_of w n x → length w < length (meet (rows_of w n) (members x))
  met_full e full f =
      let new : meet (rows_of w n) (members x) ≡ rows_of w n ++ (members x ∷ []) = meet_new (rows_of w n) (members x) e (fresh_new f) in
      omega (arith, ap length new, length-append (rows_of w n) (members x ∷ []), rows_length w n s.room)

-- x is the same as one of the n sets
module _ (w : Work) (n : ℕ) (x : Bits 8) (s : Stored w n) (k : ℕ) (lt : k < n) (same : (get_or w k nil).words ≡ x.words) where
  is_first : finder.FirstFound words_of w n x k
  is_first = (
    lt,
    λ d. ap words_of (get_or_default w k d nil (omega (arith, s.room))) ∙ same,
    λ j d low less. λ q. s.apart j k less lt (ap words_of (get_or_default w j nil d (omega (arith, s.room))) ∙ q ∙ sym same),
  )

  pub met_same : MetAs (rows_of w n) (members x) w (record { number = k + 1; count = n })
  met_same = met_old w n x s (subst (Whole 8) same (s.whole k lt)) k (subst (λ (ws : List ℕ). empty (has ws) ≡ false) same (s.filled k lt)) is_first

-- as a guess answers
pub met_guessed : (w : Work) (n m k : ℕ) (x : Bits 8) → Stored w n → m ≡ n → Guessed (take m w) x (Some k) → MetAs (rows_of w n) (members x) w (record { number = k + 1; count = n })
met_guessed w n m k x s e g =
    let lt : k < m = omega (arith, g.0, length-take m w) in
    met_same w n x s k (omega arith) (ap words_of (sym (get_or-take m w k nil lt)) ∙ g.1)

pub met_empty : (w : Work) (n : ℕ) (x : Set) → Stored w n → empty x ≡ true → MetAs (rows_of w n) x w (record { number = 0; count = n })
met_empty w n x s e =
    let old : meet (rows_of w n) x ≡ rows_of w n = meet_old (rows_of w n) x (or_left (empty x) (stored (rows_of w n) x) e) in
    record {
      rows = sym old;
      number = sym (ap (λ (rs : List Set). number rs x) old ∙ number_empty (rows_of w n) x e);
      stored = s;
    }

-- as the finder answers
module _ (w w' : Work) (n : ℕ) (x : Bits 8) (y : Set) (s : Stored w n) (h : Whole 8 x.words) (same : members x ≡ y) (e : empty (members x) ≡ false)
    (r : Result Found Full) (p : finder.Placed words_of w w' (min n (length w)) x r) where
  here : min n (length w) ≡ n
  here = omega (arith, s.room)

  pub placed_old : (k : ℕ) (f : Found) → r ≡ Ok f → f ≡ Old k → MetAs (rows_of w n) y w' (record { number = k + 1; count = n })
  placed_old k f a b =
      let q : finder.Placed words_of w w' n x (Ok (Old k)) = subst (λ (m : ℕ). finder.Placed words_of w w' m x (Ok (Old k))) here (subst (finder.Placed words_of w w' (min n (length w)) x) (a ∙ ap Ok b) p) in
      subst (λ (z : Set). MetAs (rows_of w n) z w' (record { number = k + 1; count = n })) same
      (subst (λ (v : Work). MetAs (rows_of w n) (members x) v (record { number = k + 1; count = n })) (sym q.1) (met_old w n x s h k e q.0))

  pub placed_new : (k : ℕ) (f : Found) → r ≡ Ok f → f ≡ New k → MetAs (rows_of w n) y w' (record { number = k + 1; count = n + 1 })
  placed_new k f a b =
      let q : finder.Placed words_of w w' n x (Ok (New k)) = subst (λ (m : ℕ). finder.Placed words_of w w' m x (Ok (New k))) here (subst (finder.Placed words_of w w' (min n (length w)) x) (a ∙ ap Ok b) p) in
      subst (λ (z : Set). MetAs (rows_of w n) z w' (record { number = k + 1; count = n + 1 })) same
      (subst (λ (m : ℕ). MetAs (rows_of w n) (members x) w' (record { number = m + 1; count = n + 1 })) (sym q.0)
      (subst (λ (v : Work). MetAs (rows_of w n) (members x) v (record { number = n + 1; count = n + 1 })) (sym q.3) (met_new w n x s h e q.1 q.2)))

  pub placed_full : (f : Full) → r ≡ Err f → length w' < length (meet (rows_of w n) y)
  placed_full f a =
      let q : finder.Placed words_of w w' n x (Err f) = subst (λ (m : ℕ). finder.Placed words_of w w' m x (Err f)) here (subst (finder.Placed words_of w w' (min n (length w)) x) a p) in
      subst (λ (z : Set). length w' < length (meet (rows_of w n) z)) same
      (subst (λ (v : Work). length v < length (meet (rows_of w n) (members x))) (sym q.2) (met_full w n x s h e q.0 q.1))

-- some member, or none
pub some_filled : (x : Set) (j : ℕ) → j < 512 → x j ≡ true → empty x ≡ false
some_filled x j lt h = elim (cases_Bool (empty x)) [ inr f ↦ f | inl t ↦ absurd (false≢true (sym (empty_true x t j lt) ∙ h)) ]

pub filled : (ws : List ℕ) (j : ℕ) → Whole 8 ws → has ws j ≡ true → empty (has ws) ≡ false
filled ws j h t = elim (cases_lt j 512) [ inl lt ↦ some_filled (has ws) j lt t | inr past ↦ absurd (false≢true (sym (none_past ws j h.0 past) ∙ t)) ]

twice : (a : Bool) → (a || a) ≡ a
twice true = refl
twice false = refl

-- the union of a set with itself
pub either_same : (x y : Bits 8) → ((j : ℕ) → has x.words j ≡ (has y.words j || has y.words j)) → members x ≡ members y
either_same x y h = fun_ext (λ j. h j ∙ twice (has y.words j))

pub met_nothing : (w : Work) (n : ℕ) (x y : Bits 8) → Stored w n → ((j : ℕ) → has x.words j ≡ (has y.words j || has y.words j)) → ((j : ℕ) → has x.words j ≡ false)
    → MetAs (rows_of w n) (members y) w (record { number = 0; count = n })
met_nothing w n x y s h f =
    met_empty w n (members y) s (empty_from (members y) (λ p lt. sym (twice (has y.words p)) ∙ sym (h p) ∙ f p))
