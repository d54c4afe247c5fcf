-- The rows of a file: all different, and closed under what is met.
use Rattle.std.proofs.Common.{◌≡◌, ℕ, zero, suc, ◌+◌, ◌-◌, ◌<◌, ◌≤◌, Bool, true, false, List, [], ◌∷◌, ◌++◌, length, get_or, sym, ap, ◌∙◌, subst, inl, inr, zero-add, arith, length-append}
use lib.ListN.{get_or-append}
use lib.Seq.{get_or_at}
use Rattle.std.proofs.lemmas.Bool.{cases_lt, cases_eq, cases_Bool}
use Rattle.grammar.specs.File.{RuleText}
use Rattle.automaton.specs.Sets.{Set, empty}
use Rattle.automaton.specs.Automaton.{start_set, trail_set, leads}
use Rattle.automaton.specs.Numbering.{stored, meet, meet_all, starts, trails, none, leads_from, grown, row_sets}
use Rattle.automaton.specs.Theorems.{Known, Apart, SameIsEqualMembers, RowsDistinct, MetAreStored, NumbersNameRows, EntriesWithin}
use Rattle.automaton.proofs.Members.{same_true, same_from, empty_true, empty_from, same_refl, same_sym, same_trans, same_empty}
use Rattle.automaton.proofs.Meeting.{Front, front_get_or, front_known, stored_none, stored_first, place_first, number_empty, number_placed, number_append, known_or_new, meet_old, meet_new, meet_all_append, meet_all_front, meet_all_known, meet_all_length, starts_append, trails_append, leads_from_append, leads_from_more, grown_end, grown_stop, grown_step, grown_keeps, grown_front}
use Rattle.automaton.proofs.Alike.{alike_same, alike_stored, alike_place, alike_number, alike_meet}

-- all different: kept by each set met
new_apart : (rs : List Set) (s : Set) → Apart rs → empty s ≡ false → stored rs s ≡ false → Apart (rs ++ (s ∷ []))
new_apart rs s a e f = record {
  distinct = λ i j lt h. elim (cases_lt j (length rs)) [
    | inl old ↦ rw (get_or-append rs (s ∷ []) none i (omega arith), get_or-append rs (s ∷ []) none j old) (a.distinct i j lt old)
    | inr new ↦
        let at : length rs ≡ j = omega (arith, more) in
        rw (get_or-append rs (s ∷ []) none i (omega arith), get_or_at rs s [] none j at) (stored_none rs s f i (omega arith))
  ];
  filled = λ i h. elim (cases_lt i (length rs)) [
    | inl old ↦ rw (get_or-append rs (s ∷ []) none i old) (a.filled i old)
    | inr new ↦
        let at : length rs ≡ i = omega (arith, more) in
        rw (get_or_at rs s [] none i at) e
  ];
}
  where
    more : length (rs ++ (s ∷ [])) ≡ length rs + 1
    more = length-append rs (s ∷ [])

meet_apart : (rs : List Set) (s : Set) → Apart rs → Apart (meet rs s)
meet_apart rs s a = elim (known_or_new rs s) [
  | inl k ↦ subst Apart (sym (meet_old rs s k)) a
  | inr n ↦ subst Apart (sym (meet_new rs s n.0 n.1)) (new_apart rs s a n.0 n.1)
]

pub meet_all_apart : (rs ss : List Set) → Apart rs → Apart (meet_all rs ss)
meet_all_apart rs [] a = a
meet_all_apart rs (s ∷ ss) a = meet_all_apart (meet rs s) ss (meet_apart rs s a)

none_apart : Apart []
none_apart = record { distinct = λ i j lt h. absurd (omega arith); filled = λ i h. absurd (omega arith) }

pub rows_distinct : RowsDistinct
unfolding row_sets
rows_distinct qs conditions most =
    let ss : List Set = starts qs 0 conditions ++ trails qs 0 (length qs) in
    grown_keeps qs most Apart meet_all_apart (suc most) 0 (meet_all [] ss) (meet_all_apart [] ss none_apart)

-- a start behind others is met
module _ (qs : List RuleText) where
  starts_met : (rs : List Set) (c : ℕ) (line : Bool) (n : ℕ) → c < n → Known (meet_all rs (starts qs 0 n)) (start_set qs 0 c line)
  starts_met rs c line n lt =
      let m : ℕ = n - suc c in
      let e : starts qs 0 n ≡ starts qs 0 c ++ starts qs c (suc m) =
      ap (starts qs 0) (omega arith) ∙ starts_append qs 0 c (suc m) ∙ ap (λ d. starts qs 0 c ++ starts qs d (suc m)) (zero-add c) in
      subst (λ ss. Known (meet_all rs ss) (start_set qs 0 c line)) (sym e)
      (subst (λ us. Known us (start_set qs 0 c line)) (sym (meet_all_append rs (starts qs 0 c) (starts qs c (suc m)))) (either (meet_all rs (starts qs 0 c)) m line))
    where
      either : (us : List Set) (m : ℕ) (l : Bool) → Known (meet_all us (starts qs c (suc m))) (start_set qs 0 c l)
      either us m false = meet_all_known us [] (start_set qs 0 c false) (start_set qs 0 c true ∷ starts qs (suc c) m)
      either us m true = meet_all_known us (start_set qs 0 c false ∷ []) (start_set qs 0 c true) (starts qs (suc c) m)

  trails_met : (rs : List Set) (i n : ℕ) → i < n → Known (meet_all rs (trails qs 0 n)) (trail_set qs 0 i)
  trails_met rs i n lt =
      let m : ℕ = n - suc i in
      let e : trails qs 0 n ≡ trails qs 0 i ++ trails qs i (suc m) =
      ap (trails qs 0) (omega arith) ∙ trails_append qs 0 i (suc m) ∙ ap (λ d. trails qs 0 i ++ trails qs d (suc m)) (zero-add i) in
      subst (λ ss. Known (meet_all rs ss) (trail_set qs 0 i)) (sym e) (meet_all_known rs (trails qs 0 i) (trail_set qs 0 i) (trails qs (suc i) m))

  leads_met : (rs : List Set) (s : Set) (b n : ℕ) → b < n → Known (meet_all rs (leads_from qs s 0 n)) (leads qs s b)
  leads_met rs s b n lt =
      let m : ℕ = n - suc b in
      let e : leads_from qs s 0 n ≡ leads_from qs s 0 b ++ (leads qs s b ∷ leads_from qs s (suc b) m) =
      ap (leads_from qs s 0) (omega arith) ∙ leads_from_append qs s 0 b (suc m) ∙ ap (λ d. leads_from qs s 0 b ++ leads_from qs s d (suc m)) (zero-add b)
      ∙ ap (λ us. leads_from qs s 0 b ++ us) (leads_from_more qs s b m) in
      subst (λ ss. Known (meet_all rs ss) (leads qs s b)) (sym e) (meet_all_known rs (leads_from qs s 0 b) (leads qs s b) (leads_from qs s (suc b) m))

-- what the bytes lead to from the first k rows is known
abbrev pub Done : List RuleText → ℕ → List Set → Type 0
Done qs k rs = (j b : ℕ) → j < k → b < 256 → Known rs (leads qs (get_or rs j none) b)

-- one turn more
done_more : (qs : List RuleText) (k : ℕ) (rs : List Set) → k < length rs → Done qs k rs → Done qs (suc k) (meet_all rs (leads_from qs (get_or rs k none) 0 256))
done_more qs k rs here d j b lt small =
    subst (λ s. Known (meet_all rs ss) (leads qs s b)) (sym (front_get_or rs (meet_all rs ss) front j (omega arith))) (elim (cases_eq j k) [
      | inl e ↦ subst (λ i. Known (meet_all rs ss) (leads qs (get_or rs i none) b)) (sym e) (leads_met qs rs (get_or rs k none) b 256 small)
      | inr ne ↦ front_known rs (meet_all rs ss) front (leads qs (get_or rs j none) b) (d j b (omega arith) small)
    ])
  where
    ss : List Set
    ss = leads_from qs (get_or rs k none) 0 256

    front : Front rs (meet_all rs ss)
    front = meet_all_front rs ss

-- and from all rows, if they are not too many
abbrev pub Finished : List RuleText → ℕ → List Set → Type 0
Finished qs most rs = length rs ≤ most → Done qs (length rs) rs

-- with turns enough for `most` rows, the turns end behind the last row
pub grown_done : (qs : List RuleText) (most n k : ℕ) (rs : List Set) → k ≤ length rs → most < k + n → Done qs k rs → Finished qs most (grown qs most n k rs)
grown_done qs most zero k rs within turns d = subst (Finished qs most) (sym (grown_end qs most k rs)) (λ few. absurd (omega arith))
grown_done qs most (suc n) k rs within turns d = elim (cases_lt k (length rs)) [
  | inr past ↦ subst (Finished qs most) (sym (grown_stop qs most (suc n) k rs (inl past))) (λ few j b lt small. d j b (omega arith) small)
  | inl here ↦ elim (cases_lt most (length rs)) [
    | inl many ↦ subst (Finished qs most) (sym (grown_stop qs most (suc n) k rs (inr many))) (λ few. absurd (omega arith))
    | inr few ↦
        let ss : List Set = leads_from qs (get_or rs k none) 0 256 in
        subst (Finished qs most) (sym (grown_step qs most n k rs here few))
        (grown_done qs most n (suc k) (meet_all rs ss) (omega (arith, meet_all_length rs ss)) (omega arith) (done_more qs k rs here d))
  ]
]

pub met_are_stored : MetAreStored
unfolding row_sets
met_are_stored qs conditions most = record {
  from_starts = λ c line lt. later (start_set qs 0 c line)
      (front_known (meet_all [] ss) (meet_all (meet_all [] ss) ts) (meet_all_front (meet_all [] ss) ts) (start_set qs 0 c line) (starts_met qs [] c line conditions lt));
  from_trails = λ i lt. later (trail_set qs 0 i) (trails_met qs (meet_all [] ss) i (length qs) lt);
  from_rows = grown_done qs most (suc most) 0 (meet_all [] (ss ++ ts)) (omega arith) (omega arith) (λ j b lt. absurd (omega arith));
}
  where
    ss : List Set
    ss = starts qs 0 conditions

    ts : List Set
    ts = trails qs 0 (length qs)

    later : (s : Set) → Known (meet_all (meet_all [] ss) ts) s → Known (grown qs most (suc most) 0 (meet_all [] (ss ++ ts))) s
    later s h = front_known (meet_all [] (ss ++ ts)) (grown qs most (suc most) 0 (meet_all [] (ss ++ ts))) (grown_front qs most (suc most) 0 (meet_all [] (ss ++ ts))) s
        (subst (λ us. Known us s) (sym (meet_all_append [] ss ts)) h)

-- numbers
pub numbers_name_rows : NumbersNameRows
numbers_name_rows rs s = record {
  of_empty = number_empty rs s;
  of_stored = λ e t. let q = stored_first rs s t in (q.0, number_placed rs s e ∙ place_first rs s q.0 q.1, q.1);
  stays = λ k ts. number_append rs ts s k;
}

pub entries_within : EntriesWithin
entries_within rs s h = elim (cases_Bool (empty s)) [
  | inl e ↦ omega (arith, number_empty rs s e)
  | inr e ↦ let q = stored_first rs s (rw e at h) in omega (arith, number_placed rs s e, place_first rs s q.0 q.1, q.1.within)
]

pub same_is_equal_members : SameIsEqualMembers
same_is_equal_members = record {
  same_members = λ s t. (same_true s t, same_from s t);
  no_members = λ s. (empty_true s, empty_from s);
  reflexive = same_refl;
  symmetric = same_sym;
  transitive = same_trans;
  as_empty = same_empty;
  as_stored = λ rs s t h. alike_stored rs rs s t (alike_same rs) h;
  as_placed = λ rs s t h. alike_place rs rs s t (alike_same rs) h;
  as_numbered = λ rs s t h. alike_number rs rs s t (alike_same rs) h;
  as_met = λ rs s t h. alike_meet rs rs s t (alike_same rs) h;
}
