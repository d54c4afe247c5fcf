-- The rows of a file are in the order in which their sets first come up, since after each meeting those so far are.
use Rattle.std.proofs.Common.{◌≡◌, ℕ, zero, suc, ◌+◌, ◌<◌, ◌≤◌, true, false, ◌⊎◌, List, [], ◌∷◌, ◌++◌, length, get_or, sym, refl, ap, ◌∙◌, subst, inl, inr, arith, length-append}
use lib.Seq.{get_or_at}
use Rattle.std.proofs.lemmas.Bool.{cases_lt, cases_Bool, true≢false, or_from}
use Rattle.grammar.specs.File.{RuleText}
use Rattle.automaton.specs.Sets.{Set, empty, same}
use Rattle.automaton.specs.Numbering.{stored, meet, meet_all, starts, trails, none, leads_from, grown, row_sets}
use Rattle.automaton.specs.Theorems.{Known}
use Rattle.automaton.specs.Order.{Meeting, by_start, by_trail, by_byte, TakesPlace, met_at, turn, TurnBefore, Sooner, FirstMeeting, InOrder, RowsInOrder}
use Rattle.automaton.proofs.Members.{same_refl, same_empty}
use Rattle.automaton.proofs.Meeting.{Front, front_trans, front_length, front_get_or, front_known, known_or_new, meet_old, meet_new, meet_front, meet_known, meet_all_append, meet_all_front, meet_all_length, grown_stop, grown_step, grown_front}
use Rattle.automaton.proofs.Alike.{alike_same, alike_stored}
use Rattle.automaton.proofs.Rows.{rows_distinct}
use Rattle.automaton.proofs.Turns.{before_more, sooner_either}

-- the meetings before the turn t gave the rows rs, which are the first of us
record Held (qs : List RuleText) (conditions : ℕ) (us rs : List Set) (t : ℕ × ℕ × ℕ) : Type 0 where
  front : Front rs us
  complete : (m : Meeting) → TakesPlace qs conditions us m → TurnBefore (turn m) t → Known rs (met_at qs us m)
  met : (k : ℕ) → k < length rs → (m : Meeting) × FirstMeeting qs conditions us k m × TurnBefore (turn m) t
  in_order : (j k : ℕ) (m n : Meeting) → j < k → k < length rs → FirstMeeting qs conditions us j m → FirstMeeting qs conditions us k n → Sooner m n

-- a set that is the same as a known one is known
known_same : (rs : List Set) (s t : Set) → same s t ≡ true → Known rs t → Known rs s
known_same rs s t e h = rw (same_empty s t e, alike_stored rs rs s t (alike_same rs) e) h

-- a new set is not the same as a known one
unlike : (rs : List Set) (s t : Set) → empty s ≡ false → stored rs s ≡ false → Known rs t → same s t ≡ false
unlike rs s t e f h = elim (cases_Bool (same s t)) [
  | inr apart ↦ apart
  | inl one ↦ absurd (true≢false (sym (known_same rs s t one h) ∙ or_from (empty s) (stored rs s) e f))
]

module _ (qs : List RuleText) (conditions : ℕ) (us : List Set) where
  -- a set first comes up once
  once : (k : ℕ) (m n : Meeting) → FirstMeeting qs conditions us k m → FirstMeeting qs conditions us k n → m ≡ n
  once k m n f g = elim (sooner_either m n) [
    | inl h ↦ absurd (true≢false (sym f.of_row ∙ g.first m f.takes_place h))
    | inr (inl e) ↦ e
    | inr (inr h) ↦ absurd (true≢false (sym g.of_row ∙ f.first n g.takes_place h))
  ]

  abbrev Holds : List Set → ℕ × ℕ × ℕ → Type 0
  Holds rs t = Held qs conditions us rs t

  -- to a later turn, with no meeting in between
  later : (rs : List Set) (t u : ℕ × ℕ × ℕ) → TurnBefore t u → ((m : Meeting) → TakesPlace qs conditions us m → TurnBefore (turn m) u → TurnBefore (turn m) t) → Holds rs t → Holds rs u
  later rs t u up none_between h = record {
    front = h.front;
    complete = λ m takes lt. h.complete m takes (none_between m takes lt);
    met = λ k lt. let q = h.met k lt in (q.0, q.1, before_more (turn q.0) t u q.2 up);
    in_order = h.in_order;
  }

  -- a meeting m, and nothing between it and the turn u
  module _ (m : Meeting) (takes : TakesPlace qs conditions us m) (u : ℕ × ℕ × ℕ) (up : TurnBefore (turn m) u) (none_between : (n : Meeting) → Sooner m n → TurnBefore (turn n) u → ⊥) where
    up_to : (n : Meeting) → TurnBefore (turn n) u → Sooner n m ⊎ (n ≡ m)
    up_to n lt = elim (sooner_either n m) [
      | inl h ↦ inl h
      | inr (inl e) ↦ inr e
      | inr (inr h) ↦ absurd (none_between n h lt)
    ]

    module _ (rs : List Set) (low : (row byte : ℕ) → m ≡ by_byte row byte → row < length rs) (h : Holds rs (turn m)) where
      complete_there : (n : Meeting) → TakesPlace qs conditions us n → TurnBefore (turn n) u → Known (meet rs (met_at qs us m)) (met_at qs us n)
      complete_there n there lt = elim (up_to n lt) [
        | inl sooner ↦ front_known rs (meet rs (met_at qs us m)) (meet_front rs (met_at qs us m)) (met_at qs us n) (h.complete n there sooner)
        | inr e ↦ subst (λ (x : Meeting). Known (meet rs (met_at qs us m)) (met_at qs us x)) (sym e) (meet_known rs (met_at qs us m))
      ]

      met_old : (k : ℕ) → k < length rs → (n : Meeting) × FirstMeeting qs conditions us k n × TurnBefore (turn n) u
      met_old k lt = let q = h.met k lt in (q.0, q.1, before_more (turn q.0) (turn m) u q.2 up)

      -- an old set adds no row
      old : Known rs (met_at qs us m) → Holds (meet rs (met_at qs us m)) u
      old known = record {
        front = subst (λ xs. Front xs us) (sym e) h.front;
        complete = complete_there;
        met = λ k lt. met_old k (omega (arith, ap length e));
        in_order = λ i k n o lt within. h.in_order i k n o lt (omega (arith, ap length e));
      }
        where
          e : meet rs (met_at qs us m) ≡ rs
          e = meet_old rs (met_at qs us m) known

      -- a new set adds one
      module _ (filled : empty (met_at qs us m) ≡ false) (fresh : stored rs (met_at qs us m) ≡ false) (front : Front (meet rs (met_at qs us m)) us) where
        e : meet rs (met_at qs us m) ≡ rs ++ (met_at qs us m ∷ [])
        e = meet_new rs (met_at qs us m) filled fresh

        one_more : length (meet rs (met_at qs us m)) ≡ length rs + 1
        one_more = ap length e ∙ length-append rs (met_at qs us m ∷ [])

        the_row : get_or us (length rs) none ≡ met_at qs us m
        the_row = front_get_or (meet rs (met_at qs us m)) us front (length rs) (omega (arith, one_more))
            ∙ ap (λ xs. get_or xs (length rs) none) e ∙ get_or_at rs (met_at qs us m) [] none (length rs) refl

        first_there : FirstMeeting qs conditions us (length rs) m
        first_there = record {
          takes_place = takes;
          of_row = subst (λ (x : Set). same x (met_at qs us m) ≡ true) (sym the_row) (same_refl (met_at qs us m));
          from_before = low;
          first = λ n there sooner. subst (λ (x : Set). same x (met_at qs us n) ≡ false) (sym the_row) (unlike rs (met_at qs us m) (met_at qs us n) filled fresh (h.complete n there sooner));
        }

        met_new : (k : ℕ) → k < length (meet rs (met_at qs us m)) → (n : Meeting) × FirstMeeting qs conditions us k n × TurnBefore (turn n) u
        met_new k lt = elim (cases_lt k (length rs)) [
          | inl before ↦ met_old k before
          | inr past ↦
              let at : length rs ≡ k = omega (arith, one_more) in
              (m, subst (λ (i : ℕ). FirstMeeting qs conditions us i m) at first_there, up)
        ]

        in_order_new : (i k : ℕ) (n o : Meeting) → i < k → k < length (meet rs (met_at qs us m)) → FirstMeeting qs conditions us i n → FirstMeeting qs conditions us k o → Sooner n o
        in_order_new i k n o lt within f g = elim (cases_lt k (length rs)) [
          | inl before ↦ h.in_order i k n o lt before f g
          | inr past ↦
              let at : k ≡ length rs = omega (arith, one_more) in
              let q = h.met i (omega arith) in
              let here : o ≡ m = once (length rs) o m (subst (λ (j : ℕ). FirstMeeting qs conditions us j o) at g) first_there in
              subst (λ (x : Meeting). Sooner n x) (sym here) (subst (λ (x : Meeting). Sooner x m) (once i q.0 n q.1 f) q.2)
        ]

        new : Holds (meet rs (met_at qs us m)) u
        new = record { front = front; complete = complete_there; met = met_new; in_order = in_order_new }

      held_meet : Front (meet rs (met_at qs us m)) us → Holds (meet rs (met_at qs us m)) u
      held_meet front = elim (known_or_new rs (met_at qs us m)) [ inl known ↦ old known | inr n ↦ new n.0 n.1 front ]

  -- the starts, the trail starts, and the bytes from a row
  starts_held : (n c : ℕ) (rs : List Set) → c + n ≡ conditions → Front (meet_all rs (starts qs c n)) us → Holds rs (0, c, 0) → Holds (meet_all rs (starts qs c n)) (0, conditions, 0)
  starts_held zero c rs all front h = subst (λ d. Holds rs (0, d, 0)) (omega (arith, all)) h
  starts_held (suc n) c rs all front h = starts_held n (suc c) there (omega (arith, all)) front after_both
    where
      away : List Set
      away = meet rs (met_at qs us (by_start c false))

      there : List Set
      there = meet away (met_at qs us (by_start c true))

      front_there : Front there us
      front_there = front_trans there (meet_all there (starts qs (suc c) n)) us (meet_all_front there (starts qs (suc c) n)) front

      front_away : Front away us
      front_away = front_trans away there us (meet_front away (met_at qs us (by_start c true))) front_there

      none_away : (m : Meeting) → Sooner (by_start c false) m → TurnBefore (turn m) (0, c, 1) → ⊥
      none_away m a b = omega arith

      none_there : (m : Meeting) → Sooner (by_start c true) m → TurnBefore (turn m) (0, suc c, 0) → ⊥
      none_there (by_start d false) a b = omega arith
      none_there (by_start d true) a b = omega arith
      none_there (by_trail i) a b = omega arith
      none_there (by_byte j d) a b = omega arith

      after_away : Holds away (0, c, 1)
      after_away = held_meet (by_start c false) (omega (arith, all)) (0, c, 1) (inr (refl, inr (refl, omega arith))) none_away rs (λ j b e. absurd (cc)) h front_away

      after_both : Holds there (0, suc c, 0)
      after_both = held_meet (by_start c true) (omega (arith, all)) (0, suc c, 0) (inr (refl, inl (omega arith))) none_there away (λ j b e. absurd (cc)) after_away front_there

  trails_held : (n i : ℕ) (rs : List Set) → i + n ≡ length qs → Front (meet_all rs (trails qs i n)) us → Holds rs (1, i, 0) → Holds (meet_all rs (trails qs i n)) (1, length qs, 0)
  trails_held zero i rs all front h = subst (λ d. Holds rs (1, d, 0)) (omega (arith, all)) h
  trails_held (suc n) i rs all front h = trails_held n (suc i) there (omega (arith, all)) front after_it
    where
      there : List Set
      there = meet rs (met_at qs us (by_trail i))

      none_there : (m : Meeting) → Sooner (by_trail i) m → TurnBefore (turn m) (1, suc i, 0) → ⊥
      none_there (by_start d false) a b = omega arith
      none_there (by_start d true) a b = omega arith
      none_there (by_trail j) a b = omega arith
      none_there (by_byte j d) a b = omega arith

      after_it : Holds there (1, suc i, 0)
      after_it = held_meet (by_trail i) (omega (arith, all)) (1, suc i, 0) (inr (refl, inl (omega arith))) none_there rs (λ j b e. absurd (cc)) h
          (front_trans there (meet_all there (trails qs (suc i) n)) us (meet_all_front there (trails qs (suc i) n)) front)

  bytes_held : (k n b : ℕ) (rs : List Set) → k < length rs → b + n ≡ 256 → Front (meet_all rs (leads_from qs (get_or us k none) b n)) us → Holds rs (2, k, b)
      → Holds (meet_all rs (leads_from qs (get_or us k none) b n)) (2, k, 256)
  unfolding leads_from
  bytes_held k zero b rs here all front h = subst (λ d. Holds rs (2, k, d)) (omega (arith, all)) h
  bytes_held k (suc n) b rs here all front h = bytes_held k n (suc b) there (omega (arith, front_length rs there (meet_front rs s))) (omega (arith, all)) front after_it
    where
      s : Set
      s = met_at qs us (by_byte k b)

      there : List Set
      there = meet rs s

      none_there : (m : Meeting) → Sooner (by_byte k b) m → TurnBefore (turn m) (2, k, suc b) → ⊥
      none_there m a c = omega arith

      low : (j c : ℕ) → by_byte k b ≡ by_byte j c → j < length rs
      low j c e = let at : k ≡ j = cc in omega (arith, here)

      after_it : Holds there (2, k, suc b)
      after_it = held_meet (by_byte k b) (omega (arith, here, front_length rs us h.front), omega (arith, all)) (2, k, suc b) (inr (refl, inr (refl, omega arith))) none_there rs low h
          (front_trans there (meet_all there (leads_from qs (get_or us k none) (suc b) n)) us (meet_all_front there (leads_from qs (get_or us k none) (suc b) n)) front)

  -- from row on row, to the last one
  grown_held : (most n k : ℕ) (rs : List Set) → k ≤ length rs → most < k + n → length us ≤ most → grown qs most n k rs ≡ us → Holds rs (2, k, 0) → Holds us (2, length us, 0)
  grown_held most zero k rs within turns fits e h = absurd (omega (arith, front_length rs us h.front))
  grown_held most (suc n) k rs within turns fits e h = elim (cases_lt k (length rs)) [
    | inr past ↦
        let same_rows : rs ≡ us = sym (grown_stop qs most (suc n) k rs (inl past)) ∙ e in
        subst (λ xs. Holds xs (2, length us, 0)) same_rows (subst (λ d. Holds rs (2, d, 0)) (omega (arith, past, within, ap length same_rows)) h)
    | inl here ↦
        let few : length rs ≤ most = omega (arith, front_length rs us h.front, fits) in
        grown_held most n (suc k) (meet_all rs ss) (omega (arith, here, meet_all_length rs ss)) (omega (arith, turns)) fits (sym (grown_step qs most n k rs here few) ∙ e) (row_done here few)
  ]
    where
      ss : List Set
      ss = leads_from qs (get_or rs k none) 0 256

      row_done : k < length rs → length rs ≤ most → Holds (meet_all rs ss) (2, suc k, 0)
      row_done here few = later (meet_all rs ss) (2, k, 256) (2, suc k, 0) (inr (refl, inl (omega arith))) no_more
          (subst (λ s. Holds (meet_all rs (leads_from qs s 0 256)) (2, k, 256)) one
          (bytes_held k 256 0 rs here refl (subst (λ s. Front (meet_all rs (leads_from qs s 0 256)) us) (sym one) front) h))
        where
          one : get_or us k none ≡ get_or rs k none
          one = front_get_or rs us h.front k here

          front : Front (meet_all rs ss) us
          front = subst (Front (meet_all rs ss)) (sym (grown_step qs most n k rs here few) ∙ e) (grown_front qs most n (suc k) (meet_all rs ss))

          no_more : (m : Meeting) → TakesPlace qs conditions us m → TurnBefore (turn m) (2, suc k, 0) → TurnBefore (turn m) (2, k, 256)
          no_more (by_start d false) takes b = inl (omega arith)
          no_more (by_start d true) takes b = inl (omega arith)
          no_more (by_trail j) takes b = inl (omega arith)
          no_more (by_byte j c) takes b = grind (arith, takes.1)

  -- before the first meeting, and between the starts, the trail starts and the bytes
  nothing_met : Front [] us → Holds [] (0, 0, 0)
  nothing_met front = record {
    front = front;
    complete = λ m takes b. absurd (omega arith);
    met = λ k lt. absurd (omega arith);
    in_order = λ j k m n lt within f g. absurd (omega arith);
  }

  begun : Front (meet_all [] (starts qs 0 conditions ++ trails qs 0 (length qs))) us → Holds (meet_all [] (starts qs 0 conditions ++ trails qs 0 (length qs))) (2, 0, 0)
  begun front = subst (λ xs. Holds xs (2, 0, 0)) (sym cut) (later both (1, length qs, 0) (2, 0, 0) (inl (omega arith)) trails_done after_trails)
    where
      begun_rows : List Set
      begun_rows = meet_all [] (starts qs 0 conditions)

      both : List Set
      both = meet_all begun_rows (trails qs 0 (length qs))

      cut : meet_all [] (starts qs 0 conditions ++ trails qs 0 (length qs)) ≡ both
      cut = meet_all_append [] (starts qs 0 conditions) (trails qs 0 (length qs))

      front_both : Front both us
      front_both = subst (λ xs. Front xs us) cut front

      front_begun : Front begun_rows us
      front_begun = front_trans begun_rows both us (meet_all_front begun_rows (trails qs 0 (length qs))) front_both

      starts_done : (m : Meeting) → TakesPlace qs conditions us m → TurnBefore (turn m) (1, 0, 0) → TurnBefore (turn m) (0, conditions, 0)
      starts_done (by_start d false) takes b = inr (refl, inl takes)
      starts_done (by_start d true) takes b = inr (refl, inl takes)
      starts_done (by_trail j) takes b = absurd (omega arith)
      starts_done (by_byte j c) takes b = absurd (omega arith)

      trails_done : (m : Meeting) → TakesPlace qs conditions us m → TurnBefore (turn m) (2, 0, 0) → TurnBefore (turn m) (1, length qs, 0)
      trails_done (by_start d false) takes b = inl (omega arith)
      trails_done (by_start d true) takes b = inl (omega arith)
      trails_done (by_trail j) takes b = inr (refl, inl takes)
      trails_done (by_byte j c) takes b = absurd (omega arith)

      front_none : Front [] us
      front_none = front_trans [] begun_rows us (meet_all_front [] (starts qs 0 conditions)) front_begun

      after_starts : Holds begun_rows (1, 0, 0)
      after_starts = later begun_rows (0, conditions, 0) (1, 0, 0) (inl (omega arith)) starts_done (starts_held conditions 0 [] (omega arith) front_begun (nothing_met front_none))

      after_trails : Holds both (1, length qs, 0)
      after_trails = trails_held (length qs) 0 begun_rows (omega arith) front_both after_starts

  -- when all have taken place
  all_before : (m : Meeting) → TakesPlace qs conditions us m → TurnBefore (turn m) (2, length us, 0)
  all_before (by_start d false) takes = inl (omega arith)
  all_before (by_start d true) takes = inl (omega arith)
  all_before (by_trail j) takes = inl (omega arith)
  all_before (by_byte j c) takes = inr (refl, inl takes.0)

  all_held : ((k : ℕ) → k < length us → empty (get_or us k none) ≡ false) → Holds us (2, length us, 0) → InOrder qs conditions us
  all_held filled h = record {
    complete = λ m takes. h.complete m takes (all_before m takes);
    filled = filled;
    met = λ k lt. let q = h.met k lt in (q.0, q.1);
    in_order = h.in_order;
  }

pub rows_in_order : RowsInOrder
unfolding row_sets
rows_in_order qs conditions most fits =
    let first : List Set = meet_all [] (starts qs 0 conditions ++ trails qs 0 (length qs)) in
    let us : List Set = grown qs most (suc most) 0 first in
    all_held qs conditions us (rows_distinct qs conditions most).filled
    (grown_held qs conditions us most (suc most) 0 first (omega arith) (omega arith) fits refl (begun qs conditions us (grown_front qs most (suc most) 0 first)))
