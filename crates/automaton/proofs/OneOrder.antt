-- Two lists of sets that are in order are the same sets, place by place.
use Rattle.std.proofs.Common.{◌≡◌, ℕ, zero, suc, ◌<◌, ◌≤◌, true, false, ◌⊎◌, List, length, get_or, sym, refl, ◌∙◌, subst, inl, inr, arith}
use Rattle.std.proofs.lemmas.Bool.{cases_lt, cases_eq, false≢true}
use Rattle.std.proofs.lemmas.List.{get_or_past}
use Rattle.grammar.specs.File.{RuleText}
use Rattle.automaton.specs.Sets.{Set, empty, same}
use Rattle.automaton.specs.Automaton.{start_set, trail_set}
use Rattle.automaton.specs.Numbering.{none}
use Rattle.automaton.specs.Theorems.{Known, Alike}
use Rattle.automaton.specs.Order.{Meeting, by_start, by_trail, by_byte, TakesPlace, met_at, turn, Sooner, FirstMeeting, InOrder, OneOrder}
use Rattle.automaton.proofs.Members.{same_refl, same_sym, same_trans, same_empty, same_leads}
use Rattle.automaton.proofs.Meeting.{stored_first}
use Rattle.automaton.proofs.Turns.{before_more, sooner_either}

-- a set that is known and not empty is at a place
known_at : (rs : List Set) (s : Set) → Known rs s → empty s ≡ false → (i : ℕ) × (i < length rs) × (same (get_or rs i none) s ≡ true)
known_at rs s h e = let q = stored_first rs s (rw e at h) in (q.0, q.1.within, q.1.equal)

module _ (qs : List RuleText) (conditions : ℕ) where
  -- no two of them are the same
  apart : (rs : List Set) → InOrder qs conditions rs → (i k : ℕ) → i < k → k < length rs → same (get_or rs i none) (get_or rs k none) ≡ true → ⊥
  apart rs o i k lt within e =
      let p = o.met i (omega arith) in
      let q = o.met k within in
      false≢true
      (sym (q.1.first p.0 p.1.takes_place (o.in_order i k p.0 q.0 lt within p.1 q.1))
      ∙ same_trans (get_or rs k none) (get_or rs i none) (met_at qs rs p.0) (same_sym (get_or rs i none) (get_or rs k none) e) p.1.of_row)

  -- the first k of both are the same
  module _ (k : ℕ) where
    abbrev Agree : List Set → List Set → Type 0
    Agree rs ts = (k ≤ length rs) × (k ≤ length ts) × ((i : ℕ) → i < k → same (get_or rs i none) (get_or ts i none) ≡ true)

    turned : (rs ts : List Set) → Agree rs ts → Agree ts rs
    turned rs ts a = (a.1, a.0, λ i lt. same_sym (get_or rs i none) (get_or ts i none) (a.2 i lt))

    -- what comes up from rows before k comes up in both
    module _ (rs ts : List Set) (a : Agree rs ts) where
      moved : (m : Meeting) → ((row byte : ℕ) → m ≡ by_byte row byte → row < k) → TakesPlace qs conditions rs m → TakesPlace qs conditions ts m × (same (met_at qs rs m) (met_at qs ts m) ≡ true)
      moved (by_start c line) low h = (h, same_refl (start_set qs 0 c line))
      moved (by_trail i) low h = (h, same_refl (trail_set qs 0 i))
      moved (by_byte j b) low h =
          let lt : j < k = low j b refl in
          ((omega (arith, a.1), h.1), same_leads qs (get_or rs j none) (get_or ts j none) b (a.2 j lt))

      module _ (o : InOrder qs conditions rs) (p : InOrder qs conditions ts) (within : k < length rs) (m : Meeting) (f : FirstMeeting qs conditions rs k m) where
        there : TakesPlace qs conditions ts m × (same (met_at qs rs m) (met_at qs ts m) ≡ true)
        there = moved m f.from_before f.takes_place

        alike_there : same (get_or rs k none) (met_at qs ts m) ≡ true
        alike_there = same_trans (get_or rs k none) (met_at qs rs m) (met_at qs ts m) f.of_row there.1

        -- the set of row k has a place in the other list, and that is not below k
        found : (i : ℕ) × (i < length ts) × (same (get_or ts i none) (met_at qs ts m) ≡ true)
        found = known_at ts (met_at qs ts m) (p.complete m there.0) (sym (same_empty (get_or rs k none) (met_at qs ts m) alike_there) ∙ o.filled k within)

        not_below : k ≤ found.0
        not_below = elim (cases_lt found.0 k) [
          | inr past ↦ past
          | inl low ↦ absurd (apart rs o found.0 k low within
              (same_trans (get_or rs found.0 none) (get_or ts found.0 none) (get_or rs k none) (a.2 found.0 low)
              (same_trans (get_or ts found.0 none) (met_at qs ts m) (get_or rs k none) found.2 (same_sym (get_or rs k none) (met_at qs ts m) alike_there))))
        ]

        within_other : k < length ts
        within_other = omega (arith, not_below, found.1)

        -- the other list's row k first comes up no later than m
        no_later : (n : Meeting) → FirstMeeting qs conditions ts k n → Sooner m n → ⊥
        no_later n g h = elim (cases_eq k found.0) [
          | inl e ↦ false≢true (sym (g.first m there.0 h) ∙ subst (λ (i : ℕ). same (get_or ts i none) (met_at qs ts m) ≡ true) (sym e) found.2)
          | inr ne ↦
              let q = p.met found.0 found.1 in
              let later : Sooner n q.0 = p.in_order k found.0 n q.0 (omega (arith, not_below)) found.1 g q.1 in
              false≢true (sym (q.1.first m there.0 (before_more (turn m) (turn n) (turn q.0) h later)) ∙ found.2)
        ]

    -- so row k is the same set in both
    module _ (rs ts : List Set) (a : Agree rs ts) (o : InOrder qs conditions rs) (p : InOrder qs conditions ts) where
      one_more : k < length rs → same (get_or rs k none) (get_or ts k none) ≡ true
      one_more within =
          let f = o.met k within in
          let g = p.met k (within_other rs ts a o p within f.0 f.1) in
          elim (sooner_either f.0 g.0) [
            | inl h ↦ absurd (no_later rs ts a o p within f.0 f.1 g.0 g.1 h)
            | inr (inr h) ↦ absurd (no_later ts rs (turned rs ts a) p o (within_other rs ts a o p within f.0 f.1) g.0 g.1 f.0 f.1 h)
            | inr (inl e) ↦
                same_trans (get_or rs k none) (met_at qs ts f.0) (get_or ts k none) (alike_there rs ts a o p within f.0 f.1)
                (same_sym (get_or ts k none) (met_at qs ts f.0) (subst (λ (n : Meeting). same (get_or ts k none) (met_at qs ts n) ≡ true) (sym e) g.1.of_row))
          ]

      agree_more : k < length rs → k < length ts → (i : ℕ) → i < suc k → same (get_or rs i none) (get_or ts i none) ≡ true
      agree_more within other i lt = elim (cases_eq i k) [
        | inl e ↦ subst (λ (j : ℕ). same (get_or rs j none) (get_or ts j none) ≡ true) (sym e) (one_more within)
        | inr ne ↦ a.2 i (omega arith)
      ]

  -- the first k agree, or both end before and agree
  module _ (rs ts : List Set) (o : InOrder qs conditions rs) (p : InOrder qs conditions ts) where
    abbrev Ends : ℕ → Type 0
    Ends k = (length rs ≡ length ts) × (length rs ≤ k) × ((i : ℕ) → i < length rs → same (get_or rs i none) (get_or ts i none) ≡ true)

    agree_all : (k : ℕ) → Agree k rs ts ⊎ Ends k
    agree_all zero = inl (omega arith, omega arith, λ i lt. absurd (omega arith))
    agree_all (suc k) = elim (agree_all k) [
      | inr e ↦ inr (e.0, omega (arith, e.1), e.2)
      | inl a ↦ elim (cases_lt k (length rs)) [
        | inl within ↦
            let f = o.met k within in
            let other : k < length ts = within_other k rs ts a o p within f.0 f.1 in
            inl (omega arith, omega arith, agree_more k rs ts a o p within other)
        | inr past ↦ elim (cases_lt k (length ts)) [
          | inl within ↦
              let f = p.met k within in
              absurd (omega (arith, past, within_other k ts rs (turned k rs ts a) p o within f.0 f.1))
          | inr both ↦ inr (omega (arith, a.0, a.1), omega (arith, past), λ i lt. a.2 i (omega arith))
        ]
      ]
    ]

    in_order_alike : Alike rs ts
    in_order_alike = elim (agree_all (suc (length rs))) [
      | inl a ↦ absurd (omega (arith, a.0))
      | inr e ↦ record { as_many = e.0; at_places = at e }
    ]
      where
        at : Ends (suc (length rs)) → (i : ℕ) → same (get_or rs i none) (get_or ts i none) ≡ true
        at e i = elim (cases_lt i (length rs)) [
          | inl within ↦ e.2 i within
          | inr past ↦ rw (get_or_past rs i none past, get_or_past ts i none (omega (arith, e.0))) (same_refl none)
        ]

pub one_order : OneOrder
one_order = in_order_alike
