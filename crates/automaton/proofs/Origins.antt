-- Where each row comes from.
use Rattle.std.proofs.Common.{◌≡◌, ℕ, zero, suc, ◌+◌, ◌-◌, ◌<◌, ◌≤◌, Bool, true, false, List, [], ◌∷◌, ◌++◌, length, get_or, sym, refl, ap, ◌∙◌, subst, inl, inr, arith, length-append}
use lib.ListN.{get_or-append}
use lib.Seq.{get_or_at, get_or-append_right}
use Rattle.std.proofs.lemmas.Bool.{cases_lt}
use Rattle.grammar.specs.File.{RuleText}
use Rattle.automaton.specs.Sets.{Set}
use Rattle.automaton.specs.Automaton.{start_set, trail_set, leads}
use Rattle.automaton.specs.Numbering.{meet, meet_all, starts, trails, none, leads_from, grown, row_sets}
use Rattle.automaton.specs.Theorems.{Met, at_start, at_trail, from_row, StoredAreMet}
use Rattle.automaton.proofs.Meeting.{Front, front_get_or, meet_old, meet_new, known_or_new, meet_all_front, grown_end, grown_stop, grown_step}

-- one of these
abbrev Among : List Set → Set → Type 0
Among ss s = (m : ℕ) × (m < length ss) × (s ≡ get_or ss m none)

-- what is met is the one row that it adds
added : (rs : List Set) (s : Set) (k : ℕ) → length rs ≤ k → k < length (meet rs s) → get_or (meet rs s) k none ≡ s
added rs s k past within = elim (known_or_new rs s) [
  | inl old ↦ absurd (omega (arith, ap length (meet_old rs s old)))
  | inr new ↦
      let e : meet rs s ≡ rs ++ (s ∷ []) = meet_new rs s new.0 new.1 in
      ap (λ xs. get_or xs k none) e ∙ get_or_at rs s [] none k (omega (arith, ap length e, length-append rs (s ∷ [])))
]

all_added : (rs ss : List Set) (k : ℕ) → length rs ≤ k → k < length (meet_all rs ss) → Among ss (get_or (meet_all rs ss) k none)
all_added rs [] k past within = absurd (omega arith)
all_added rs (s ∷ ss) k past within = elim (cases_lt k (length (meet rs s))) [
  | inl here ↦ (0, omega arith, front_get_or (meet rs s) (meet_all (meet rs s) ss) (meet_all_front (meet rs s) ss) k here ∙ added rs s k past here)
  | inr later ↦ let q = all_added (meet rs s) ss k later within in (suc q.0, omega (arith, q.1), q.2)
]

module _ (qs : List RuleText) where
  among_starts : (c n m : ℕ) → m < length (starts qs c n) → (d : ℕ) × (line : Bool) × (d < c + n) × (get_or (starts qs c n) m none ≡ start_set qs 0 d line)
  among_starts c zero m lt = absurd (omega arith)
  among_starts c (suc n) zero lt = (c, false, omega arith, refl)
  among_starts c (suc n) (suc zero) lt = (c, true, omega arith, refl)
  among_starts c (suc n) (suc (suc m)) lt = let q = among_starts (suc c) n m (omega arith) in (q.0, q.1, omega (arith, q.2), q.3)

  among_trails : (i n m : ℕ) → m < length (trails qs i n) → (j : ℕ) × (j < i + n) × (get_or (trails qs i n) m none ≡ trail_set qs 0 j)
  among_trails i zero m lt = absurd (omega arith)
  among_trails i (suc n) zero lt = (i, omega arith, refl)
  among_trails i (suc n) (suc m) lt = let q = among_trails (suc i) n m (omega arith) in (q.0, omega (arith, q.1), q.2)

  among_leads : (s : Set) (b n m : ℕ) → m < length (leads_from qs s b n) → (c : ℕ) × (c < b + n) × (get_or (leads_from qs s b n) m none ≡ leads qs s c)
  unfolding leads_from
  among_leads s b zero m lt = absurd (omega arith)
  among_leads s b (suc n) zero lt = (b, omega arith, refl)
  among_leads s b (suc n) (suc m) lt = let q = among_leads s (suc b) n m (omega arith) in (q.0, omega (arith, q.1), q.2)

  module _ (conditions : ℕ) where
    abbrev Whence : List Set → Type 0
    Whence rs = (k : ℕ) → k < length rs → Met qs conditions rs k

    moved : (rs us : List Set) → Front rs us → (k : ℕ) → k < length rs → Met qs conditions rs k → Met qs conditions us k
    moved rs us f k lt (at_start c line lt' e) = at_start c line lt' (front_get_or rs us f k lt ∙ e)
    moved rs us f k lt (at_trail i lt' e) = at_trail i lt' (front_get_or rs us f k lt ∙ e)
    moved rs us f k lt (from_row j b low lt' e) =
        from_row j b low lt' (front_get_or rs us f k lt ∙ e ∙ ap (λ s. leads qs s b) (sym (front_get_or rs us f j (omega (arith, low)))))

    begun : Whence (meet_all [] (starts qs 0 conditions ++ trails qs 0 (length qs)))
    begun k lt =
        let ss : List Set = starts qs 0 conditions in
        let ts : List Set = trails qs 0 (length qs) in
        let q = all_added [] (ss ++ ts) k (omega arith) lt in
        elim (cases_lt q.0 (length ss)) [
          | inl here ↦ let r = among_starts 0 conditions q.0 here in at_start r.0 r.1 (omega (arith, r.2)) (q.2 ∙ get_or-append ss ts none q.0 here ∙ r.3)
          | inr past ↦
              let r = among_trails 0 (length qs) (q.0 - length ss) (omega (arith, q.1, length-append ss ts)) in
              at_trail r.0 (omega (arith, r.1)) (q.2 ∙ get_or-append_right ss ts q.0 none past ∙ r.2)
        ]

    grows : (most n k : ℕ) (rs : List Set) → Whence rs → Whence (grown qs most n k rs)
    grows most zero k rs w = subst Whence (sym (grown_end qs most k rs)) w
    grows most (suc n) k rs w = elim (cases_lt k (length rs)) [
      | inr past ↦ subst Whence (sym (grown_stop qs most (suc n) k rs (inl past))) w
      | inl here ↦ elim (cases_lt most (length rs)) [
        | inl many ↦ subst Whence (sym (grown_stop qs most (suc n) k rs (inr many))) w
        | inr few ↦
            let ts : List Set = meet_all rs (leads_from qs (get_or rs k none) 0 256) in
            subst Whence (sym (grown_step qs most n k rs here few)) (grows most n (suc k) ts (turned k rs here w))
      ]
    ]
      where
        turned : (k : ℕ) (rs : List Set) → k < length rs → Whence rs → Whence (meet_all rs (leads_from qs (get_or rs k none) 0 256))
        turned k rs here w i lt =
            let ss : List Set = leads_from qs (get_or rs k none) 0 256 in
            let front : Front rs (meet_all rs ss) = meet_all_front rs ss in
            elim (cases_lt i (length rs)) [
              | inl old ↦ moved rs (meet_all rs ss) front i old (w i old)
              | inr new ↦
                  let q = all_added rs ss i new lt in
                  let r = among_leads (get_or rs k none) 0 256 q.0 q.1 in
                  from_row k r.0 (omega arith) (omega (arith, r.1)) (q.2 ∙ r.2 ∙ ap (λ s. leads qs s r.0) (sym (front_get_or rs (meet_all rs ss) front k here)))
            ]

pub stored_are_met : StoredAreMet
unfolding row_sets
stored_are_met qs conditions most = grows qs conditions most (suc most) 0 (meet_all [] (starts qs 0 conditions ++ trails qs 0 (length qs))) (begun qs conditions)
