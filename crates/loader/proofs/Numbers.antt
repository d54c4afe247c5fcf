-- What is read of the row with a set's number is true of the set.
use Rattle.std.proofs.Common.{◌≡◌, ℕ, suc, ◌<◌, ◌≤◌, true, false, ◌&&◌, ◌||◌, ◌⊎◌, List, [], ◌∷◌, length, get_or, All, sym, refl, ap, ◌∙◌, inl, inr, arith}
use Rattle.std.proofs.lemmas.Bool.{cases_Bool, or_left, and_left, and_right}
use Rattle.bits.specs.Set.{bit}
use Rattle.bits.proofs.Words.{bit_zero}
use Rattle.grammar.specs.File.{RuleText}
use Rattle.automaton.specs.Sets.{Set, empty, same}
use Rattle.automaton.specs.Automaton.{takes, after, end_mark, slash_mark, leads, meets}
use Rattle.automaton.specs.Numbering.{stored, number, none}
use Rattle.automaton.specs.Theorems.{Known, FirstSame}
use Rattle.automaton.proofs.Members.{some_both, some_false, meets_false, same_true, same_empty, same_leads, empty_true, empty_from}
use Rattle.automaton.proofs.Meeting.{stored_first, place_first, number_empty, number_placed}
use Rattle.automaton.proofs.Alike.{alike_same, alike_stored, alike_number}
use Rattle.table.specs.Memory.{Memory, row_at}
use Rattle.table.specs.Readings.{next_row, end_marks, slash_marks}
use Rattle.loader.specs.Held.{RowHolds}
use Rattle.loader.proofs.Rows.{end_past}
use Rattle.automaton.specs.Reached.{reached}
use Rattle.scan.specs.Listed.{row_after}

-- marks in same sets, and in the empty one
same_meets : (s t m : Set) → same s t ≡ true → meets s m ≡ meets t m
unfolding meets
same_meets s t m h = some_both 512 (λ p. s p && m p) (λ p. t p && m p) (λ p lt. ap (λ x. x && m p) (same_true s t h p lt))

empty_meets : (s m : Set) → empty s ≡ true → meets s m ≡ false
empty_meets s m h = meets_false s m (λ p lt. and_left (s p) (m p) (empty_true s h p lt))

-- the empty set leads to itself
empty_leads : (qs : List RuleText) (s : Set) (b : ℕ) → empty s ≡ true → empty (leads qs s b) ≡ true
unfolding leads
empty_leads qs s b h =
    empty_from (leads qs s b)
    (λ t small. some_false 512 (λ p. s p && (takes qs 0 p b && after qs 0 p t)) (λ p lt. and_left (s p) (takes qs 0 p b && after qs 0 p t) (empty_true s h p lt)))

-- a set among the rows is empty or has a first row
abbrev pub Numbered : List Set → Set → Type 0
Numbered rs s = ((empty s ≡ true) × (number rs s ≡ 0)) ⊎ ((i : ℕ) × (number rs s ≡ suc i) × FirstSame rs s i)

pub numbered : (rs : List Set) (s : Set) → Known rs s → Numbered rs s
numbered rs s k = elim (cases_Bool (empty s)) [
  | inl e ↦ inl (e, number_empty rs s e)
  | inr e ↦ let q = stored_first rs s (rw e at k) in inr (q.0, number_placed rs s e ∙ place_first rs s q.0 q.1, q.1)
]

same_known : (rs : List Set) (s t : Set) → same s t ≡ true → Known rs s → Known rs t
same_known rs s t h k = ap (λ x. x || stored rs t) (sym (same_empty s t h)) ∙ ap (λ x. empty s || x) (sym (alike_stored rs rs s t (alike_same rs) h)) ∙ k

module _ (qs : List RuleText) (rs : List Set) (mem : Memory) (hold : (k : ℕ) → k < length rs → RowHolds qs rs (get_or rs k none) (row_at mem.rows k)) where
  pub ends_are : (s : Set) (i : ℕ) → Known rs s → bit (end_marks mem (number rs s)) i ≡ meets s (end_mark qs 0 i)
  ends_are s i k = elim (numbered rs s k) [
    | inl e ↦ rw e.1 (bit_zero i ∙ sym (empty_meets s (end_mark qs 0 i) e.0))
    | inr q ↦ rw q.1 ((hold q.0 q.2.within).ends i ∙ same_meets (get_or rs q.0 none) s (end_mark qs 0 i) q.2.equal)
  ]

  pub slashes_are : (s : Set) (i : ℕ) → Known rs s → bit (slash_marks mem (number rs s)) i ≡ meets s (slash_mark qs 0 i)
  slashes_are s i k = elim (numbered rs s k) [
    | inl e ↦ rw e.1 (bit_zero i ∙ sym (empty_meets s (slash_mark qs 0 i) e.0))
    | inr q ↦ rw q.1 ((hold q.0 q.2.within).slashes i ∙ same_meets (get_or rs q.0 none) s (slash_mark qs 0 i) q.2.equal)
  ]

  next_is : (s : Set) (b : ℕ) → Known rs s → b < 256 → next_row mem (number rs s) b ≡ number rs (leads qs s b)
  next_is s b k lt = elim (numbered rs s k) [
    | inl e ↦ rw e.1 (sym (number_empty rs (leads qs s b) (empty_leads qs s b e.0)))
    | inr q ↦
        rw q.1 ((hold q.0 q.2.within).next b lt
        ∙ alike_number rs rs (leads qs (get_or rs q.0 none) b) (leads qs s b) (alike_same rs) (same_leads qs (get_or rs q.0 none) s b q.2.equal))
  ]

  module _ (closed : (k b : ℕ) → k < length rs → b < 256 → Known rs (leads qs (get_or rs k none) b)) where
    leads_known : (s : Set) (b : ℕ) → Known rs s → b < 256 → Known rs (leads qs s b)
    leads_known s b k lt = elim (numbered rs s k) [
      | inl e ↦ or_left (empty (leads qs s b)) (stored rs (leads qs s b)) (empty_leads qs s b e.0)
      | inr q ↦
          same_known rs (leads qs (get_or rs q.0 none) b) (leads qs s b) (same_leads qs (get_or rs q.0 none) s b q.2.equal)
          (closed q.0 b q.2.within lt)
    ]

    -- bytes lead to the row of the set that they lead to
    pub row_reached : (s : Set) (t : List ℕ) → Known rs s → All (λ b. b < 256) t → (row_after mem (number rs s) t ≡ number rs (reached qs s t)) × Known rs (reached qs s t)
    row_reached s [] k a = (refl, k)
    row_reached s (b ∷ t) k a =
        let lt : b < 256 = a 0 0 (omega arith) in
        rw (next_is s b k lt) (row_reached (leads qs s b) t (leads_known s b k lt) (λ i d small. a (suc i) d (omega arith)))

-- there is no mark of a rule past the last
pub unmarked : (qs : List RuleText) (s : Set) (i : ℕ) → length qs ≤ i → meets s (end_mark qs 0 i) ≡ false
unmarked qs s i past = meets_false s (end_mark qs 0 i) (λ p lt. and_right (s p) (end_mark qs 0 i p) (end_past qs 0 i p past))
