-- Rows that the bytes of a text lead to, one after another.
use Rattle.std.proofs.Common.{◌≡◌, ℕ, ◌+◌, ◌-◌, ◌<◌, ◌≤◌, false, List, [], ◌∷◌, ◌++◌, length, get_or, take, drop, Some, sym, refl, ap, ◌∙◌, add-one, arith, length-take, get_or-take, drop-cons}
use lib.Seq.{take-add}
use Rattle.std.proofs.lemmas.List.{take_more}
use Rattle.std.proofs.lemmas.Option.{slice_get-get_or}
use Rattle.table.specs.Memory.{Memory}
use Rattle.bits.specs.Set.{bit}
use Rattle.bits.proofs.Words.{bit_zero}
use Rattle.table.specs.Readings.{next_row, end_marks}
use Rattle.source.specs.Reach.{seen_of, byte_at}
use Rattle.scan.specs.Listed.{row_after}

pub seen : (rest : List ℕ) (k : ℕ) → k < seen_of rest → byte_at rest k ≡ Some (get_or rest k 0)
seen rest k h =
    slice_get-get_or (take (seen_of rest) rest) k 0 (omega (arith, length-take (seen_of rest) rest))
    ∙ ap Some (get_or-take (seen_of rest) rest k 0 h)

module _ (mem : Memory) where
  pub row_append : (q : ℕ) (s t : List ℕ) → row_after mem q (s ++ t) ≡ row_after mem (row_after mem q s) t
  row_append q [] t = refl
  row_append q (b ∷ s) t = row_append (next_row mem q b) s t

  pub row_zero : (s : List ℕ) → row_after mem 0 s ≡ 0
  row_zero [] = refl
  row_zero (b ∷ s) = row_zero s

  -- one byte more of a text
  pub row_more : (q : ℕ) (rest : List ℕ) (k r t : ℕ) → k < length rest → r ≡ row_after mem q (take k rest) → t ≡ next_row mem r (get_or rest k 0) → t ≡ row_after mem q (take (k + 1) rest)
  row_more q rest k r t h e f =
      f ∙ ap (λ o. next_row mem o (get_or rest k 0)) e
      ∙ sym (ap (row_after mem q) (take_more rest k 0 h) ∙ row_append q (take k rest) (get_or rest k 0 ∷ []))

  -- from row 0 nothing goes on
  pub row_dead : (q : ℕ) (rest : List ℕ) (k n : ℕ) → k ≤ n → row_after mem q (take k rest) ≡ 0 → row_after mem q (take n rest) ≡ 0
  row_dead q rest k n h e =
      let far : n ≡ k + (n - k) = omega arith in
      let more : List ℕ = take (n - k) (drop k rest) in
      ap (λ m. row_after mem q (take m rest)) far ∙ ap (row_after mem q) (take-add k (n - k) rest)
      ∙ row_append q (take k rest) more ∙ ap (λ r. row_after mem r more) e ∙ row_zero more

  -- one byte less of those from k to n, where t is the row that it leads to
  pub row_less : (q : ℕ) (rest : List ℕ) (k n t r : ℕ) → k < n → n ≤ length rest → t ≡ next_row mem q (get_or rest k 0) → row_after mem q (drop k (take n rest)) ≡ r → row_after mem t (drop (k + 1) (take n rest)) ≡ r
  row_less q rest k n t r h l e f =
      let within : k < length (take n rest) = omega (arith, length-take n rest) in
      let less : row_after mem q (drop k (take n rest)) ≡ row_after mem (next_row mem q (get_or rest k 0)) (drop (k + 1) (take n rest)) = rw (add-one, drop-cons (take n rest) k 0 within, get_or-take n rest k 0 h) in
      ap (λ o. row_after mem o (drop (k + 1) (take n rest))) e ∙ sym less ∙ f

  -- row 0 has no mark, nor has a row that it leads to
  pub unmarked_from_zero : (q : ℕ) (s : List ℕ) (r i : ℕ) → q ≡ 0 → row_after mem q s ≡ r → bit (end_marks mem r) i ≡ false
  unmarked_from_zero q s r i z e =
      let dead : r ≡ 0 = sym e ∙ ap (λ k. row_after mem k s) z ∙ row_zero s in
      ap (λ k. bit (end_marks mem k) i) dead ∙ bit_zero i
