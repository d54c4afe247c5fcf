-- Where a line starts, by what stands before a place.
use Rattle.std.proofs.Common.{◌≡◌, ◌≢◌, ℕ, zero, suc, ◌+◌, ◌<◌, ◌≤◌, false, inl, inr, List, length, get_or, take, refl, sym, ap, ◌∙◌, arith, eq-eqb, ne_eqb}
use Rattle.std.proofs.lemmas.Bool.{cases_eq}
use Rattle.std.proofs.lemmas.List.{get_or-take}
use Rattle.std.proofs.lemmas.List.Sums.{count_by_more_no}
use Rattle.report.specs.Lines.{newline, newlines, line_start}

module _ (s : List ℕ) where
  pub first_line : (n : ℕ) → ((k : ℕ) → k < n → get_or s k 0 ≢ 10) → line_start s n ≡ 0
  unfolding line_start
  first_line zero none = refl
  first_line (suc n) none = rw (ne_eqb (get_or s n 0) 10 (none n (omega arith))) (first_line n (λ k h. none k (omega arith)))

  -- i is the place of the last newline before n
  pub behind_newline : (n i : ℕ) → i < n → get_or s i 0 ≡ 10 → ((k : ℕ) → i + 1 ≤ k → k < n → get_or s k 0 ≢ 10) → line_start s n ≡ i + 1
  unfolding line_start
  behind_newline zero i h at none = absurd (omega arith)
  behind_newline (suc n) i h at none =
      elim (cases_eq i n) [
        | inl e ↦ rw (eq-eqb (get_or s n 0) 10 (rw (← e) at)) (omega arith)
        | inr e ↦ rw (ne_eqb (get_or s n 0) 10 (none n (omega arith) (omega arith))) (behind_newline n i (omega arith) at (λ k l g. none k l (omega arith)))
      ]

  pub line_start-take : (n m : ℕ) → m ≤ n → line_start (take n s) m ≡ line_start s m
  unfolding line_start
  line_start-take n zero h = refl
  line_start-take n (suc m) h = rw (get_or-take n s m 0 (omega arith), line_start-take n m (omega arith)) refl

  -- all newlines before a place stand before its line's start
  pub newlines-start : (n : ℕ) → n ≤ length s → newlines s (line_start s n) ≡ newlines s n
  unfolding line_start
  newlines-start zero h = refl
  newlines-start (suc n) h =
      elim (cases_eq (get_or s n 0) 10) [
        | inl e ↦ rw (eq-eqb (get_or s n 0) 10 e) refl
        | inr e ↦
            let other : newline (get_or s n 0) ≡ false = ne_eqb (get_or s n 0) 10 e in
            let next : n + 1 ≡ suc n = omega arith in
            rw other
            (newlines-start n (omega arith)
            ∙ sym (count_by_more_no newline s n 0 (omega arith) other)
            ∙ ap (newlines s) next)
      ]
