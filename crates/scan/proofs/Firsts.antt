-- The first mark from a rule on, by the word v of the marks from there on.
use Rattle.std.proofs.Common.{◌≡◌, ℕ, suc, ◌+◌, ◌/◌, ◌^◌, ◌<◌, true, Some, None, sym, ap, ◌∙◌, subst, add-one, arith, shr-shr}
use Rattle.std.proofs.Math.Nat.{div-one}
use lib.Count.{count_trailing_zeros}
use Rattle.bits.specs.Set.{bit, FirstBit}
use Rattle.bits.proofs.Lowest.{no_bit, low_bit, below_low, bit_within}

module _ (w low v : ℕ) (of : v ≡ w / 2 ^ low) where
  none_from : v ≡ 0 → FirstBit w low None
  none_from z = λ i le few. no_bit w low (sym of ∙ z) i le

  first_from : w < 2 ^ 64 → (v ≡ 0 → ⊥) → FirstBit w low (Some (low + count_trailing_zeros 64 v))
  first_from small some =
      let b : ℕ = count_trailing_zeros 64 (w / 2 ^ low) in
      let any : w / 2 ^ low ≡ 0 → ⊥ = λ z. some (of ∙ z) in
      let on : bit w (low + b) ≡ true = low_bit w low small any in
      subst (λ n. FirstBit w low (Some (low + count_trailing_zeros 64 n))) (sym of) (omega arith, bit_within w (low + b) small on, on, below_low w low small any)

whole : (w : ℕ) → w ≡ w / 2 ^ 0
whole w = sym (div-one w)

-- among all marks
pub none_marked : (w : ℕ) → w ≡ 0 → FirstBit w 0 None
none_marked w z = none_from w 0 w (whole w) z

pub first_marked : (w : ℕ) → w < 2 ^ 64 → (w ≡ 0 → ⊥) → FirstBit w 0 (Some (count_trailing_zeros 64 w))
first_marked w small some =
    let e : 0 + count_trailing_zeros 64 w ≡ count_trailing_zeros 64 w = omega arith in
    subst (λ n. FirstBit w 0 (Some n)) e (first_from w 0 w (whole w) small some)

-- among those behind rule i
shifted : (w i : ℕ) → w / 2 ^ i / 2 ≡ w / 2 ^ suc i
shifted w i = shr-shr w i 1 ∙ ap (λ n. w / 2 ^ n) (add-one i)

pub none_behind_mark : (w i : ℕ) → w / 2 ^ i / 2 ≡ 0 → FirstBit w (suc i) None
none_behind_mark w i z = none_from w (suc i) (w / 2 ^ i / 2) (shifted w i) z

pub first_behind_mark : (w i : ℕ) → w < 2 ^ 64 → (w / 2 ^ i / 2 ≡ 0 → ⊥) → FirstBit w (suc i) (Some (i + 1 + count_trailing_zeros 64 (w / 2 ^ i / 2)))
first_behind_mark w i small some =
    let v : ℕ = w / 2 ^ i / 2 in
    let e : suc i + count_trailing_zeros 64 v ≡ i + 1 + count_trailing_zeros 64 v = omega arith in
    subst (λ n. FirstBit w (suc i) (Some n)) e (first_from w (suc i) v (shifted w i) small some)
