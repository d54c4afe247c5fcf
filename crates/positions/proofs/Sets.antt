-- Sets in the work memory after a write, by membership.
use Rattle.std.proofs.Common.{◌≡◌, ℕ, ◌+◌, ◌-◌, ◌/◌, ◌<◌, ◌≤◌, true, false, cond, ◌&&◌, eqb, ltb, leb, ◌≢◌, ◌⊎◌, length, [], ◌++◌, get_or, set, take, drop, refl, inl, inr, arith, rules, get_or-set_other, get_or-set_same}
use Rattle.std.proofs.lemmas.Bool.{cases_eq, cases_lt, eq-eqb, ne_eqb, le-leb, lt-leb, le-ltb, lt-ltb, leb-true, and_from, and_left, and_right, and_parts}
use Rattle.std.proofs.lemmas.Bool.Decides.{nat_tests}
use Rattle.std.proofs.lemmas.List.{places}
use borrow.Rule.Slice.PartMut.{put_mid}
use Rattle.bits.specs.Set.{has}
use Rattle.bits.specs.declared.Bits.{Bits}
use Rattle.positions.specs.Memory.{Work, member, roomy, between, copiable}

pub member_set : (w : Work) (i : ℕ) (s : Bits 8) (k q : ℕ) → i < length w → member (set w i s) k q ≡ cond (eqb k i) (has s.words q) (member w k q)
member_set w i s k q h =
    elim (cases_eq k i) [
      | inl e ↦ rw (eq-eqb k i e, e, get_or-set_same) refl
      | inr n ↦ let ne : k ≢ i = n in rw (ne_eqb k i n, get_or-set_other) refl
    ]

-- eight words have room for the numbers below 512
pub word_room : (q : ℕ) → ltb (q / 64) 8 ≡ ltb q 512
word_room q = grind (arith, nat_tests)

pub between_in : (low end k : ℕ) → low ≤ k → k < end → between low end k ≡ true
between_in low end k h l = and_from (leb low k) (ltb k end) (le-leb low k h) (lt-ltb k end l)

pub between_below : (low end k : ℕ) → k < low → between low end k ≡ false
between_below low end k h = and_left (leb low k) (ltb k end) (lt-leb low k h)

pub between_past : (low end k : ℕ) → end ≤ k → between low end k ≡ false
between_past low end k h = and_right (leb low k) (ltb k end) (le-ltb k end h)

pub between_cases : (low end k : ℕ) → ((low ≤ k) × (k < end)) ⊎ (between low end k ≡ false)
between_cases low end k =
    elim (cases_lt k low) [
      | inl less ↦ inr (between_below low end k less)
      | inr from ↦ elim (cases_lt k end) [ inl to ↦ inl (from, to) | inr past ↦ inr (between_past low end k past) ]
    ]

pub copiable_parts : (w : Work) (from n by : ℕ) → copiable w from n by ≡ true → (1024 ≤ length w) × (n ≤ by) × (from + n + by ≤ 512)
copiable_parts w from n by h =
    let a = and_parts (roomy w) (leb n by && leb (from + n + by) 512) h in
    let b = and_parts (leb n by) (leb (from + n + by) 512) a.1 in
    (leb-true 1024 (length w) a.0, leb-true n by b.0, leb-true (from + n + by) 512 b.1)

-- the byte sets copied, and then the sets of what follows
pub both_copied : (w u v : Work) (from n by : ℕ) → copiable w from n by ≡ true
    → ((k q : ℕ) → member u k q ≡ cond (between (from + by) (from + n + by) k) (member w (k - by) q) (member w k q))
    → ((k q : ℕ) → member v k q ≡ cond (between (512 + from + by) (512 + from + n + by) k) (ltb q 512 && (leb by q && member u (k - by) (q - by))) (member u k q))
    → (k q : ℕ) → member v k q ≡
    cond (copiable w from n by && between (from + by) (from + n + by) k) (member w (k - by) q)
    (cond (copiable w from n by && between (512 + from + by) (512 + from + n + by) k)
    (ltb q 512 && (leb by q && member w (k - by) (q - by)))
    (member w k q))
both_copied w u v from n by fits copy move k q =
    let parts = copiable_parts w from n by fits in
    elim (between_cases (512 + from + by) (512 + from + n + by) k) [
      | inl h ↦
          let low : 512 + from + by ≤ k = h.0 in
          let here = between_in (512 + from + by) (512 + from + n + by) k h.0 h.1 in
          let bytes = between_past (from + by) (from + n + by) k (omega arith) in
          let below = between_past (from + by) (from + n + by) (k - by) (omega arith) in
          rw (fits, move k q, copy (k - by) (q - by), here, bytes, below) refl
      | inr apart ↦ rw (fits, move k q, copy k q, apart) refl
    ]

pub not_copied : (w : Work) (from n by : ℕ) → copiable w from n by ≡ false
    → (k q : ℕ) → member w k q ≡
    cond (copiable w from n by && between (from + by) (from + n + by) k) (member w (k - by) q)
    (cond (copiable w from n by && between (512 + from + by) (512 + from + n + by) k)
    (ltb q 512 && (leb by q && member w (k - by) (q - by)))
    (member w k q))
not_copied w from n by fails k q = rw fails

-- the memory after a write to the part of n sets from a on
pub member_part : (w part : Work) (a n k q : ℕ) → a + n ≤ length w → length part ≡ n → member (put_mid a n w part) k q ≡ cond (between a (a + n) k) (member part (k - a) q) (member w k q)
member_part w part a n k q h l =
    let none : Bits 8 = record { words = [] } in
    elim (cases_lt k a) [
      | inl less ↦
          let e : get_or (put_mid a n w part) k none ≡ get_or w k none = search (rules, places) in
          rw (between_below a (a + n) k less, e) refl
      | inr from ↦
          elim (cases_lt k (a + n)) [
            | inl to ↦
                let e : get_or (put_mid a n w part) k none ≡ get_or part (k - a) none = search (rules, places) in
                rw (between_in a (a + n) k from to, e) refl
            | inr past ↦
                let e : get_or (put_mid a n w part) k none ≡ get_or w k none = search (rules, places) in
                rw (between_past a (a + n) k past, e) refl
          ]
    ]

-- the part itself
pub part_member : (w : Work) (a n k q : ℕ) → k < n → member (take n (drop a w)) k q ≡ member w (a + k) q
part_member w a n k q h =
    let e : get_or (take n (drop a w)) k (record { words = [] }) ≡ get_or w (a + k) (record { words = [] }) = search (rules, places) in
    rw e refl

-- the memory whose part from `from + by` on is `part`, the n sets from `from` on with their members moved up
module _ (w front back part : Work) (from n by : ℕ) (fits : from + n + by ≤ length w) (apart : n ≤ by)
    (is_front : front ≡ take (from + by) w) (is_back : back ≡ drop (from + by) w) (long : length part ≡ n)
    (moved : (k q : ℕ) → k < n → member part k q ≡ (ltb q 512 && (leb by q && member front (from + k) (q - by)))) where
  abbrev pub after : Work
  after = front ++ (part ++ drop n back)

  pub part_moved : (k q : ℕ) → member after k q ≡ cond (between (from + by) (from + n + by) k) (ltb q 512 && (leb by q && member w (k - by) (q - by))) (member w k q)
  part_moved k q =
      let none : Bits 8 = record { words = [] } in
      elim (cases_lt k (from + by)) [
        | inl less ↦
            let e : get_or after k none ≡ get_or w k none = search (rules, places) in
            rw (between_below (from + by) (from + n + by) k less, e) refl
        | inr above ↦
            elim (cases_lt k (from + n + by)) [
              | inl to ↦
                  let i = k - (from + by) in
                  let e : get_or after k none ≡ get_or part i none = search (rules, places) in
                  let old : get_or front (from + i) none ≡ get_or w (k - by) none = search (rules, places) in
                  rw (between_in (from + by) (from + n + by) k above to, e, moved i q (omega arith), old) refl
              | inr past ↦
                  let e : get_or after k none ≡ get_or w k none = search (rules, places) in
                  rw (between_past (from + by) (from + n + by) k past, e) refl
            ]
      ]
