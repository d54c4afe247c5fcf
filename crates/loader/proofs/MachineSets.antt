-- Sets of the machine: those that pass a test below a bound, the takers of a byte, and marks.
use Rattle.std.proofs.Common.{◌≡◌, ℕ, zero, suc, ◌+◌, ◌-◌, ◌*◌, ◌/◌, ◌^◌, ◌<◌, ◌≤◌, Bool, true, false, not, cond, ◌&&◌, ◌||◌, ltb, List, [], length, take, drop, get_or, set, sym, refl, ap, ◌∙◌, subst, inl, inr, arith, length-take, lt-ltb}
use lib.Bits.{bit_or}
use Rattle.std.specs.Bool.{Decides}
use Rattle.std.proofs.lemmas.Bool.{cases_eq, cases_lt, cases_Bool, or_cases, or_left, or_right, and_parts, and_from, false≢true}
use Rattle.std.proofs.lemmas.List.{get_or-take, get_or-drop}
use Rattle.std.proofs.lemmas.Bool.Decides.{nat_tests, same_from_decides}
use Rattle.std.proofs.lemmas.Nat.{or_lt}
use Rattle.std.proofs.Math.Pow.{pow-lt}
use Rattle.bits.specs.Set.{bit, has}
use Rattle.bits.specs.Sets.{InUnion}
use Rattle.bits.specs.declared.Bits.{Bits}
use Rattle.bits.proofs.Words.{bit-or, bit_pow, has_past}
use Rattle.bits.proofs.Unions.{past_last}
use Rattle.positions.specs.Memory.{Work, member, between}
use Rattle.positions.proofs.Sets.{member_set, between_in, between_below}
use Rattle.automaton.specs.Sets.{Set, some}
use Rattle.automaton.specs.Automaton.{meets}
use Rattle.automaton.proofs.Members.{some_from, meets_from, meets_false}
use Rattle.loader.specs.Machine.{behind_of, Paired}

-- one more set of takers
pub takers_more : (w w' : Work) (n b : ℕ) (s : Bits 8) → n ≤ 512 → 1280 + b < length w'
    → ((k q : ℕ) → member w' k q ≡ cond (between 1280 (1280 + b) k) (ltb q n && member w q (k - 1280)) (member w k q))
    → ((p : ℕ) → has s.words p ≡ (ltb p n && member w' p b))
    → (k q : ℕ) → member (set w' (1280 + b) s) k q ≡ cond (between 1280 (1280 + (b + 1)) k) (ltb q n && member w q (k - 1280)) (member w k q)
takers_more w w' n b s few room inv here k q =
    let new = member_set w' (1280 + b) s k q room in
    let old = inv k q in
    elim (cases_eq k (1280 + b)) [
      | inl e ↦ rw e (set_here e)
      | inr ne ↦ grind (arith, nat_tests)
    ]
  where
    set_here : k ≡ 1280 + b → member (set w' (1280 + b) s) (1280 + b) q ≡ cond (between 1280 (1280 + (b + 1)) (1280 + b)) (ltb q n && member w q (1280 + b - 1280)) (member w (1280 + b) q)
    set_here e =
        let new = member_set w' (1280 + b) s (1280 + b) q room in
        let put = here q in
        let back : 1280 + b - 1280 ≡ b = omega arith in
        let in_it = between_in 1280 (1280 + (b + 1)) (1280 + b) (omega arith) (omega arith) in
        elim (cases_lt q n) [
          | inl less ↦
              let out = between_below 1280 (1280 + b) q (omega arith) in
              let old = inv q b in
              rw (in_it, back) (grind (arith, nat_tests))
          | inr past ↦ rw (in_it, back) (grind (arith, nat_tests))
        ]

-- members lie below 512
pub member_below : (ws : List ℕ) (p : ℕ) → length ws ≡ 8 → has ws p ≡ true → p < 512
member_below ws p l h = elim (cases_lt p 512) [
  | inl lt ↦ lt
  | inr ge ↦ cc (has_past ws p (omega arith))
]

-- one more mark, and none
pub marks_more : (marks i : ℕ) (now : ℕ → Bool) → marks < 2 ^ i → ((j : ℕ) → bit marks j ≡ (ltb j i && now j)) → now i ≡ true
    → record { bits : (j : ℕ) → bit (bit_or marks (2 ^ i)) j ≡ (ltb j (i + 1) && now j); few : bit_or marks (2 ^ i) < 2 ^ (i + 1) }
marks_more marks i now few inv here = record { bits = bits; few = or_lt (i + 1) marks (2 ^ i) (omega (arith, pow-lt {i = i} {j = i + 1} (omega arith))) (pow-lt {i = i} {j = i + 1} (omega arith)) }
  where
    bits : (j : ℕ) → bit (bit_or marks (2 ^ i)) j ≡ (ltb j (i + 1) && now j)
    bits j =
        let old = inv j in
        elim (cases_eq j i) [
          | inl e ↦ rw (bit-or, bit_pow, e, here) (grind (arith, nat_tests))
          | inr ne ↦ rw (bit-or, bit_pow) (grind (arith, nat_tests))
        ]

pub marks_same : (marks i : ℕ) (now : ℕ → Bool) → marks < 2 ^ i → ((j : ℕ) → bit marks j ≡ (ltb j i && now j)) → now i ≡ false
    → record { bits : (j : ℕ) → bit marks j ≡ (ltb j (i + 1) && now j); few : marks < 2 ^ (i + 1) }
marks_same marks i now few inv none = record { bits = bits; few = omega (arith, pow-lt {i = i} {j = i + 1} (omega arith)) }
  where
    bits : (j : ℕ) → bit marks j ≡ (ltb j (i + 1) && now j)
    bits j =
        let old = inv j in
        elim (cases_eq j i) [
          | inl e ↦ rw (e, none) (grind (arith, nat_tests))
          | inr ne ↦ grind (arith, nat_tests)
        ]

some_within : (n : ℕ) (test : ℕ → Bool) → some n test ≡ true → (p : ℕ) × (p < n) × (test p ≡ true)
some_within zero test h = absurd (false≢true h)
some_within (suc n) test h = elim (or_cases (test n) (some n test) h) [
  | inl now ↦ (n, omega arith, now)
  | inr before ↦ let r = some_within n test before in (r.0, omega arith, r.2)
]

-- the part of n sets from a on
pub part_at : (w : Work) (a n k : ℕ) (d : Bits 8) → k < n → get_or (take n (drop a w)) k d ≡ get_or w (a + k) d
part_at w a n k d lt = get_or-take n (drop a w) k d lt ∙ get_or-drop a w k d

-- t is in one of the n sets from a on that s names
module _ (m : Work) (t : ℕ) where
  abbrev Among : Set → ℕ → ℕ → Type 0
  Among s a n = (p : ℕ) × (p < n) × (s p ≡ true) × (member m (a + p) t ≡ true)

  part_member : (a n p : ℕ) → p < n → member (take n (drop a m)) p t ≡ member m (a + p) t
  part_member a n p lt = ap (λ (s : Bits 8). has s.words t) (part_at m a n p (record { words = [] }) lt)

  -- the union of those
  union_among : (ws : List ℕ) (a n : ℕ) (b : Bool) → Decides b (InUnion ws (take n (drop a m)) t) → Decides b (Among (has ws) a n)
  union_among ws a n b d = (
    λ h.
        let r = d.0 h in
        elim (cases_lt r.0 n) [
          | inl lt ↦ (r.0, lt, r.1, sym (part_member a n r.0 lt) ∙ r.2)
          | inr past ↦ absurd (false≢true (sym (past_last (take n (drop a m)) r.0 t (omega (arith, length-take n (drop a m)))) ∙ r.2))
        ],
    λ (p, lt, e, h). d.1 (p, e, part_member a n p lt ∙ h),
  )

  behind_among : (s : Set) → Decides (behind_of m s t) (Among s 512 512)
  unfolding behind_of
  behind_among s = (
    λ h.
        let r = some_within 512 (λ p. s p && member m (512 + p) t) h in
        let two = and_parts (s r.0) (member m (512 + r.0) t) r.2 in
        (r.0, r.1, two.0, two.1),
    λ (p, lt, e, h). some_from 512 p (λ q. s q && member m (512 + q) t) lt (and_from (s p) (member m (512 + p) t) e h),
  )

  pub union_behind : (live r : List ℕ) → Decides (has r t) (InUnion live (take 512 (drop 512 m)) t) → has r t ≡ behind_of m (has live) t
  union_behind live r d = same_from_decides (has r t) (behind_of m (has live) t) (union_among live 512 512 (has r t) d) (behind_among (has live))

  -- the same by halves: pairs of which both are there, and those that are alone
  module _ (paired : Paired m) (live low high both lows highs : List ℕ)
      (low_is : (j : ℕ) → has low j ≡ (ltb (j / 64) 4 && has live j)) (high_is : (j : ℕ) → has high j ≡ (ltb (j / 64) 4 && has live (64 * 4 + j)))
      (both_is : (j : ℕ) → has both j ≡ (has low j && has high j))
      (lows_is : (j : ℕ) → has lows j ≡ (has low j && (ltb (j / 64) 4 && not (has both j)))) (highs_is : (j : ℕ) → has highs j ≡ (has high j && (ltb (j / 64) 4 && not (has both j))))
      (a b c : Bool) (in_pairs : Decides a (InUnion both (take 256 (drop 1536 m)) t)) (in_lows : Decides b (InUnion lows (take 256 (drop 512 m)) t)) (in_highs : Decides c (InUnion highs (take 256 (drop 768 m)) t))
    where
      of_low : (p : ℕ) → p < 256 → has low p ≡ true → has live p ≡ true
      of_low p lt h = (and_parts (ltb (p / 64) 4) (has live p) (sym (low_is p) ∙ h)).1

      of_high : (p : ℕ) → p < 256 → has high p ≡ true → has live (256 + p) ≡ true
      of_high p lt h = (and_parts (ltb (p / 64) 4) (has live (64 * 4 + p)) (sym (high_is p) ∙ h)).1

      at_high : (p : ℕ) → member m (512 + (256 + p)) t ≡ member m (768 + p) t
      at_high p = let e : 512 + (256 + p) ≡ 768 + p = omega arith in ap (λ (k : ℕ). member m k t) e

      found : (a || b || c) ≡ true → Among (has live) 512 512
      found h = elim (or_cases (a || b) c h) [
        | inl ab ↦ elim (or_cases a b ab) [
          | inl in_a ↦
              let r = (union_among both 1536 256 a in_pairs).0 in_a in
              let two = and_parts (has low r.0) (has high r.0) (sym (both_is r.0) ∙ r.2) in
              elim (or_cases (member m (512 + r.0) t) (member m (768 + r.0) t) (sym (paired r.0 t r.1) ∙ r.3)) [
                | inl first ↦ (r.0, omega arith, of_low r.0 r.1 two.0, first)
                | inr second ↦ (256 + r.0, omega arith, of_high r.0 r.1 two.1, at_high r.0 ∙ second)
              ]
          | inr in_b ↦
              let r = (union_among lows 512 256 b in_lows).0 in_b in
              (r.0, omega arith, of_low r.0 r.1 (and_parts (has low r.0) (ltb (r.0 / 64) 4 && not (has both r.0)) (sym (lows_is r.0) ∙ r.2)).0, r.3)
        ]
        | inr in_c ↦
            let r = (union_among highs 768 256 c in_highs).0 in_c in
            (256 + r.0, omega arith, of_high r.0 r.1 (and_parts (has high r.0) (ltb (r.0 / 64) 4 && not (has both r.0)) (sym (highs_is r.0) ∙ r.2)).0, at_high r.0 ∙ r.3)
      ]

      -- one that is a pair's is found among the pairs, another one by itself
      by_pair : (p : ℕ) → p < 256 → has both p ≡ true → (member m (512 + p) t || member m (768 + p) t) ≡ true → (a || b || c) ≡ true
      by_pair p lt e h = or_left (a || b) c (or_left a b ((union_among both 1536 256 a in_pairs).1 (p, lt, e, paired p t lt ∙ h)))

      alone : (p : ℕ) (half : Bool) → p < 256 → half ≡ true → has both p ≡ false → (half && (ltb (p / 64) 4 && not (has both p))) ≡ true
      alone p half lt h e = rw (h, e, lt-ltb (p / 64) 4 (omega arith)) refl

      in_low : (p : ℕ) → p < 256 → has live p ≡ true → has low p ≡ true
      in_low p lt h = low_is p ∙ rw (h, lt-ltb (p / 64) 4 (omega arith)) refl

      in_high : (p : ℕ) → p < 256 → has live (256 + p) ≡ true → has high p ≡ true
      in_high p lt h = high_is p ∙ rw (h, lt-ltb (p / 64) 4 (omega arith)) refl

      by_low : (p : ℕ) → p < 256 → has live p ≡ true → member m (512 + p) t ≡ true → (a || b || c) ≡ true
      by_low p lt e h = elim (cases_Bool (has both p)) [
        | inl two ↦ by_pair p lt two (or_left (member m (512 + p) t) (member m (768 + p) t) h)
        | inr one ↦ or_left (a || b) c (or_right a b ((union_among lows 512 256 b in_lows).1 (p, lt, lows_is p ∙ alone p (has low p) lt (in_low p lt e) one, h)))
      ]

      by_high : (p : ℕ) → p < 256 → has live (256 + p) ≡ true → member m (768 + p) t ≡ true → (a || b || c) ≡ true
      by_high p lt e h = elim (cases_Bool (has both p)) [
        | inl two ↦ by_pair p lt two (or_right (member m (512 + p) t) (member m (768 + p) t) h)
        | inr one ↦ or_right (a || b) c ((union_among highs 768 256 c in_highs).1 (p, lt, highs_is p ∙ alone p (has high p) lt (in_high p lt e) one, h))
      ]

      met : Among (has live) 512 512 → (a || b || c) ≡ true
      met (p, lt, e, h) = elim (cases_lt p 256) [
        | inl less ↦ by_low p less e h
        | inr past ↦
            let q : ℕ = p - 256 in
            let same : p ≡ 256 + q = omega arith in
            by_high q (omega arith) (subst (λ (k : ℕ). has live k ≡ true) same e) (sym (at_high q) ∙ subst (λ (k : ℕ). member m (512 + k) t ≡ true) same h)
      ]

      pub halves_behind : (a || b || c) ≡ behind_of m (has live) t
      halves_behind = same_from_decides (a || b || c) (behind_of m (has live) t) (found, met) (behind_among (has live))

-- whether what both have is empty
pub shared : (ws vs both : List ℕ) (e : Bool) → length both ≡ 8 → ((j : ℕ) → has both j ≡ (has ws j && has vs j))
    → ((e ≡ true → (j : ℕ) → has both j ≡ false) × (e ≡ false → (j : ℕ) × (has both j ≡ true)))
    → not e ≡ meets (has ws) (has vs)
shared ws vs both true long in_both h = sym (meets_false (has ws) (has vs) (λ p lt. sym (in_both p) ∙ h.0 refl p))
shared ws vs both false long in_both h =
    let some = h.1 refl in
    let two = and_parts (has ws some.0) (has vs some.0) (sym (in_both some.0) ∙ some.1) in
    sym (meets_from (has ws) (has vs) some.0 (member_below both some.0 long some.1) two.0 two.1)
