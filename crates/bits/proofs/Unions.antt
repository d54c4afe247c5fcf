-- The union of the sets whose numbers are in a set, word by word and bit by bit.
use Rattle.std.proofs.Common.{◌≡◌, ℕ, ◌+◌, ◌-◌, ◌*◌, ◌^◌, ◌<◌, ◌≤◌, true, false, not, ◌&&◌, ◌||◌, eqb, min, ◌≢◌, List, [], length, get_or, sym, refl, ap, ◌∙◌, subst, inl, inr, arith, ne_eqb}
use Rattle.std.specs.Bool.{Decides}
use Rattle.std.proofs.lemmas.Bool.{cases_lt, cases_eq, false≢true, or_left, or_right, or_cases, and_parts}
use Rattle.std.proofs.lemmas.Bool.Decides.{nat_tests}
use Rattle.std.proofs.lemmas.List.{get_or_past}
use Rattle.bits.specs.declared.Bits.{Bits}
use Rattle.bits.specs.Set.{bit, has, Whole}
use Rattle.bits.specs.Sets.{member, InUnion}
use Rattle.bits.proofs.Words.{bit_zero, has_at, has_past}

-- u is the union of those of the sets whose numbers are in ws, as far as they are below `end`
pub record Joining (V : ℕ) (ws : List ℕ) (sets : List (Bits V)) (u : List ℕ) (end : ℕ) : Type 0 where
  pub whole : Whole V u
  pub within : (j : ℕ) → has u j ≡ true → InUnion ws sets j
  pub all : (j k : ℕ) → k < end → has ws k ≡ true → member sets k j ≡ true → has u j ≡ true

-- and of those in word i whose bit is not left
pub record JoiningWord (V : ℕ) (ws : List ℕ) (sets : List (Bits V)) (u : List ℕ) (i left : ℕ) : Type 0 where
  pub before : Joining V ws sets u (64 * i)
  pub small : left < 2 ^ 64
  pub of_word : (b : ℕ) → bit left b ≡ true → bit (get_or ws i 0) b ≡ true
  pub done : (j b : ℕ) → b < 64 → bit left b ≡ false → bit (get_or ws i 0) b ≡ true → member sets (64 * i + b) j ≡ true → has u j ≡ true

pub filled : (w b : ℕ) → bit w b ≡ true → 0 < w
filled w b on = elim (cases_eq w 0) [
  | inl e ↦ let z : bit w b ≡ false = ap (λ (v : ℕ). bit v b) e ∙ bit_zero b in cc
  | inr n ↦ omega arith
]

-- a set past the last has no members
pub past_last : {W : ℕ} → (sets : List (Bits W)) (k j : ℕ) → length sets ≤ k → member sets k j ≡ false
past_last sets k j h = ap (λ (s : Bits _). has s.words j) (get_or_past sets k (record { words = [] }) h) ∙ has_past [] j (omega arith)

module _ (V : ℕ) (ws : List ℕ) (sets : List (Bits V)) (u : List ℕ) (i : ℕ) where
  pub word_start : Joining V ws sets u (64 * i) → get_or ws i 0 < 2 ^ 64 → JoiningWord V ws sets u i (get_or ws i 0)
  word_start g l = record {
    before = g;
    small = l;
    of_word = λ b e. e;
    done = λ j b l off on m. absurd (false≢true (sym off ∙ on));
  }

  module _ (left : ℕ) (g : JoiningWord V ws sets u i left) where
    pub word_done : ((b : ℕ) → b < 64 → bit left b ≡ false) → Joining V ws sets u (64 * (i + 1))
    word_done none = record {
      whole = g.before.whole;
      within = g.before.within;
      all = λ j k l e m. elim (cases_lt k (64 * i)) [
        | inl less ↦ g.before.all j k less e m
        | inr ge ↦
            let b : ℕ = k - 64 * i in
            let k-is : k ≡ 64 * i + b = omega arith in
            let on : bit (get_or ws i 0) b ≡ true = sym (has_at ws k i b k-is (omega arith)) ∙ e in
            g.done j b (omega arith) (none b (omega arith)) on (subst (λ (n : ℕ). member sets n j ≡ true) k-is m)
      ];
    }

    -- the lowest bit that is left
    module _ (b : ℕ) (small : b < 64) (on : bit left b ≡ true) (u' : List ℕ) (h : Whole V u') (joined : (j : ℕ) → has u' j ≡ (has u j || member sets (64 * i + b) j))
        (left' : ℕ) (less : left' < 2 ^ 64) (bits : (a : ℕ) → bit left' a ≡ (bit left a && not (eqb a b)))
      where
        in_set : has ws (64 * i + b) ≡ true
        in_set = has_at ws (64 * i + b) i b refl small ∙ g.of_word b on

        kept : (j : ℕ) → has u j ≡ true → has u' j ≡ true
        kept j e = joined j ∙ or_left (has u j) (member sets (64 * i + b) j) e

        within : (j : ℕ) → has u' j ≡ true → InUnion ws sets j
        within j e = elim (or_cases (has u j) (member sets (64 * i + b) j) (sym (joined j) ∙ e)) [
          | inl old ↦ g.before.within j old
          | inr new ↦ (64 * i + b, in_set, new)
        ]

        pub word_more : JoiningWord V ws sets u' i left'
        word_more = record {
          before = record { whole = h; within = within; all = λ j k l e m. kept j (g.before.all j k l e m) };
          small = less;
          of_word = λ a e. g.of_word a (and_parts (bit left a) (not (eqb a b)) (sym (bits a) ∙ e)).0;
          done = λ j a l off e m. elim (cases_eq a b) [
            | inl same ↦ joined j ∙ or_right (has u j) (member sets (64 * i + b) j) (subst (λ (n : ℕ). member sets (64 * i + n) j ≡ true) same m)
            | inr other ↦ kept j (g.done j a l (still a other off) e m)
          ];
        }
          where
            still : (a : ℕ) → a ≢ b → bit left' a ≡ false → bit left a ≡ false
            still a other off = let e = bits a in let f = ne_eqb a b other in grind (arith, nat_tests)

-- no word is left
pub union_done : (V W : ℕ) (ws : List ℕ) (sets : List (Bits V)) (u : List ℕ) (end : ℕ) → Joining V ws sets u (64 * end) → length ws ≡ W → length sets < 2 ^ 64 → min W (2 ^ 58) ≤ end
    → (j : ℕ) → Decides (has u j) (InUnion ws sets j)
union_done V W ws sets u end g w s h j = (g.within j, λ (k, e, m). at k e m)
  where
    at : (k : ℕ) → has ws k ≡ true → member sets k j ≡ true → has u j ≡ true
    at k e m = elim (cases_lt k (64 * end)) [
      | inl l ↦ g.all j k l e m
      | inr ge ↦ elim (cases_lt k (length sets)) [
        | inl in_sets ↦ absurd (false≢true (sym (has_past ws k (omega arith)) ∙ e))
        | inr past ↦ absurd (false≢true (sym (past_last sets k j past) ∙ m))
      ]
    ]
