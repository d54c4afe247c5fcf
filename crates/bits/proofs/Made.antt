-- A word and words that are made of a test: their members are the numbers that pass it.
use Rattle.std.proofs.Common.{◌≡◌, ℕ, zero, suc, ◌+◌, ◌-◌, ◌*◌, ◌/◌, ◌%◌, ◌^◌, ◌<◌, ◌≤◌, Bool, true, false, cond, ◌&&◌, ltb, List, length, get_or, sym, refl, ap, ◌∙◌, inl, inr, arith, le-ltb, lt-ltb}
use Rattle.std.proofs.Math.Nat.{pow-suc}
use Rattle.std.proofs.lemmas.Bool.{cases_lt}
use Rattle.std.proofs.lemmas.Bool.Decides.{nat_tests}
use Rattle.std.proofs.lemmas.List.FromFn.{get_or-map-range_with_len, length-map-range_with_len}
use Rattle.std.proofs.lemmas.Nat.Bits.{bit_at-lt, bit_at_above, bit_at_cat_low, bit_at_cat_high, same_from_bits}
use Rattle.bits.specs.Set.{bit, has, bits_below, word, words, Whole}
use Rattle.bits.proofs.Words.{has_at, has_past, same_members}

-- ---- one bit in front of r
one_more : (b : Bool) (n r : ℕ) → r < 2 ^ n → cond b (2 ^ n) 0 + r < 2 ^ suc n
one_more true n r h = omega (arith, pow-suc 2 n)
one_more false n r h = omega (arith, pow-suc 2 n)

bit_low : (b : Bool) (n r i : ℕ) → i < n → bit (cond b (2 ^ n) 0 + r) i ≡ bit r i
unfolding bit
bit_low true n r i h = let e : 2 ^ n + r ≡ 1 * 2 ^ n + r = omega arith in rw (e, bit_at_cat_low 1 n r i h)
bit_low false n r i h = let e : 0 + r ≡ r = omega arith in rw e

bit_here : (b : Bool) (n r i : ℕ) → r < 2 ^ n → i ≡ n → bit (cond b (2 ^ n) 0 + r) i ≡ b
unfolding bit
bit_here true n r i h e = let s : 2 ^ n + r ≡ 1 * 2 ^ n + r = omega arith in let z : i - n ≡ 0 = omega arith in rw (s, bit_at_cat_high 1 n r i h (omega arith), z) refl
bit_here false n r i h e = let s : 0 + r ≡ r = omega arith in rw (s, bit_at_above r n i h (omega arith)) refl

bit_above : (w n i : ℕ) → w < 2 ^ n → n ≤ i → bit w i ≡ false
unfolding bit
bit_above w n i h le = rw (bit_at_above w n i h le) refl

same_word : (a b : ℕ) → ((i : ℕ) → bit a i ≡ bit b i) → a ≡ b
unfolding bit
same_word a b f = same_from_bits a b (λ i. let e = f i in grind (arith, nat_tests, bit_at-lt a i, bit_at-lt b i))

-- ---- the number whose bits below n are those that pass
module _ (test : ℕ → Bool) where
  few : (n : ℕ) → bits_below n test < 2 ^ n
  few zero = omega arith
  few (suc n) = one_more (test n) n (bits_below n test) (few n)

  bit_below : (n i : ℕ) → i < n → bit (bits_below n test) i ≡ test i
  bit_below zero i h = absurd (omega arith)
  bit_below (suc n) i h = elim (cases_lt i n) [
    | inl lt ↦ bit_low (test n) n (bits_below n test) i lt ∙ bit_below n i lt
    | inr ge ↦ let e : i ≡ n = omega arith in bit_here (test n) n (bits_below n test) i (few n) e ∙ sym (ap test e)
  ]

  -- ---- a word
  pub word_few : word test < 2 ^ 64
  unfolding word
  word_few = few 64

  pub word_within : (i : ℕ) → i < 64 → bit (word test) i ≡ test i
  unfolding word
  word_within i h = bit_below 64 i h

  pub bit_word : (i : ℕ) → bit (word test) i ≡ (ltb i 64 && test i)
  bit_word i = elim (cases_lt i 64) [
    | inl lt ↦ word_within i lt ∙ sym (ap (λ (b : Bool). b && test i) (lt-ltb i 64 lt))
    | inr ge ↦ bit_above (word test) 64 i word_few ge ∙ sym (ap (λ (b : Bool). b && test i) (le-ltb i 64 ge))
  ]

  -- where none past the last passes
  module _ (past : (i : ℕ) → 64 ≤ i → test i ≡ false) where
    pub word_members : (i : ℕ) → bit (word test) i ≡ test i
    word_members i = elim (cases_lt i 64) [
      | inl lt ↦ word_within i lt
      | inr ge ↦ bit_above (word test) 64 i word_few ge ∙ sym (past i ge)
    ]

    -- a number with these bits is that word
    pub word_is : (w : ℕ) → ((i : ℕ) → bit w i ≡ test i) → w ≡ word test
    word_is w bits = same_word w (word test) (λ i. bits i ∙ sym (word_members i))

-- ---- words
module _ (n : ℕ) (test : ℕ → Bool) where
  words_length : length (words n test) ≡ n
  unfolding words
  words_length = length-map-range_with_len (λ k. word (λ i. test (64 * k + i))) 0 n

  words_at : (k : ℕ) → k < n → get_or (words n test) k 0 ≡ word (λ i. test (64 * k + i))
  unfolding words
  words_at k lt = get_or-map-range_with_len (λ k. word (λ i. test (64 * k + i))) 0 n k k 0 lt (omega arith)

  pub words_whole : Whole n (words n test)
  words_whole = (words_length, λ i lt. rw (words_at i (omega (arith, words_length))) (word_few (λ j. test (64 * i + j))))

  has_within : (k : ℕ) → k < 64 * n → has (words n test) k ≡ test k
  has_within k lt =
      has_at (words n test) k (k / 64) (k % 64) (omega arith) (omega arith)
      ∙ ap (λ (w : ℕ). bit w (k % 64)) (words_at (k / 64) (omega arith))
      ∙ word_within (λ i. test (64 * (k / 64) + i)) (k % 64) (omega arith)
      ∙ let e : 64 * (k / 64) + k % 64 ≡ k = omega arith in ap test e

  pub has_words : (k : ℕ) → has (words n test) k ≡ (ltb k (64 * n) && test k)
  has_words k = elim (cases_lt k (64 * n)) [
    | inl lt ↦ has_within k lt ∙ sym (ap (λ (b : Bool). b && test k) (lt-ltb k (64 * n) lt))
    | inr ge ↦ has_past (words n test) k (omega (arith, words_length)) ∙ sym (ap (λ (b : Bool). b && test k) (le-ltb k (64 * n) ge))
  ]

  -- n words with these members are those words
  pub words_are : (ws : List ℕ) → Whole n ws → ((k : ℕ) → k < 64 * n → has ws k ≡ test k) → ws ≡ words n test
  words_are ws whole members = same_members ws (words n test) (whole.0 ∙ sym words_length) whole.1 words_whole.1 same
    where
      same : (k : ℕ) → has ws k ≡ has (words n test) k
      same k = elim (cases_lt k (64 * n)) [
        | inl lt ↦ members k lt ∙ sym (has_within k lt)
        | inr ge ↦ has_past ws k (omega (arith, whole.0)) ∙ sym (has_past (words n test) k (omega (arith, words_length)))
      ]
