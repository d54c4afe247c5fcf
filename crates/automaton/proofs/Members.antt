-- Sets as their members: what `same`, `empty`, `some` and `meets` say of them.
use Rattle.std.proofs.Common.{◌≡◌, ℕ, zero, suc, ◌<◌, Bool, true, false, not, ◌&&◌, List, sym, refl, ap, ◌∙◌, inl, inr, arith}
use mathlib.Core.Bool.{beq}
use Rattle.std.proofs.lemmas.Bool.{or_cases, or_left, or_right, or_from, and_parts, and_from, cases_eq, not-true, not_from_false, false≢true}
use Rattle.grammar.specs.File.{RuleText}
use Rattle.automaton.specs.Sets.{Set, some, each, empty, same}
use Rattle.automaton.specs.Automaton.{takes, after, leads, meets}

pub each_true : (n : ℕ) (test : ℕ → Bool) → each n test ≡ true → (p : ℕ) → p < n → test p ≡ true
each_true zero test h p lt = absurd (omega arith)
each_true (suc n) test h p lt = elim (cases_eq p n) [
  | inl e ↦ rw e (and_parts (test n) (each n test) h).0
  | inr ne ↦ each_true n test (and_parts (test n) (each n test) h).1 p (omega arith)
]

pub each_from : (n : ℕ) (test : ℕ → Bool) → ((p : ℕ) → p < n → test p ≡ true) → each n test ≡ true
each_from zero test f = refl
each_from (suc n) test f = and_from (test n) (each n test) (f n (omega arith)) (each_from n test (λ p lt. f p (omega arith)))

beq_equal : (a b : Bool) → beq a b ≡ true → a ≡ b
beq_equal true true h = refl
beq_equal true false h = sym h
beq_equal false true h = h
beq_equal false false h = refl

beq_from : (a b : Bool) → a ≡ b → beq a b ≡ true
beq_from true true h = refl
beq_from true false h = sym h
beq_from false true h = h
beq_from false false h = refl

-- the same set: the same members
pub same_true : (s t : Set) → same s t ≡ true → (p : ℕ) → p < 512 → s p ≡ t p
unfolding same
same_true s t h p lt = beq_equal (s p) (t p) (each_true 512 (λ q. beq (s q) (t q)) h p lt)

pub same_from : (s t : Set) → ((p : ℕ) → p < 512 → s p ≡ t p) → same s t ≡ true
unfolding same
same_from s t h = each_from 512 (λ q. beq (s q) (t q)) (λ p lt. beq_from (s p) (t p) (h p lt))

pub empty_true : (s : Set) → empty s ≡ true → (p : ℕ) → p < 512 → s p ≡ false
unfolding empty
empty_true s h p lt = not-true (s p) (each_true 512 (λ q. not (s q)) h p lt)

pub empty_from : (s : Set) → ((p : ℕ) → p < 512 → s p ≡ false) → empty s ≡ true
unfolding empty
empty_from s h = each_from 512 (λ q. not (s q)) (λ p lt. not_from_false (s p) (h p lt))

pub same_refl : (s : Set) → same s s ≡ true
same_refl s = same_from s s (λ p lt. refl)

pub same_sym : (s t : Set) → same s t ≡ true → same t s ≡ true
same_sym s t h = same_from t s (λ p lt. sym (same_true s t h p lt))

pub same_trans : (s t u : Set) → same s t ≡ true → same t u ≡ true → same s u ≡ true
same_trans s t u h k = same_from s u (λ p lt. same_true s t h p lt ∙ same_true t u k p lt)

-- two tests that pass together are one
both_pass : (a b : Bool) → (a ≡ true → b ≡ true) → (b ≡ true → a ≡ true) → a ≡ b
both_pass true b f g = sym (f refl)
both_pass false true f g = g refl
both_pass false false f g = refl

-- same sets are not told apart
pub same_both : (r s t u : Set) → same r s ≡ true → same t u ≡ true → same r t ≡ same s u
same_both r s t u h k = both_pass (same r t) (same s u)
    (λ e. same_trans s r u (same_sym r s h) (same_trans r t u e k))
    (λ e. same_trans r s t h (same_trans s u t e (same_sym t u k)))

pub same_empty : (s t : Set) → same s t ≡ true → empty s ≡ empty t
same_empty s t h = both_pass (empty s) (empty t)
    (λ k. empty_from t (λ p lt. sym (same_true s t h p lt) ∙ empty_true s k p lt))
    (λ k. empty_from s (λ p lt. same_true s t h p lt ∙ empty_true t k p lt))

-- two tests that agree below n
pub some_both : (n : ℕ) (f g : ℕ → Bool) → ((p : ℕ) → p < n → f p ≡ g p) → some n f ≡ some n g
some_both zero f g h = refl
some_both (suc n) f g h = rw (h n (omega arith), some_both n f g (λ p lt. h p (omega arith)))

-- some number below n passes where one is found that does, and none does where each fails
pub some_found : (n : ℕ) (test : ℕ → Bool) → some n test ≡ true → (p : ℕ) × (test p ≡ true)
some_found zero test h = absurd (false≢true h)
some_found (suc n) test h = elim (or_cases (test n) (some n test) h) [ inl k ↦ (n, k) | inr k ↦ some_found n test k ]

pub some_from : (n p : ℕ) (test : ℕ → Bool) → p < n → test p ≡ true → some n test ≡ true
some_from zero p test lt h = absurd (omega arith)
some_from (suc n) p test lt h = elim (cases_eq p n) [
  | inl e ↦ or_left (test n) (some n test) (rw e at h)
  | inr ne ↦ or_right (test n) (some n test) (some_from n p test (omega arith) h)
]

pub some_false : (n : ℕ) (test : ℕ → Bool) → ((p : ℕ) → p < n → test p ≡ false) → some n test ≡ false
some_false zero test none = refl
some_false (suc n) test none = or_from (test n) (some n test) (none n (omega arith)) (some_false n test (λ p lt. none p (omega arith)))

-- a mark in a set
pub meets_found : (s m : Set) → meets s m ≡ true → (p : ℕ) × (s p ≡ true) × (m p ≡ true)
unfolding meets
meets_found s m h =
    let r = some_found 512 (λ p. s p && m p) h in
    let k = and_parts (s r.0) (m r.0) r.1 in (r.0, k.0, k.1)

pub meets_from : (s m : Set) (p : ℕ) → p < 512 → s p ≡ true → m p ≡ true → meets s m ≡ true
unfolding meets
meets_from s m p lt h k = some_from 512 p (λ q. s q && m q) lt (and_from (s p) (m p) h k)

pub meets_false : (s m : Set) → ((p : ℕ) → p < 512 → (s p && m p) ≡ false) → meets s m ≡ false
unfolding meets
meets_false s m none = some_false 512 (λ p. s p && m p) none

leads_both : (qs : List RuleText) (s t : Set) (b q : ℕ) → same s t ≡ true → leads qs s b q ≡ leads qs t b q
unfolding leads
leads_both qs s t b q h =
    some_both 512 (λ p. s p && (takes qs 0 p b && after qs 0 p q)) (λ p. t p && (takes qs 0 p b && after qs 0 p q))
    (λ p lt. ap (λ x. x && (takes qs 0 p b && after qs 0 p q)) (same_true s t h p lt))

pub same_leads : (qs : List RuleText) (s t : Set) (b : ℕ) → same s t ≡ true → same (leads qs s b) (leads qs t b) ≡ true
same_leads qs s t b h = same_from (leads qs s b) (leads qs t b) (λ q small. leads_both qs s t b q h)
