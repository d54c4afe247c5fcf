-- What is meant at a place ends behind it, and within the text.
use Rattle.std.proofs.Common.{◌≡◌, ℕ, ◌+◌, ◌<◌, ◌≤◌, cond, eqb, ltb, List, length, get_or, Some, None, Option, IfSome, sym, subst, arith, ltb-true}
use Rattle.std.proofs.lemmas.Bool.{cond_both}
use Rattle.grammar.specs.declared.Read.{Read}
use Rattle.rule_cases.specs.Escapes.{digit_of, named_by, meant, before, paired, hexadecimal_at, escape_at, unit_at}

abbrev Ends : ℕ → ℕ → Option (Read ℕ) → Type 0
Ends from most o = IfSome o (λ u. (from < u.next) × (u.next ≤ most))

earlier : (low from most : ℕ) (o : Option (Read ℕ)) → low ≤ from → Ends from most o → Ends low most o
earlier low from most (Some u) h e = (omega arith, e.1)
earlier low from most None h e = tt

before_ends : (from most n : ℕ) (o : Option ℕ) → from < n → n ≤ most → Ends from most (before n o)
before_ends from most n (Some b) low high = (low, high)
before_ends from most n None low high = tt

paired_ends : (from most n : ℕ) (o p : Option ℕ) → from < n → n ≤ most → Ends from most (paired n o p)
paired_ends from most n (Some a) (Some b) low high = (low, high)
paired_ends from most n (Some a) None low high = tt
paired_ends from most n None p low high = tt

module _ (s : List ℕ) where
  hexadecimal_ends : (n : ℕ) → Ends n (length s) (hexadecimal_at s n)
  hexadecimal_ends n =
      cond_both (ltb (n + 1) (length s)) (paired (n + 2) (digit_of (get_or s n 0)) (digit_of (get_or s (n + 1) 0))) None (Ends n (length s))
      (λ h. paired_ends n (length s) (n + 2) (digit_of (get_or s n 0)) (digit_of (get_or s (n + 1) 0)) (omega arith) (omega (arith, ltb-true (n + 1) (length s) h)))
      (λ _. tt)

  escape_ends : (n : ℕ) → Ends n (length s) (escape_at s n)
  escape_ends n =
      let named = before (n + 1) (named_by (get_or s n 0)) in
      cond_both (ltb n (length s)) (cond (eqb (get_or s n 0) 120) (hexadecimal_at s (n + 1)) named) None (Ends n (length s))
      (λ h. cond_both (eqb (get_or s n 0) 120) (hexadecimal_at s (n + 1)) named (Ends n (length s))
      (λ _. earlier n (n + 1) (length s) (hexadecimal_at s (n + 1)) (omega arith) (hexadecimal_ends (n + 1)))
      (λ _. before_ends n (length s) (n + 1) (named_by (get_or s n 0)) (omega arith) (omega (arith, ltb-true n (length s) h))))
      (λ _. tt)

  unit_ends : (n : ℕ) → Ends n (length s) (unit_at s n)
  unit_ends n =
      let itself = meant (n + 1) (get_or s n 0) in
      cond_both (ltb n (length s)) (cond (eqb (get_or s n 0) 126) (escape_at s (n + 1)) itself) None (Ends n (length s))
      (λ h. cond_both (eqb (get_or s n 0) 126) (escape_at s (n + 1)) itself (Ends n (length s))
      (λ _. earlier n (n + 1) (length s) (escape_at s (n + 1)) (omega arith) (escape_ends (n + 1)))
      (λ _. (omega arith, omega (arith, ltb-true n (length s) h))))
      (λ _. tt)

  -- a byte that is meant at n by what ends before m
  pub unit_within : (n : ℕ) (u : Read ℕ) → Some u ≡ unit_at s n → (n < u.next) × (u.next ≤ length s)
  unit_within n u e = subst (Ends n (length s)) (sym e) (unit_ends n)
