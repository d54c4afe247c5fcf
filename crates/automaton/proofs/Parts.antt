-- Each rule's positions are a part of all, into which and out of which nothing leads.
use Rattle.std.proofs.Common.{◌≡◌, ℕ, zero, suc, ◌+◌, ◌≤◌, Bool, true, false, ◌&&◌, ◌||◌, ◌==◌, List, [], ◌∷◌, Some, slice_get, refl, subst, ◌∙◌, inl, inr, arith}
use Rattle.std.proofs.lemmas.Bool.{or_cases, and_parts, false≢true}
use Rattle.std.proofs.lemmas.Option.{none-some, same_Some}
use Rattle.patterns.specs.Positions.{first}
use Rattle.patterns.proofs.Ranges.{In, low, high, first_in}
use Rattle.grammar.specs.File.{RuleText, rule_size, all_positions}
use Rattle.automaton.specs.Pattern.{slash, slash_of, pattern_takes, pattern_after, trail_start}
use Rattle.automaton.specs.Automaton.{takes, after, live, start_set, trail_set, end_mark, slash_mark}
use Rattle.automaton.proofs.Patterns.{pattern_takes_in, pattern_after_in}

-- one of two tests is enough where the other fails
only_left : (x y : Bool) → (y ≡ true → ⊥) → (x || y) ≡ x
only_left true y out = refl
only_left false true out = absurd (out refl)
only_left false false out = refl

only_right : (x y : Bool) → (x ≡ true → ⊥) → (x || y) ≡ y
only_right true y out = absurd (out refl)
only_right false y out = refl

-- the first positions that count are some of the pattern's
start_in : (q : RuleText) (a c : ℕ) (line : Bool) (p : ℕ) → (live q c line && first q.expression (a + 1) p) ≡ true → In a (rule_size q) p
start_in q a c line p h = let i = first_in q.expression (a + 1) p (and_parts (live q c line) _ h).1 in (omega arith, omega arith)

-- where the positions of all rules lie
pub takes_lie : (rules : List RuleText) (a p b : ℕ) → takes rules a p b ≡ true → In a (all_positions rules) p
takes_lie [] a p b h = absurd (false≢true h)
takes_lie (q ∷ qs) a p b h = elim (or_cases (pattern_takes q.expression q.trailing a p b) _ h) [
  | inl k ↦ low a (rule_size q) (all_positions qs) p (pattern_takes_in q.expression q.trailing a p b k)
  | inr k ↦ high a (rule_size q) (all_positions qs) p (takes_lie qs (a + rule_size q) p b k)
]

after_lie : (rules : List RuleText) (a p t : ℕ) → after rules a p t ≡ true → In a (all_positions rules) t
after_lie [] a p t h = absurd (false≢true h)
after_lie (q ∷ qs) a p t h = elim (or_cases (pattern_after q.expression q.trailing a p t) _ h) [
  | inl k ↦ low a (rule_size q) (all_positions qs) t (pattern_after_in q.expression q.trailing a p t k).1
  | inr k ↦ high a (rule_size q) (all_positions qs) t (after_lie qs (a + rule_size q) p t k)
]

start_lie : (rules : List RuleText) (a c : ℕ) (line : Bool) (p : ℕ) → start_set rules a c line p ≡ true → In a (all_positions rules) p
start_lie [] a c line p h = absurd (false≢true h)
start_lie (q ∷ qs) a c line p h = elim (or_cases (live q c line && first q.expression (a + 1) p) _ h) [
  | inl k ↦ low a (rule_size q) (all_positions qs) p (start_in q a c line p k)
  | inr k ↦ high a (rule_size q) (all_positions qs) p (start_lie qs (a + rule_size q) c line p k)
]

-- rule i of the rules, which lie from a on, is q, and lies from e on, where its end mark is: there all is as in its pattern by itself
pub record Lies (rules : List RuleText) (a i : ℕ) (q : RuleText) (e : ℕ) : Type 0 where
  pub from : a ≤ e
  pub within : e + rule_size q ≤ a + all_positions rules
  pub takes_same : (p b : ℕ) → In e (rule_size q) p → takes rules a p b ≡ pattern_takes q.expression q.trailing e p b
  pub after_same : (p t : ℕ) → In e (rule_size q) t → after rules a p t ≡ pattern_after q.expression q.trailing e p t
  pub start_same : (c : ℕ) (line : Bool) (p : ℕ) → In e (rule_size q) p → start_set rules a c line p ≡ (live q c line && first q.expression (e + 1) p)
  pub trail_same : (p : ℕ) → trail_set rules a i p ≡ trail_start q.trailing e (slash q.expression e + 1) p
  pub end_same : (p : ℕ) → end_mark rules a i p ≡ (p == e)
  pub slash_same : (p : ℕ) → slash_mark rules a i p ≡ slash_of q.trailing (slash q.expression e) p

-- the first rule
lies_first : (q : RuleText) (qs : List RuleText) (a : ℕ) → Lies (q ∷ qs) a 0 q a
lies_first q qs a = record {
  from = omega arith;
  within = omega arith;
  takes_same = λ p b i. only_left _ _ (λ h. let j = takes_lie qs (a + rule_size q) p b h in omega arith);
  after_same = λ p t i. only_left _ _ (λ h. let j = after_lie qs (a + rule_size q) p t h in omega arith);
  start_same = λ c line p i. only_left _ _ (λ h. let j = start_lie qs (a + rule_size q) c line p h in omega arith);
  trail_same = λ p. refl;
  end_same = λ p. refl;
  slash_same = λ p. refl;
}

-- a rule behind it
lies_later : (r : RuleText) (qs : List RuleText) (a i : ℕ) (q : RuleText) (e : ℕ) → Lies qs (a + rule_size r) i q e → Lies (r ∷ qs) a (suc i) q e
lies_later r qs a i q e k = record {
  from = omega (arith, k.from);
  within = omega (arith, k.within);
  takes_same = λ p b j. only_right _ _ (λ h. let l = pattern_takes_in r.expression r.trailing a p b h in omega (arith, k.from)) ∙ k.takes_same p b j;
  after_same = λ p t j. only_right _ _ (λ h. let l = (pattern_after_in r.expression r.trailing a p t h).1 in omega (arith, k.from)) ∙ k.after_same p t j;
  start_same = λ c line p j. only_right _ _ (λ h. let l = start_in r a c line p h in omega (arith, k.from)) ∙ k.start_same c line p j;
  trail_same = k.trail_same;
  end_same = k.end_same;
  slash_same = k.slash_same;
}

pub lies : (rules : List RuleText) (a i : ℕ) (q : RuleText) → slice_get rules i ≡ Some q → (e : ℕ) × Lies rules a i q e
lies [] a i q h = absurd (none-some q h)
lies (r ∷ qs) a zero q h = (a, subst (λ s. Lies (r ∷ qs) a 0 s a) (same_Some r q h) (lies_first r qs a))
lies (r ∷ qs) a (suc i) q h = let k = lies qs (a + rule_size r) i q h in (k.0, lies_later r qs a i q k.0 k.1)
