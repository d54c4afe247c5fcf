-- The positions of a pattern in the work memory.
use Rattle.std.specs.Prelude.{◌≡◌, ℕ, suc, ◌+◌, ◌<◌, ◌≤◌, List, [], ◌∷◌, Option, ◌==◌}
use Rattle.patterns.specs.Expression.{Expression}
use Rattle.patterns.specs.Positions.{first}
use Rattle.positions.specs.Memory.{Work, member}
use Rattle.grammar.specs.File.{RuleText, rule_size}
use Rattle.automaton.specs.Pattern.{slash, pattern_takes, trail_start, pattern_after, pattern_size, slash_of}

-- the work memory has them, and in the sets of rule i, counted from 0, the first positions of r,
-- the trail start, the end mark and the slash mark
pub record PatternLaid (w : Work) (r : Expression) (x : Option Expression) (a i : ℕ) : Type 0 where
  pub within : a + pattern_size r x ≤ 512
  pub bytes : (p b : ℕ) → a ≤ p → p < a + pattern_size r x → b < 256
      → member w p b ≡ pattern_takes r x a p b
  pub order : (p q : ℕ) → a ≤ p → p < a + pattern_size r x
      → member w (512 + p) q ≡ pattern_after r x a p q
  pub starts : (q : ℕ) → member w (1024 + i) q ≡ first r (a + 1) q
  pub trails : (q : ℕ) → member w (1088 + i) q ≡ trail_start x a (slash r a + 1) q
  pub ends : (q : ℕ) → member w (1152 + i) q ≡ (q == a)
  pub slashes : (q : ℕ) → member w (1216 + i) q ≡ slash_of x (slash r a) q

-- the rules one behind another, from rule i and position a on
abbrev pub RulesLaid : Work → ℕ → ℕ → List RuleText → Type 0
RulesLaid w i a [] = Unit {0}
RulesLaid w i a (q ∷ qs) =
    PatternLaid w q.expression q.trailing a i × RulesLaid w (suc i) (a + rule_size q) qs

-- nothing changed of the positions below a, nor of the sets of the first i rules
pub record RulesKept (a i : ℕ) (w w' : Work) : Type 0 where
  pub bytes : (p q : ℕ) → p < a → member w' p q ≡ member w p q
  pub order : (p q : ℕ) → p < a → member w' (512 + p) q ≡ member w (512 + p) q
  pub starts : (j q : ℕ) → j < i → member w' (1024 + j) q ≡ member w (1024 + j) q
  pub trails : (j q : ℕ) → j < i → member w' (1088 + j) q ≡ member w (1088 + j) q
  pub ends : (j q : ℕ) → j < i → member w' (1152 + j) q ≡ member w (1152 + j) q
  pub slashes : (j q : ℕ) → j < i → member w' (1216 + j) q ≡ member w (1216 + j) q
