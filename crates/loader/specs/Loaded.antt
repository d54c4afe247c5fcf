-- What the loaded memory holds of a rule file before its rows are there.
use Rattle.std.specs.Prelude.{ℕ, suc, ◌-◌, List, [], ◌∷◌, ◌++◌, length, replicate}
use Rattle.bits.specs.Set.{words}
use Rattle.actions.specs.Given.{padded}
use Rattle.grammar.specs.File.{RuleText, RuleFile}
use Rattle.table.specs.declared.loaded.Rule.{Rule}
use Rattle.table.specs.declared.loaded.Loaded.{Loaded}
use Rattle.table.specs.Zeros.{no_rule, zeros}

-- the rule q, whose trailing part starts from the row `trail`; None stands behind its steps
abbrev pub rule_of : ℕ → RuleText → Rule
rule_of trail q = record {
  conditions = record { words = words 1 q.active };
  anchored = q.anchored;
  trail = trail;
  steps = padded q.steps;
}

-- rules from rule i on, where the trailing part of rule j starts from the row `trail j`
abbrev pub rules_from : (ℕ → ℕ) → ℕ → List RuleText → List Rule
rules_from trail i [] = []
rules_from trail i (q ∷ qs) = rule_of (trail i) q ∷ rules_from trail (suc i) qs

-- the rules in their order, and zeros behind them, 64 in all
abbrev pub rules_of : (ℕ → ℕ) → List RuleText → List Rule
rules_of trail qs = rules_from trail 0 qs ++ replicate (64 - length qs) no_rule

-- a file that is read: start rows, trail starts and rows are for a later step
abbrev pub read_of : RuleFile → Loaded
read_of f = record {
  rules = rules_of (λ i. 0) f.rules;
  starts = zeros.starts;
  rule_count = length f.rules;
  condition_count = length f.conditions.names;
  row_count = 0;
}
