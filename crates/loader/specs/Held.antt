-- What the functions that read and build keep of the memory, field by field.
use Rattle.std.specs.Prelude.{◌≡◌, ℕ, ◌<◌, ◌≤◌, List, [], ◌∷◌, map, length, replicate, slice_index_or}
use Rattle.bits.specs.Set.{bit, has, Whole}
use Rattle.actions.specs.Given.{padded}
use Rattle.grammar.specs.File.{RuleText, RuleFile}
use Rattle.table.specs.declared.loaded.Row.{Row}
use Rattle.table.specs.declared.loaded.Rule.{Rule}
use Rattle.table.specs.declared.loaded.Loaded.{Loaded}
use Rattle.table.specs.Zeros.{no_row, no_rule, no_start, zeros}
use Rattle.table.specs.Memory.{entry, row_at}
use Rattle.automaton.specs.Sets.{Set}
use Rattle.automaton.specs.Automaton.{end_mark, slash_mark, leads, meets}
use Rattle.automaton.specs.Numbering.{number, none}
use Rattle.loader.specs.Load.{filled, start_of, trail_of}

-- r is the rule q, but for its trail start: None stands behind its steps
pub record RuleHolds (r : Rule) (q : RuleText) : Type 0 where
  pub active : (c : ℕ) → has r.conditions.words c ≡ q.active c
  pub whole : Whole 1 r.conditions.words
  pub anchored : r.anchored ≡ q.anchored
  pub steps : r.steps ≡ padded q.steps

-- the rules in their order, and zeros behind them
abbrev pub RulesHold : List Rule → List RuleText → Type 0
RulesHold rs [] = rs ≡ replicate (length rs) no_rule
RulesHold [] (q ∷ qs) = ⊥
RulesHold (r ∷ rs) (q ∷ qs) = RuleHolds r q × RulesHold rs qs

-- the row that the trailing part of each rule starts from
abbrev pub trails_of : Loaded → List ℕ
trails_of l = map (λ (r : Rule). r.trail) l.rules

-- the file f is read: start rows, trail starts and rows are for a later step
pub record Holds (l : Loaded) (f : RuleFile) : Type 0 where
  pub rules : RulesHold l.rules f.rules
  pub rule_count : l.rule_count ≡ length f.rules
  pub condition_count : l.condition_count ≡ length f.conditions.names
  pub starts : l.starts ≡ zeros.starts
  pub trails : trails_of l ≡ replicate 64 0
  pub row_count : l.row_count ≡ 0

-- a row that stands for the set s, among the rows rs
pub record RowHolds (qs : List RuleText) (rs : List Set) (s : Set) (r : Row) : Type 0 where
  pub width : length r.next ≡ 256
  pub next : (b : ℕ) → b < 256 → entry r b ≡ number rs (leads qs s b)
  pub ends : (i : ℕ) → bit r.ends i ≡ meets s (end_mark qs 0 i)
  pub slashes : (i : ℕ) → bit r.slashes i ≡ meets s (slash_mark qs 0 i)

-- the rows in their order, and zeros behind them
pub record RowsHold (qs : List RuleText) (rs : List Set) (rows : List Row) : Type 0 where
  pub each : (k : ℕ) → k < length rs → RowHolds qs rs (slice_index_or rs k none) (row_at rows k)
  pub behind : (k : ℕ) → length rs ≤ k → k < length rows → row_at rows k ≡ no_row

-- the file f is loaded, and its rows stand for the sets rs
pub record HoldsRows (f : RuleFile) (rs : List Set) (l : Loaded) (rows : List Row) : Type 0 where
  pub rules : RulesHold l.rules f.rules
  pub starts : l.starts ≡ filled (start_of f.rules rs) (length f.conditions.names) 8 no_start
  pub trails : trails_of l ≡ filled (trail_of f.rules rs) (length f.rules) 64 0
  pub rule_count : l.rule_count ≡ length f.rules
  pub condition_count : l.condition_count ≡ length f.conditions.names
  pub row_count : l.row_count ≡ length rs
  pub rows_hold : RowsHold f.rules rs rows
