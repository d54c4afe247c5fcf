-- Loaded memory and rows that name nothing they lack.
use Rattle.std.specs.Prelude.{◌≡◌, ℕ, ◌^◌, ◌<◌, ◌≤◌, Bool, true, false, IsTrue, List, [], map, length, Some, None, Option, nat_lt, slice_index, slice_index_or}
use Rattle.std.specs.List.{range_with_len}
use Rattle.bits.specs.Set.{has}
use Rattle.grammar.specs.declared.Step.{Step}
use Rattle.grammar.specs.declared.Step.TheVariants.{Begin}
use Rattle.table.specs.declared.loaded.Row.{Row}
use Rattle.table.specs.declared.loaded.Rule.{Rule}
use Rattle.table.specs.declared.loaded.StartRows.{StartRows}
use Rattle.table.specs.declared.loaded.Loaded.{Loaded}

-- what is loaded: the loaded memory, and the rows
pub record Memory : Type 0 where
  pub loaded : Loaded
  pub rows : List Row

abbrev pub memory : Loaded → List Row → Memory
memory l rs = record { loaded = l; rows = rs }

-- the row that the byte b leads to from the row r, and the entries by which each byte leads to the
-- row `to` says; nothing else knows where an entry stands
abbrev pub entry : Row → ℕ → ℕ
entry r b = slice_index r.next b

abbrev pub entries : (ℕ → ℕ) → List ℕ
entries to = map to (range_with_len 0 256)

-- the row, the rule and the start rows at an index from 0; zeros past the end
abbrev pub row_at : List Row → ℕ → Row
row_at rs k = slice_index_or rs k record { next = []; ends = 0; slashes = 0 }

abbrev pub rule_at : Loaded → ℕ → Rule
rule_at l i = slice_index_or l.rules i record
    { conditions = record { words = [] }; anchored = false; trail = 0; steps = [] }

abbrev pub start_at : Loaded → ℕ → StartRows
start_at l c = slice_index_or l.starts c record { inside = 0; at_line_start = 0 }

-- the counts fit the memory, which has n rows, and INITIAL is always there
abbrev pub CountsFit : Loaded → ℕ → Type 0
CountsFit l n = (l.row_count ≤ n) × (l.rule_count ≤ 64) × (1 ≤ l.condition_count)
    × (l.condition_count ≤ 8)

-- each start row is one of n rows, or 0
abbrev pub StartIn : ℕ → StartRows → Type 0
StartIn n s = (s.inside ≤ n) × (s.at_line_start ≤ n)

abbrev pub StartsIn : Loaded → Type 0
StartsIn l = (c : ℕ) → c < 8 → StartIn l.row_count (start_at l c)

-- and so is each trail start
abbrev pub TrailsIn : Loaded → Type 0
TrailsIn l = (i : ℕ) → i < 64 → (rule_at l i).trail ≤ l.row_count

-- each entry of a row is one of n rows, or 0
abbrev pub LeadsIn : ℕ → Row → Type 0
LeadsIn n r = (b : ℕ) → b < 256 → entry r b ≤ n

abbrev pub RowsLeadIn : Loaded → List Row → Type 0
RowsLeadIn l rs = (k : ℕ) → k < l.row_count → LeadsIn l.row_count (row_at rs k)

-- no row has a mark of a rule past the last of n
abbrev pub MarkedIn : ℕ → Row → Type 0
MarkedIn n r = (r.ends < 2 ^ n) × (r.slashes < 2 ^ n)

abbrev pub MarksIn : Loaded → List Row → Type 0
MarksIn l rs = (k : ℕ) → k < l.row_count → MarkedIn l.rule_count (row_at rs k)

-- a rule, used or not, is active in no condition past the last of n
abbrev pub ActiveIn : ℕ → List ℕ → Type 0
ActiveIn n words = (k : ℕ) → has words k ≡ true → k < n

abbrev pub RulesActiveIn : Loaded → Type 0
RulesActiveIn l = (i : ℕ) → i < 64 → ActiveIn l.condition_count (rule_at l i).conditions.words

-- and none of its steps begins one
abbrev pub step_in : ℕ → Option Step → Bool
step_in n (Some (Begin c)) = nat_lt c n
step_in n _ = true

abbrev pub BeginsIn : ℕ → List (Option Step) → Type 0
BeginsIn n ts = (j : ℕ) → j < 10 → IsTrue (step_in n (slice_index_or ts j None))

abbrev pub RulesBeginIn : Loaded → Type 0
RulesBeginIn l = (i : ℕ) → i < 64 → BeginsIn l.condition_count (rule_at l i).steps

-- the memory names no row, rule or condition that it lacks
abbrev pub IsTable : Memory → Type 0
IsTable m =
    CountsFit m.loaded (length m.rows) × StartsIn m.loaded × TrailsIn m.loaded
    × RowsLeadIn m.loaded m.rows ×
    MarksIn m.loaded m.rows × RulesActiveIn m.loaded × RulesBeginIn m.loaded
