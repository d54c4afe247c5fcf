-- The positions of a rule file in the work memory, seen as the automaton of its rules. The sets
-- from 1,280 on hold, for each byte, the positions that take it; those from 1,536 on what may follow
-- either of two positions that lie 256 apart.
use Rattle.std.specs.Prelude.{◌≡◌, ℕ, zero, suc, ◌+◌, ◌<◌, ◌≤◌, Bool, false, not, ◌&&◌, ◌||◌, List, [], ◌∷◌, length, slice_index}
use Rattle.bits.specs.declared.Bits.{Bits}
use Rattle.bits.specs.Set.{has}
use Rattle.patterns.specs.Positions.{first}
use Rattle.positions.specs.Memory.{Work, member}
use Rattle.grammar.specs.File.{RuleText, rule_size}
use Rattle.table.specs.declared.loaded.Rule.{Rule}
use Rattle.table.specs.declared.loaded.Loaded.{Loaded}
use Rattle.automaton.specs.Sets.{Set, some}
use Rattle.automaton.specs.Automaton.{trail_set, end_mark, slash_mark, leads}
use Rattle.table.specs.Memory.{rule_at}

-- a set by its members, and set k of the work memory
abbrev pub members : Bits 8 → Set
members s = has s.words

abbrev pub set_at : Work → ℕ → Set
set_at w k = member w k

-- the positions that may follow one of s
unfoldable pub behind_of : Work → Set → Set
behind_of m s t = some 512 (λ p. s p && member m (512 + p) t)

-- those of s that take the byte b
abbrev pub live_in : Work → Set → ℕ → Set
live_in m s b p = s p && member m (1280 + b) p

-- where the byte b leads from s
abbrev pub leads_in : Work → Set → ℕ → Set
leads_in m s b = behind_of m (live_in m s b)

-- the rule is active in the condition c, and its `^` is met
abbrev pub live_at : Rule → ℕ → Bool → Bool
live_at r c line = has r.conditions.words c && (not r.anchored || line)

-- the first positions of each rule that is active, of n rules
abbrev pub start_in : Work → Loaded → ℕ → ℕ → Bool → Set
start_in m l n c line t = some n (λ i. live_at (rule_at l i) c line && member m (1024 + i) t)

-- the first positions of rule i
abbrev pub first_set : List RuleText → ℕ → ℕ → Set
first_set [] a i p = false
first_set (q ∷ qs) a zero p = first q.expression (a + 1) p
first_set (q ∷ qs) a (suc i) p = first_set qs (a + rule_size q) i p

-- the work memory has the machine of the rules qs, n of them
pub record Machine (m : Work) (n : ℕ) (qs : List RuleText) : Type 0 where
  pub count : length qs ≡ n
  pub leading : (s : Set) (b : ℕ) → b < 256 → leads_in m s b ≡ leads qs s b
  pub firsts : (i : ℕ) → i < n → set_at m (1024 + i) ≡ first_set qs 0 i
  pub trails : (i : ℕ) → i < n → set_at m (1088 + i) ≡ trail_set qs 0 i
  pub ends : (i : ℕ) → i < n → set_at m (1152 + i) ≡ end_mark qs 0 i
  pub slashes : (i : ℕ) → i < n → set_at m (1216 + i) ≡ slash_mark qs 0 i

-- what may follow one of two positions that lie 256 apart
abbrev pub Paired : Work → Type 0
Paired m = (p t : ℕ) → p < 256 → member m (1536 + p) t ≡ (member m (512 + p) t
    || member m (768 + p) t)

-- for each byte one that is not behind it and that the same positions take
pub record Columns (m : Work) (cs : List ℕ) : Type 0 where
  pub not_behind : (b : ℕ) → b < 256 → slice_index cs b ≤ b
  pub same_takers : (b p : ℕ) → b < 256 → member m (1280 + slice_index cs b) p ≡ member m (1280 + b)
      p
