-- The rows that a loaded table starts from are those of the start sets and of the trail starts.
use Rattle.std.proofs.Common.{◌≡◌, ℕ, suc, ◌+◌, ◌<◌, ◌≤◌, Bool, true, false, cond, ◌&&◌, ltb, List, [], ◌∷◌, length, get_or, replicate, Ok, sym, refl, ap, ◌∙◌, subst, ◌-◌, inl, inr, arith}
use Rattle.std.proofs.lemmas.List.{get_or-take}
use Rattle.std.proofs.lemmas.Bool.{cases_lt, or_left, or_from, and_left, cond-true, cond-false, lt-ltb, le-ltb, false_from_ne_true}
use Rattle.patterns.specs.Positions.{first}
use Rattle.grammar.specs.File.{RuleText, RuleFile, rule_size, rule_file_of}
use Rattle.laws.specs.Limits.{Each, RuleWithin, FileWithin}
use Rattle.laws.proofs.Whole.{limits_kept}
use Rattle.table.specs.declared.loaded.StartRows.{StartRows}
use Rattle.table.specs.Zeros.{no_rule, no_start}
use Rattle.automaton.specs.Sets.{Set, empty}
use Rattle.automaton.specs.Automaton.{live, start_set, trail_set}
use Rattle.automaton.specs.Numbering.{stored, number, none}
use Rattle.automaton.specs.Theorems.{Known, Closed}
use Rattle.automaton.proofs.Members.{empty_from}
use Rattle.automaton.proofs.Meeting.{number_empty}
use Rattle.automaton.proofs.Rows.{met_are_stored}
use Rattle.table.specs.Memory.{Memory, row_at, rule_at, start_at}
use Rattle.table.specs.Readings.{cut, start_row, trail_row}
use Rattle.loader.specs.Load.{sets_of, filled, start_of, trail_of, memory_with}
use Rattle.loader.specs.Held.{RowHolds}
use Rattle.loader.proofs.Exact.{row_in, row_holds, trail_in}
use Rattle.loader.proofs.Built.{filled_at}

-- no rule is active in a condition past the last
module _ (n c : ℕ) (line : Bool) (past : n ≤ c) where
  none_live : (q : RuleText) → RuleWithin n q → live q c line ≡ false
  none_live q w = and_left (q.active c) _ (false_from_ne_true (q.active c) (λ t. let lt : c < n = w.active_known c t in absurd (omega arith)))

  none_starts : (qs : List RuleText) (a p : ℕ) → Each (RuleWithin n) qs → start_set qs a c line p ≡ false
  none_starts [] a p w = refl
  none_starts (q ∷ qs) a p w =
      or_from (live q c line && first q.expression (a + 1) p) (start_set qs (a + rule_size q) c line p)
      (and_left (live q c line) (first q.expression (a + 1) p) (none_live q w.0))
      (none_starts qs (a + rule_size q) p w.1)

-- an accepted file, and memory that it is loaded into: each set that a scan may come to has a row
pub record Ready (file : List ℕ) (f : RuleFile) (rs : List Set) (most : ℕ) (m : Memory) : Type 0 where
  pub within : FileWithin file f
  pub few : length rs ≤ most
  pub closed : Closed f.rules (length f.conditions.names) most rs
  pub rows : (k : ℕ) → k < length rs → RowHolds f.rules rs (get_or rs k none) (row_at m.rows k)
  pub starts : m.loaded.starts ≡ filled (start_of f.rules rs) (length f.conditions.names) 8 no_start
  pub trails : (i : ℕ) → i < length f.rules → (rule_at m.loaded i).trail ≡ trail_of f.rules rs i
  pub rule_count : m.loaded.rule_count ≡ length f.rules
  pub condition_count : m.loaded.condition_count ≡ length f.conditions.names
  pub row_count : m.loaded.row_count ≡ length rs

-- whatever a file is loaded as
pub ready_with : (file : List ℕ) (f : RuleFile) (n : ℕ) → rule_file_of file ≡ Ok f → length (sets_of f n) ≤ n → Ready file f (sets_of f n) n (memory_with f n)
ready_with file f n right few = record {
  within = within;
  few = few;
  closed = met_are_stored f.rules (length f.conditions.names) n;
  rows = λ k lt. subst (RowHolds f.rules rs (get_or rs k none)) (sym (row_in f.rules rs n k lt)) (row_holds f.rules within.rules_64 rs (get_or rs k none));
  starts = refl;
  trails = λ i lt. let e : 0 + i ≡ i = omega arith in trail_in (trail_of f.rules rs) 0 f.rules (replicate (64 - length f.rules) no_rule) i lt ∙ ap (trail_of f.rules rs) e;
  rule_count = refl;
  condition_count = refl;
  row_count = refl;
}
  where
    rs : List Set
    rs = sets_of f n

    within : FileWithin file f
    within = limits_kept file f right

-- and the same without the rows that it does not need
pub ready_cut : {file : List ℕ} {f : RuleFile} {rs : List Set} {most : ℕ} {m : Memory} → Ready file f rs most m → Ready file f rs most (cut m)
ready_cut {f = f} {rs = rs} {m = m} r = record {
  within = r.within;
  few = r.few;
  closed = r.closed;
  rows = λ k lt. subst (RowHolds f.rules rs (get_or rs k none)) (sym (get_or-take m.loaded.row_count m.rows k _ (omega (arith, r.row_count)))) (r.rows k lt);
  starts = r.starts;
  trails = r.trails;
  rule_count = r.rule_count;
  condition_count = r.condition_count;
  row_count = r.row_count;
}

module _ {file : List ℕ} {f : RuleFile} {rs : List Set} {most : ℕ} {m : Memory} (ready : Ready file f rs most m) where
  start_empty : (c : ℕ) (line : Bool) → length f.conditions.names ≤ c → empty (start_set f.rules 0 c line) ≡ true
  start_empty c line past = empty_from (start_set f.rules 0 c line) (λ p lt. none_starts (length f.conditions.names) c line past f.rules 0 p ready.within.each_rule)

  pub start_known : (c : ℕ) (line : Bool) → Known rs (start_set f.rules 0 c line)
  start_known c line = elim (cases_lt c (length f.conditions.names)) [
    | inl here ↦ ready.closed.from_starts c line here
    | inr past ↦ or_left (empty (start_set f.rules 0 c line)) (stored rs (start_set f.rules 0 c line)) (start_empty c line past)
  ]

  start_held : (c : ℕ) → c < length f.conditions.names → start_at m.loaded c ≡ start_of f.rules rs c
  start_held c lt = ap (λ (xs : List StartRows). get_or xs c (record { inside = 0; at_line_start = 0 })) ready.starts ∙ filled_at (start_of f.rules rs) (length f.conditions.names) 8 no_start _ c lt

  pub start_is : (c : ℕ) (line : Bool) → start_row m c line ≡ number rs (start_set f.rules 0 c line)
  start_is c line = elim (cases_lt c (length f.conditions.names)) [
    | inl here ↦
        cond-true (ltb c m.loaded.condition_count) (cond line (start_at m.loaded c).at_line_start (start_at m.loaded c).inside) 0 (lt-ltb c m.loaded.condition_count (omega (arith, ready.condition_count)))
        ∙ ap (λ (s : StartRows). cond line s.at_line_start s.inside) (start_held c here)
        ∙ either line
    | inr past ↦
        cond-false (ltb c m.loaded.condition_count) (cond line (start_at m.loaded c).at_line_start (start_at m.loaded c).inside) 0 (le-ltb c m.loaded.condition_count (omega (arith, ready.condition_count)))
        ∙ sym (number_empty rs (start_set f.rules 0 c line) (start_empty c line past))
  ]
    where
      either : (at : Bool) → cond at (start_of f.rules rs c).at_line_start (start_of f.rules rs c).inside ≡ number rs (start_set f.rules 0 c at)
      either true = refl
      either false = refl

  pub trail_is : (i : ℕ) → i < length f.rules → trail_row m (suc i) ≡ number rs (trail_set f.rules 0 i)
  trail_is i lt =
      cond-true (ltb i m.loaded.rule_count) (rule_at m.loaded i).trail 0 (lt-ltb i m.loaded.rule_count (omega (arith, ready.rule_count)))
      ∙ ready.trails i lt
