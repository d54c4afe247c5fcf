-- What is loaded passes the check before take up.
use Rattle.std.proofs.Common.{◌≡◌, ℕ, zero, suc, ◌-◌, ◌<◌, ◌≤◌, true, false, IsTrue, List, [], ◌∷◌, ◌++◌, map, length, get_or, replicate, Some, None, Option, Ok, sym, refl, ap, ◌∙◌, subst, inl, inr, arith}
use Rattle.std.proofs.lemmas.Bool.{cases_lt, lt-ltb}
use Rattle.grammar.specs.declared.Step.{Step}
use Rattle.grammar.specs.declared.Step.TheVariants.{Echo, Mark, Begin, More, Less, Reject}
use Rattle.grammar.specs.File.{RuleText, RuleFile, rule_file_of}
use Rattle.table.specs.declared.loaded.Row.{Row}
use Rattle.table.specs.declared.loaded.Rule.{Rule}
use Rattle.table.specs.declared.loaded.StartRows.{StartRows}
use Rattle.table.specs.declared.loaded.Loaded.{Loaded}
use Rattle.table.specs.Zeros.{no_rule, no_start}
use Rattle.loader.specs.Held.{RuleHolds, RulesHold, trails_of}
use Rattle.laws.specs.Limits.{Each, StepWithin, RuleWithin, FileWithin}
use Rattle.laws.proofs.Whole.{limits_kept}
use Rattle.automaton.specs.Sets.{Set}
use Rattle.automaton.specs.Automaton.{start_set, trail_set, leads}
use Rattle.automaton.specs.Numbering.{none}
use Rattle.automaton.specs.Theorems.{Closed}
use Rattle.automaton.proofs.Rows.{met_are_stored, entries_within}
use Rattle.table.specs.Memory.{row_at, rule_at, start_at, StartIn, MarkedIn, ActiveIn, step_in, BeginsIn, IsTable, memory}
use Rattle.table.proofs.Active.{none_active}
use Rattle.table.proofs.Kept.{no_rule_inactive, no_rule_begins}
use Rattle.loader.specs.Load.{sets_of, start_of, trail_of}
use Rattle.loader.specs.Building.{Built}
use Rattle.loader.proofs.Built.{filled_at, filled_behind, trail_at}

-- steps that begin only conditions that there are
one_begins : (n : ℕ) (t : Step) → StepWithin n t → IsTrue (step_in n (Some t))
one_begins n Echo h = refl
one_begins n (Mark k) h = refl
one_begins n (Begin c) h = lt-ltb c n h
one_begins n More h = refl
one_begins n (Less k) h = refl
one_begins n Reject h = refl

none_begins : (n m j : ℕ) → IsTrue (step_in n (get_or (replicate m None) j None))
none_begins n zero j = refl
none_begins n (suc m) zero = refl
none_begins n (suc m) (suc j) = none_begins n m j

steps_begin : (n m : ℕ) (ts : List Step) → Each (StepWithin n) ts → (j : ℕ) → IsTrue (step_in n (get_or (map Some ts ++ replicate m None) j None))
steps_begin n m [] h j = none_begins n m j
steps_begin n m (t ∷ ts) h zero = one_begins n t h.0
steps_begin n m (t ∷ ts) h (suc j) = steps_begin n m ts h.1 j

-- rules that are held are active only in conditions that there are, and begin no other
pub record Tame (n : ℕ) (r : Rule) : Type 0 where
  pub active : ActiveIn n r.conditions.words
  pub begins : BeginsIn n r.steps

one_tame : (n : ℕ) (r : Rule) (q : RuleText) → RuleHolds r q → RuleWithin n q → Tame n r
one_tame n r q h w = record {
  active = λ k t. w.active_known k (sym (h.active k) ∙ t);
  begins = λ j lt. subst (λ (ts : List (Option Step)). IsTrue (step_in n (get_or ts j None))) (sym h.steps) (steps_begin n (10 - length q.steps) q.steps w.each_step j);
}

-- and so are those behind them, which are zeros
unused_tame : (n : ℕ) → Tame n no_rule
unused_tame n = record { active = no_rule_inactive n; begins = no_rule_begins n }

all_unused : (n m : ℕ) (d : Rule) → Tame n d → (i : ℕ) → Tame n (get_or (replicate m no_rule) i d)
all_unused n zero d past i = past
all_unused n (suc m) d past zero = unused_tame n
all_unused n (suc m) d past (suc i) = all_unused n m d past i

each_tame : (n : ℕ) (rs : List Rule) (qs : List RuleText) (d : Rule) → Tame n d → RulesHold rs qs → Each (RuleWithin n) qs → (i : ℕ) → Tame n (get_or rs i d)
each_tame n rs [] d past h w i = subst (λ (xs : List Rule). Tame n (get_or xs i d)) (sym h) (all_unused n (length rs) d past i)
each_tame n [] (q ∷ qs) d past h w i = absurd h
each_tame n (r ∷ rs) (q ∷ qs) d past h w zero = one_tame n r q h.0 w.0
each_tame n (r ∷ rs) (q ∷ qs) d past h w (suc i) = each_tame n rs qs d past h.1 w.1 i

no_start_in : (n : ℕ) → StartIn n no_start
unfolding no_start
no_start_in n = (omega arith, omega arith)

module _ (text : List ℕ) (f : RuleFile) (n : ℕ) (l : Loaded) (rows rows' : List Row) (o : rule_file_of text ≡ Ok f) (b : Built f n l rows rows') where
  abbrev all : List Set
  all = sets_of f (length rows)

  limits : FileWithin text f
  limits = limits_kept text f o

  closed : Closed f.rules (length f.conditions.names) (length rows) all
  closed = met_are_stored f.rules (length f.conditions.names) (length rows)

  count : l.row_count ≡ length all
  count = b.holds.row_count

  few : length all ≤ length rows
  few = omega (arith, b.count, b.room)

  start_in : (c : ℕ) → c < 8 → StartIn l.row_count (start_at l c)
  start_in c lt = elim (cases_lt c (length f.conditions.names)) [
    | inl less ↦
        subst (StartIn l.row_count) (sym (ap (λ (ss : List StartRows). get_or ss c zeros) b.holds.starts ∙ filled_at (start_of f.rules all) (length f.conditions.names) 8 no_start zeros c less))
        (omega (arith, count, entries_within all (start_set f.rules 0 c false) (closed.from_starts c false less)), omega (arith, count, entries_within all (start_set f.rules 0 c true) (closed.from_starts c true less)))
    | inr past ↦
        subst (StartIn l.row_count) (sym (ap (λ (ss : List StartRows). get_or ss c zeros) b.holds.starts ∙ filled_behind (start_of f.rules all) (length f.conditions.names) 8 no_start zeros c past lt))
        (no_start_in l.row_count)
  ]
    where
      zeros : StartRows
      zeros = record { inside = 0; at_line_start = 0 }

  trail_in : (i : ℕ) → i < 64 → (rule_at l i).trail ≤ l.row_count
  trail_in i lt =
      let at : get_or (trails_of l) i 0 ≡ (rule_at l i).trail = trail_at l i in
      elim (cases_lt i (length f.rules)) [
        | inl less ↦ omega (arith, at, count, ap (λ (ts : List ℕ). get_or ts i 0) b.holds.trails, filled_at (trail_of f.rules all) (length f.rules) 64 0 0 i less, entries_within all (trail_set f.rules 0 i) (closed.from_trails i less))
        | inr past ↦ omega (arith, at, ap (λ (ts : List ℕ). get_or ts i 0) b.holds.trails, filled_behind (trail_of f.rules all) (length f.rules) 64 0 0 i past lt)
      ]

  leads_in : (k : ℕ) → k < l.row_count → (c : ℕ) → c < 256 → get_or (row_at rows' k).next c 0 ≤ l.row_count
  leads_in k lt c small =
      let here : k < length all = omega (arith, count) in
      omega (arith, count, (b.holds.rows_hold.each k here).next c small, entries_within all (leads f.rules (get_or all k none) c) (closed.from_rows few k c here small))

  marked_in : (k : ℕ) → k < l.row_count → MarkedIn l.rule_count (row_at rows' k)
  marked_in k lt = subst (λ (m : ℕ). MarkedIn m (row_at rows' k)) (sym b.holds.rule_count) (b.marked k (omega (arith, count, b.count)))

  tame : (i : ℕ) → Tame l.condition_count (rule_at l i)
  tame i = subst (λ (m : ℕ). Tame m (rule_at l i)) (sym b.holds.condition_count) (each_tame (length f.conditions.names) l.rules f.rules _ (record { active = none_active (length f.conditions.names); begins = λ j lt. refl }) b.holds.rules limits.each_rule i)

  pub passes : 1 ≤ length f.conditions.names → length rows' ≡ length rows → IsTable (memory l rows')
  passes some as-many = (
    (omega (arith, count, few), omega (arith, b.holds.rule_count, limits.rules_64), omega (arith, b.holds.condition_count), omega (arith, b.holds.condition_count, limits.eight_conditions)),
    start_in,
    trail_in,
    leads_in,
    marked_in,
    (λ i lt. (tame i).active),
    (λ i lt. (tame i).begins),
  )
