-- Memory of which each field is told is the memory that the file is read as, or loaded as.
use Rattle.std.proofs.Common.{◌≡◌, ℕ, zero, suc, ◌+◌, ◌-◌, ◌<◌, ◌≤◌, false, List, [], ◌∷◌, ◌++◌, map, length, get_or, replicate, sym, ap, ◌∙◌, inl, inr, arith, length-append}
use Rattle.std.specs.List.{range_with_len}
use Rattle.std.proofs.Math.ListN.{get_or-append}
use Rattle.std.proofs.lemmas.Bool.{cases_lt, and_right}
use Rattle.std.proofs.lemmas.List.{ext_get_or, get_or-map, get_or-append_right, get_or-replicate, length-map, length-replicate}
use Rattle.std.proofs.lemmas.List.FromFn.{get_or-map-range_with_len, length-map-range_with_len}
use Rattle.bits.proofs.Made.{word_is, word_members, words_are}
use Rattle.grammar.specs.File.{RuleText, RuleFile}
use Rattle.table.specs.declared.loaded.Row.{Row}
use Rattle.table.specs.declared.loaded.Rule.{Rule}
use Rattle.table.specs.declared.loaded.Loaded.{Loaded}
use Rattle.table.specs.Zeros.{no_row, no_rule}
use Rattle.table.specs.Memory.{entries, row_at}
use Rattle.automaton.specs.Sets.{Set}
use Rattle.automaton.specs.Automaton.{end_mark, slash_mark, leads, meets}
use Rattle.automaton.specs.Numbering.{number, none}
use Rattle.automaton.proofs.Members.{meets_false}
use Rattle.loader.specs.Loaded.{rule_of, rules_from, read_of}
use Rattle.loader.specs.Load.{row_of, all_rows, trail_of, loaded_of}
use Rattle.loader.specs.Held.{RuleHolds, RulesHold, Holds, RowHolds, RowsHold, HoldsRows}
use Rattle.loader.proofs.HeldRules.{places, held_few}
use Rattle.loader.proofs.Rows.{end_past, slash_past}
use Rattle.loader.proofs.Built.{filled_at, trail_at}

-- records with the same fields are the same
row_by_fields : (r r' : Row) → r.next ≡ r'.next → r.ends ≡ r'.ends → r.slashes ≡ r'.slashes → r ≡ r'
row_by_fields r r' n e s = λ i. record { next = n i; ends = e i; slashes = s i }

rule_by_fields : (r r' : Rule) → r.conditions.words ≡ r'.conditions.words → r.anchored ≡ r'.anchored → r.trail ≡ r'.trail → r.steps ≡ r'.steps → r ≡ r'
rule_by_fields r r' c a t s = λ i. record { conditions = record { words = c i }; anchored = a i; trail = t i; steps = s i }

loaded_by_fields : (l l' : Loaded) → l.rules ≡ l'.rules → l.starts ≡ l'.starts → l.rule_count ≡ l'.rule_count → l.condition_count ≡ l'.condition_count → l.row_count ≡ l'.row_count → l ≡ l'
loaded_by_fields l l' r s a b c = λ i. record { rules = r i; starts = s i; rule_count = a i; condition_count = b i; row_count = c i }

-- ---- rules
-- what is read past the last place
abbrev pub no_more : Rule
no_more = record { conditions = record { words = [] }; anchored = false; trail = 0; steps = [] }

rule_is : (t : ℕ) (q : RuleText) (r : Rule) → RuleHolds r q → r.trail ≡ t → r ≡ rule_of t q
rule_is t q r h e =
    rule_by_fields r (rule_of t q) (words_are 1 q.active r.conditions.words h.whole (λ k lt. h.active k)) h.anchored e h.steps

-- from rule i on, and zeros behind them
rules_are : (trail : ℕ → ℕ) (d : Rule) (i : ℕ) (qs : List RuleText) (rs : List Rule) → RulesHold rs qs
    → ((j : ℕ) → j < length qs → (get_or rs j d).trail ≡ trail (i + j)) → rs ≡ rules_from trail i qs ++ replicate (length rs - length qs) no_rule
rules_are trail d i [] rs h t = let e : length rs ≡ length rs - 0 = omega arith in h ∙ ap (λ (n : ℕ). replicate n no_rule) e
rules_are trail d i (q ∷ qs) [] h t = absurd h
rules_are trail d i (q ∷ qs) (r ∷ rs) h t =
    let here : i + 0 ≡ i = omega arith in
    let first : r ≡ rule_of (trail i) q = rule_is (trail i) q r h.0 (t 0 (omega arith) ∙ ap trail here) in
    let others : rs ≡ rules_from trail (suc i) qs ++ replicate (length rs - length qs) no_rule =
    rules_are trail d (suc i) qs rs h.1 (λ j lt. let e : i + suc j ≡ suc i + j = omega arith in t (suc j) (omega arith) ∙ ap trail e) in
    let many : length rs - length qs ≡ suc (length rs) - suc (length qs) = omega arith in
    (λ x. first x ∷ others x) ∙ ap (λ (n : ℕ). rule_of (trail i) q ∷ (rules_from trail (suc i) qs ++ replicate n no_rule)) many

-- the trail start of each in its place
pub trail_in : (trail : ℕ → ℕ) (i : ℕ) (qs : List RuleText) (rs : List Rule) (j : ℕ) → j < length qs → (get_or (rules_from trail i qs ++ rs) j no_more).trail ≡ trail (i + j)
trail_in trail i [] rs j lt = absurd (omega arith)
trail_in trail i (q ∷ qs) rs zero lt = let e : i ≡ i + 0 = omega arith in ap trail e
trail_in trail i (q ∷ qs) rs (suc j) lt = let e : suc i + j ≡ i + suc j = omega arith in trail_in trail (suc i) qs rs j (omega arith) ∙ ap trail e

-- ---- a file that is read
pub read_is : (f : RuleFile) (l : Loaded) → Holds l f → l ≡ read_of f
read_is f l h =
    loaded_by_fields l (read_of f)
    (rules_are (λ i. 0) no_more 0 f.rules l.rules h.rules trailless
    ∙ ap (λ (n : ℕ). rules_from (λ i. 0) 0 f.rules ++ replicate (n - length f.rules) no_rule) all)
    h.starts h.rule_count h.condition_count h.row_count
  where
    all : length l.rules ≡ 64
    all = places l h.trails

    trailless : (j : ℕ) → j < length f.rules → (get_or l.rules j no_more).trail ≡ 0
    trailless j lt = sym (trail_at l j) ∙ ap (λ (ts : List ℕ). get_or ts j 0) h.trails ∙ get_or-replicate 64 j 0 0 (omega (arith, all, held_few l.rules f.rules h.rules))

-- ---- rows
-- the row of each set in its place
pub row_in : (qs : List RuleText) (rs : List Set) (n k : ℕ) → k < length rs → row_at (all_rows qs rs n) k ≡ row_of qs rs (get_or rs k none)
row_in qs rs n k lt =
    get_or-append (map (row_of qs rs) rs) (replicate (n - length rs) no_row) _ k (omega (arith, length-map rs (row_of qs rs)))
    ∙ get_or-map (row_of qs rs) rs k none _ lt

module _ (qs : List RuleText) (few : length qs ≤ 64) (rs : List Set) where
  unmarked : (s : Set) (i : ℕ) → 64 ≤ i → meets s (end_mark qs 0 i) ≡ false
  unmarked s i past = meets_false s (end_mark qs 0 i) (λ p lt. and_right (s p) (end_mark qs 0 i p) (end_past qs 0 i p (omega arith)))

  unslashed : (s : Set) (i : ℕ) → 64 ≤ i → meets s (slash_mark qs 0 i) ≡ false
  unslashed s i past = meets_false s (slash_mark qs 0 i) (λ p lt. and_right (s p) (slash_mark qs 0 i p) (slash_past qs 0 i p (omega arith)))

  abbrev to : Set → ℕ → ℕ
  to s b = number rs (leads qs s b)

  row_is : (s : Set) (r : Row) → RowHolds qs rs s r → r ≡ row_of qs rs s
  row_is s r h =
      row_by_fields r (row_of qs rs s)
      (ext_get_or 0 r.next (entries (to s)) (h.width ∙ sym (length-map-range_with_len (to s) 0 256)) same)
      (word_is (λ i. meets s (end_mark qs 0 i)) (unmarked s) r.ends h.ends)
      (word_is (λ i. meets s (slash_mark qs 0 i)) (unslashed s) r.slashes h.slashes)
    where
      same : (b : ℕ) → b < length r.next → get_or r.next b 0 ≡ get_or (entries (to s)) b 0
      same b lt =
          let small : b < 256 = omega (arith, h.width) in
          h.next b small ∙ sym (get_or-map-range_with_len (to s) 0 256 b b 0 small (omega arith))

  -- and that row is so
  pub row_holds : (s : Set) → RowHolds qs rs s (row_of qs rs s)
  row_holds s = record {
    width = length-map-range_with_len (to s) 0 256;
    next = λ b lt. get_or-map-range_with_len (to s) 0 256 b b 0 lt (omega arith);
    ends = word_members (λ i. meets s (end_mark qs 0 i)) (unmarked s);
    slashes = word_members (λ i. meets s (slash_mark qs 0 i)) (unslashed s);
  }

  pub rows_are : (rows : List Row) → length rs ≤ length rows → RowsHold qs rs rows → rows ≡ all_rows qs rs (length rows)
  rows_are rows room h =
      ext_get_or d rows (all_rows qs rs (length rows))
      (omega (arith, front, length-append (map (row_of qs rs) rs) (replicate (length rows - length rs) no_row), length-replicate (length rows - length rs) no_row))
      same
    where
      d : Row
      d = record { next = []; ends = 0; slashes = 0 }

      front : length (map (row_of qs rs) rs) ≡ length rs
      front = length-map rs (row_of qs rs)

      same : (k : ℕ) → k < length rows → get_or rows k d ≡ get_or (all_rows qs rs (length rows)) k d
      same k lt = elim (cases_lt k (length rs)) [
        | inl less ↦
            row_is (get_or rs k none) (get_or rows k d) (h.each k less)
            ∙ sym (row_in qs rs (length rows) k less)
        | inr past ↦
            h.behind k past lt
            ∙ sym (get_or-append_right (map (row_of qs rs) rs) (replicate (length rows - length rs) no_row) (length rs) k d front past
            ∙ get_or-replicate (length rows - length rs) (k - length rs) no_row d (omega arith))
      ]

-- ---- a file that is loaded
pub loaded_is : (f : RuleFile) (rs : List Set) (l : Loaded) (rows : List Row) → length f.rules ≤ 64 → HoldsRows f rs l rows → l ≡ loaded_of f rs
loaded_is f rs l rows few h =
    loaded_by_fields l (loaded_of f rs)
    (rules_are (trail_of f.rules rs) no_more 0 f.rules l.rules h.rules trailing
    ∙ ap (λ (n : ℕ). rules_from (trail_of f.rules rs) 0 f.rules ++ replicate (n - length f.rules) no_rule) all)
    h.starts h.rule_count h.condition_count h.row_count
  where
    all : length l.rules ≡ 64
    all =
        sym (length-map l.rules (λ (r : Rule). r.trail)) ∙ ap length h.trails
        ∙ omega (arith, length-append (map (trail_of f.rules rs) (range_with_len 0 (length f.rules))) (replicate (64 - length f.rules) 0), length-map-range_with_len (trail_of f.rules rs) 0 (length f.rules), length-replicate {A = ℕ} (64 - length f.rules) 0)

    trailing : (j : ℕ) → j < length f.rules → (get_or l.rules j no_more).trail ≡ trail_of f.rules rs (0 + j)
    trailing j lt = let e : j ≡ 0 + j = omega arith in sym (trail_at l j) ∙ ap (λ (ts : List ℕ). get_or ts j 0) h.trails ∙ filled_at (trail_of f.rules rs) (length f.rules) 64 0 0 j lt ∙ ap (trail_of f.rules rs) e
