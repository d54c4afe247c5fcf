-- What is loaded of a right file, and what is left of one that is turned down.
use Rattle.std.proofs.Common.{◌≡◌, ℕ, ◌<◌, ◌≤◌, true, ◌&&◌, leb, List, length, replicate, Ok, Err, Result, sym, ap, ◌∙◌, subst, arith}
use Rattle.std.proofs.lemmas.Bool.{cond-true, cond-false, le-leb, lt-leb, leb-true, and_parts}
use Rattle.std.proofs.lemmas.List.{length-replicate}
use Rattle.positions.specs.Memory.{Work}
use Rattle.grammar.specs.declared.Fault.{Fault}
use Rattle.grammar.specs.declared.Refusal.TheVariants.{Memory as TooLittle, TooManyRows}
use Rattle.grammar.specs.Outcome.{Out, fault, refused, then}
use Rattle.grammar.specs.File.{RuleFile, rule_file_of}
use Rattle.table.specs.declared.loaded.Row.{Row}
use Rattle.table.specs.declared.loaded.Loaded.{Loaded}
use Rattle.table.specs.Zeros.{no_row, zeros}
use Rattle.table.specs.Memory.{Memory, memory}
use Rattle.table.specs.Readings.{cut}
use Rattle.automaton.proofs.Ordered.{rows_in_order}
use Rattle.loader.specs.declared.rules.Counts.{Counts}
use Rattle.loader.specs.Sections.{FileRead}
use Rattle.laws.specs.Limits.{FileWithin}
use Rattle.laws.proofs.Whole.{limits_kept}
use Rattle.loader.specs.declared.Sizes.{Sizes}
use Rattle.loader.specs.Load.{enough, sets_of, sizes_of, fitted, outcome, all_rows, loaded_of, memory_with, Lists, Loads}
use Rattle.loader.specs.Held.{HoldsRows}
use Rattle.loader.specs.Building.{Read, Built}
use Rattle.loader.proofs.Judged.{grammar_refuses, some_condition}
use Rattle.loader.proofs.Exact.{rows_are, loaded_is}
use Rattle.loader.proofs.ReadAlone.{leaves_zeros, judged}
use Rattle.loader.proofs.Tables.{tables_list}
use Rattle.loader.proofs.Passing.{passes}

module _ (text : List ℕ) (l : Loaded) (rows : List Row) (w : Work) (big : true ≡ enough (length rows) (length w)) (short : length text ≤ 8192) where
  pub room : (1 ≤ length rows) × (length rows ≤ 1024) × (4096 ≤ length w)
  room =
      let p = and_parts (leb 1 (length rows) && leb (length rows) 1024) (leb 4096 (length w)) (sym big) in
      let q = and_parts (leb 1 (length rows)) (leb (length rows) 1024) p.0 in
      (leb-true 1 (length rows) q.0, leb-true (length rows) 1024 q.1, leb-true 4096 (length w) p.1)

  outcome_is : outcome text (length rows) (length w) ≡ then (rule_file_of text) (fitted text (length rows))
  outcome_is = cond-true (enough (length rows) (length w)) (then (rule_file_of text) (fitted text (length rows))) (refused TooLittle 0) (sym big)

  -- zeros are left
  zeros_left : (l' : Loaded) (rows' : List Row) → l' ≡ zeros → rows' ≡ replicate (length rows) no_row → memory l' rows' ≡ memory zeros (replicate (length rows) no_row)
  zeros_left l' rows' z zs = λ i. record { loaded = z i; rows = zs i }

  -- the grammar refuses
  pub loads_refused : (e : Fault) (r : Result Sizes Fault) (l' : Loaded) (rows' : List Row) (w' : Work) → r ≡ Err e → rule_file_of text ≡ Err e → l' ≡ zeros → rows' ≡ replicate (length rows) no_row
      → Loads text (memory l rows) (memory l' rows') w w' r
  loads_refused e r l' rows' w' r-is o z zs = subst (Loads text (memory l rows) (memory l' rows') w w') (sym r-is) (record {
    answer = sym (outcome_is ∙ ap (λ (x : Out RuleFile). then x (fitted text (length rows))) o);
    leaves = leaves_zeros e.refusal (memory l rows) (memory l' rows') (memory zeros (replicate (length rows) no_row)) w w' (grammar_refuses text e (sym (judged text short) ∙ o)) (zeros_left l' rows' z zs);
  })

  module _ (f : RuleFile) (o : rule_file_of text ≡ Ok f) where
    fits_is : outcome text (length rows) (length w) ≡ fitted text (length rows) f
    fits_is = outcome_is ∙ ap (λ (x : Out RuleFile). then x (fitted text (length rows))) o

    -- there are too many rows
    pub loads_full : (e : Fault) (l' : Loaded) (rows' : List Row) (w' : Work) → e ≡ fault TooManyRows (length text) → length rows < length (sets_of f (length rows)) → l' ≡ zeros → rows' ≡ replicate (length rows) no_row
        → Loads text (memory l rows) (memory l' rows') w w' (Err e)
    loads_full e l' rows' w' e-is h z zs = subst (λ (x : Fault). Loads text (memory l rows) (memory l' rows') w w' (Err x)) (sym e-is) (record {
      answer = sym (fits_is ∙ cond-false (leb (length (sets_of f (length rows))) (length rows)) (Ok (sizes_of f (length rows))) (refused TooManyRows (length text)) (lt-leb (length (sets_of f (length rows))) (length rows) h));
      leaves = zeros_left l' rows' z zs;
    })

    -- all fits
    pub loads_built : (n : Sizes) (l' : Loaded) (rows' : List Row) (w' : Work) → n.rules ≡ length f.rules → n.conditions ≡ length f.conditions.names → length rows' ≡ length rows → Built f n.rows l' rows rows'
        → Loads text (memory l rows) (memory l' rows') w w' (Ok n)
    loads_built n l' rows' w' rules-is conditions-is as-many b = record {
      answer = ap Ok sizes_are ∙ sym (fits_is ∙ cond-true (leb (length (sets_of f (length rows))) (length rows)) (Ok (sizes_of f (length rows))) (refused TooManyRows (length text)) (le-leb (length (sets_of f (length rows))) (length rows) few));
      leaves = record {
        says = f;
        right = o;
        loaded = memory_is;
        sound = passes text f n.rows l' rows rows' o b (some_condition text f (sym (judged text short) ∙ o)) as-many;
        lists = subst (λ (m : Memory). Lists f.rules (cut m)) (sym memory_is) (tables_list text f (length rows) o few);
        in_order = rows_in_order f.rules (length f.conditions.names) (length rows) few;
      };
    }
      where
        few : length (sets_of f (length rows)) ≤ length rows
        few = omega (arith, b.count, b.room)

        limits : FileWithin text f
        limits = limits_kept text f o

        memory_is : memory l' rows' ≡ memory_with f (length rows)
        memory_is =
            let loaded-is : l' ≡ loaded_of f (sets_of f (length rows)) = loaded_is f (sets_of f (length rows)) l' rows' limits.rules_64 b.holds in
            let rows-are : rows' ≡ all_rows f.rules (sets_of f (length rows)) (length rows) =
            rows_are f.rules limits.rules_64 (sets_of f (length rows)) rows' (omega arith) b.holds.rows_hold ∙ ap (all_rows f.rules (sets_of f (length rows))) as-many in
            λ i. record { loaded = loaded-is i; rows = rows-are i }

        sizes_are : n ≡ sizes_of f (length rows)
        sizes_are = λ i. record { rules = rules-is i; conditions = conditions-is i; rows = b.count i }

-- what has been read keeps the limits
module _ (text : List ℕ) (l : Loaded) (w : Work) (c : Counts) (h : FileRead (rule_file_of text) w l c) where
  limits : FileWithin text h.file
  limits = limits_kept text h.file h.is

  pub few_positions : c.positions ≤ 512
  few_positions = omega (arith, h.positions, limits.positions_512)

  pub few_rules : l.rule_count ≤ 64
  few_rules = omega (arith, h.holds.rule_count, limits.rules_64)

  pub few_conditions : l.condition_count ≤ 8
  few_conditions = omega (arith, h.holds.condition_count, limits.eight_conditions)

  pub is_read : (rows : List Row) → rows ≡ replicate (length rows) no_row → Read h.file w c.positions l rows
  is_read rows z = record { laid = h.laid; used = h.positions ∙ limits.counts; holds = h.holds; free = z }

pub as_many_rows : (rows zs : List Row) → zs ≡ replicate (length rows) no_row → length zs ≡ length rows
as_many_rows rows zs e = ap length e ∙ length-replicate (length rows) no_row

-- rows of another memory that is as long
pub built_in : (f : RuleFile) (n : ℕ) (l : Loaded) (rows zs rows' : List Row) → length zs ≡ length rows → Built f n l zs rows' → Built f n l rows rows'
built_in f n l rows zs rows' e b = record {
  count = b.count ∙ ap (λ (m : ℕ). length (sets_of f m)) e;
  room = omega (arith, b.room);
  holds = subst (λ (m : ℕ). HoldsRows f (sets_of f m) l rows') e b.holds;
  marked = b.marked;
}

pub own_zeros : (rows zs : List Row) → zs ≡ replicate (length rows) no_row → zs ≡ replicate (length zs) no_row
own_zeros rows zs e = e ∙ ap (λ (m : ℕ). replicate m no_row) (sym (as_many_rows rows zs e))

pub full_in : (f : RuleFile) (rows zs : List Row) → length zs ≡ length rows → length zs < length (sets_of f (length zs)) → length rows < length (sets_of f (length rows))
full_in f rows zs e h = subst (λ (m : ℕ). m < length (sets_of f m)) e h
