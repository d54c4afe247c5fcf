-- What is built is what the file has: its starts, its trail starts and its rows.
use Rattle.std.proofs.Common.{◌≡◌, ℕ, suc, ◌-◌, ◌<◌, ◌≤◌, false, List, [], map, length, get_or, replicate, take, sym, refl, ap, ◌∙◌, subst, inl, inr, arith, length-append}
use lib.ListN.{get_or-append}
use Rattle.std.specs.List.{range_with_len}
use Rattle.std.proofs.Math.ListN as math
use Rattle.std.proofs.lemmas.Bool.{cases_lt}
use Rattle.std.proofs.lemmas.List.{ext_get_or, get_or-append_right, get_or-replicate, length-replicate, length-map}
use Rattle.std.proofs.lemmas.List.FromFn.{get_or-map-range_with_len, length-map-range_with_len}
use Rattle.positions.specs.Memory.{Work}
use Rattle.grammar.specs.File.{RuleText, RuleFile}
use Rattle.table.specs.declared.loaded.Row.{Row}
use Rattle.table.specs.declared.loaded.Rule.{Rule}
use Rattle.table.specs.declared.loaded.StartRows.{StartRows}
use Rattle.table.specs.declared.loaded.Loaded.{Loaded}
use Rattle.table.specs.Zeros.{no_row, no_start, zeros}
use Rattle.loader.specs.Held as rulefile
use Rattle.loader.specs.Held.{RulesHold, trails_of, RowsHold}
use Rattle.loader.specs.Laid.{RulesLaid}
use Rattle.loader.proofs.HeldRules.{places}
use Rattle.automaton.specs.Sets.{Set}
use Rattle.automaton.specs.Numbering.{meet_all, starts, trails, grown, row_sets}
use Rattle.automaton.proofs.Meeting.{Front, front_trans, front_length, meet_all_append, meet_all_front, grown_front}
use Rattle.table.specs.Memory.{row_at, rule_at, start_at, MarkedIn}
use Rattle.loader.specs.Load.{sets_of, filled, start_of, trail_of}
use Rattle.loader.specs.Machine.{Machine}
use Rattle.loader.specs.Building.{OnlyStarts, StartsWritten, OnlyTrails, TrailsWritten, AllWritten, Read, Built}
use Rattle.loader.proofs.MachineRules.{laid_in_front}
use Rattle.loader.proofs.Entering.{front_number}
use Rattle.loader.proofs.Starting.{start_of_more}

-- a list of n places by a rule, and the same behind them
module _ {X : Type 0} (at : ℕ → X) (n all : ℕ) (zero d : X) where
  filled_front : length (map at (range_with_len 0 n)) ≡ n
  filled_front = length-map-range_with_len at 0 n

  pub filled_at : (k : ℕ) → k < n → get_or (filled at n all zero) k d ≡ at k
  filled_at k lt = get_or-append (map at (range_with_len 0 n)) (replicate (all - n) zero) d k (omega (arith, filled_front)) ∙ get_or-map-range_with_len at 0 n k k d lt (omega arith)

  pub filled_behind : (k : ℕ) → n ≤ k → k < all → get_or (filled at n all zero) k d ≡ zero
  filled_behind k le lt = get_or-append_right (map at (range_with_len 0 n)) (replicate (all - n) zero) n k d filled_front le ∙ get_or-replicate (all - n) (k - n) zero d (omega arith)

  filled_is : (xs : List X) → n ≤ all → length xs ≡ all → ((k : ℕ) → k < n → get_or xs k d ≡ at k) → ((k : ℕ) → n ≤ k → k < all → get_or xs k d ≡ zero) → xs ≡ filled at n all zero
  filled_is xs le l f g = ext_get_or d xs (filled at n all zero) (omega (arith, l, filled_front, length-append (map at (range_with_len 0 n)) (replicate (all - n) zero), length-replicate (all - n) zero)) same
    where
      same : (k : ℕ) → k < length xs → get_or xs k d ≡ get_or (filled at n all zero) k d
      same k lt = elim (cases_lt k n) [
        | inl less ↦ f k less ∙ sym (filled_at k less)
        | inr past ↦ g k past (omega (arith, l)) ∙ sym (filled_behind k past (omega (arith, l)))
      ]

zero_starts : zeros.starts ≡ replicate 8 no_start
unfolding zeros
zero_starts = refl

pub trail_at : (l : Loaded) (i : ℕ) → get_or (trails_of l) i 0 ≡ (rule_at l i).trail
trail_at l i = math.get_or-map (λ (r : Rule). r.trail) l.rules i record { conditions = record { words = [] }; anchored = false; trail = 0; steps = [] }

row_sets_is : (qs : List RuleText) (cs most : ℕ) → row_sets qs cs most ≡ grown qs most (suc most) 0 (meet_all (meet_all [] (starts qs 0 cs)) (trails qs 0 (length qs)))
unfolding row_sets
row_sets_is qs cs most = ap (grown qs most (suc most) 0) (meet_all_append [] (starts qs 0 cs) (trails qs 0 (length qs)))

-- the machine and the rules, as the loaded memory is written
pub machine_first : (f : RuleFile) (m : Work) (l : Loaded) → rulefile.Holds l f → (length f.rules ≤ 64 → Machine m (length f.rules) f.rules) → l.rule_count ≤ 64 → Machine m l.rule_count f.rules
machine_first f m l h a few = subst (λ (n : ℕ). Machine m n f.rules) (sym h.rule_count) (a (omega (arith, h.rule_count)))

pub machine_next : (qs : List RuleText) (m : Work) (l l' : Loaded) → l'.rule_count ≡ l.rule_count → Machine m l.rule_count qs → Machine m l'.rule_count qs
machine_next qs m l l' e a = subst (λ (n : ℕ). Machine m n qs) (sym e) a

pub rules_next : (qs : List RuleText) (l l' : Loaded) → l'.rules ≡ l.rules → RulesHold l.rules qs → RulesHold l'.rules qs
rules_next qs l l' e h = subst (λ (rs : List Rule). RulesHold rs qs) (sym e) h

-- the machine is in the first sets
pub read_in_front : (f : RuleFile) (w m : Work) (n positions : ℕ) (l : Loaded) (rows : List Row) → m ≡ take n w → 1280 ≤ n → n ≤ length w → l.rule_count ≤ 64 → Read f w positions l rows → Read f m positions l rows
read_in_front f w m n positions l rows e big within few r = record {
  laid = subst (λ (v : Work). RulesLaid v 0 0 f.rules) (sym e) (laid_in_front w n f.rules big within (omega (arith, r.holds.rule_count)) r.laid);
  used = r.used;
  holds = r.holds;
  free = r.free;
}

module _ (f : RuleFile) (l₀ : Loaded) (rows₀ : List Row) (held : rulefile.Holds l₀ f) where
  abbrev qs : List RuleText
  qs = f.rules

  abbrev most : ℕ
  most = length rows₀

  abbrev all : List Set
  all = sets_of f most

  all_is : all ≡ grown qs most (suc most) 0 (meet_all (meet_all [] (starts qs 0 l₀.condition_count)) (trails qs 0 (length qs)))
  all_is = row_sets_is qs (length f.conditions.names) most
      ∙ ap (λ (n : ℕ). grown qs most (suc most) 0 (meet_all (meet_all [] (starts qs 0 n)) (trails qs 0 (length qs)))) (sym held.condition_count)

  front_all : (us : List Set) → us ≡ meet_all (meet_all [] (starts qs 0 l₀.condition_count)) (trails qs 0 (length qs)) → Front us all
  front_all us e = subst (Front us) (sym (all_is ∙ ap (grown qs most (suc most) 0) (sym e))) (grown_front qs most (suc most) 0 us)

  -- there is no room for the starts, for the trail starts, for what is met behind them
  pub full_starts : (n : ℕ) → n ≡ most → n < length (meet_all [] (starts qs 0 l₀.condition_count)) → most < length all
  full_starts n e h =
      let us : List Set = meet_all [] (starts qs 0 l₀.condition_count) in
      let vs : List Set = meet_all us (trails qs 0 (length qs)) in
      omega (arith, front_length us vs (meet_all_front us (trails qs 0 (length qs))), front_length vs all (front_all vs refl))

  module _ (l₁ : Loaded) (only₁ : OnlyStarts l₀ l₁) (us : List Set) (h₁ : StartsWritten qs l₀.condition_count us l₀ l₁) where
    trails_are : (vs : List Set) → vs ≡ meet_all us (trails qs 0 (length qs)) → vs ≡ meet_all (meet_all [] (starts qs 0 l₀.condition_count)) (trails qs 0 (length qs))
    trails_are vs e = e ∙ ap (λ (xs : List Set). meet_all xs (trails qs 0 (length qs))) h₁.rows

    pub full_trails : (n : ℕ) → n ≡ most → n < length (meet_all us (trails qs 0 (length qs))) → most < length all
    full_trails n e h =
        let vs : List Set = meet_all us (trails qs 0 (length qs)) in
        omega (arith, front_length vs all (front_all vs (trails_are vs refl)))

    module _ (l₂ : Loaded) (only₂ : OnlyTrails l₁ l₂) (vs : List Set) (h₂ : TrailsWritten qs us (length qs) vs l₁ l₂) where
      grown_is : grown qs most (suc most) 0 vs ≡ all
      grown_is = ap (grown qs most (suc most) 0) (trails_are vs h₂.rows) ∙ sym all_is

      pub full_rows : most < length (grown qs most (suc most) 0 vs) → most < length all
      full_rows h = omega (arith, ap length grown_is)

      module _ (n : ℕ) (n-is : n ≡ length qs) (ws : List Set) (rows' : List Row) (h₃ : AllWritten qs n vs ws rows₀ rows') where
        all_rows : ws ≡ all
        all_rows = h₃.all ∙ grown_is

        front₂ : Front vs ws
        front₂ = subst (Front vs) (sym h₃.all) (grown_front qs most (suc most) 0 vs)

        front₁ : Front us ws
        front₁ = front_trans us vs ws (subst (Front us) (sym h₂.rows) (meet_all_front us (trails qs 0 (length qs)))) front₂

        start_is : (c : ℕ) → c < length f.conditions.names → start_at l₂ c ≡ start_of qs all c
        start_is c lt =
            let less : c < l₀.condition_count = omega (arith, held.condition_count) in
            ap (λ (ss : List StartRows). get_or ss c record { inside = 0; at_line_start = 0 }) only₂.starts
            ∙ h₁.each c less
            ∙ start_of_more qs us ws c front₁ (λ line. h₁.known c line less)
            ∙ ap (λ (xs : List Set). start_of qs xs c) all_rows

        no_start_is : (c : ℕ) → length f.conditions.names ≤ c → c < 8 → start_at l₂ c ≡ no_start
        no_start_is c le lt =
            ap (λ (ss : List StartRows). get_or ss c record { inside = 0; at_line_start = 0 }) only₂.starts
            ∙ h₁.behind c (omega (arith, held.condition_count))
            ∙ ap (λ (ss : List StartRows). get_or ss c record { inside = 0; at_line_start = 0 }) (held.starts ∙ zero_starts)
            ∙ get_or-replicate 8 c no_start _ lt

        starts_are : length f.conditions.names ≤ 8 → l₂.starts ≡ filled (start_of qs all) (length f.conditions.names) 8 no_start
        starts_are le = filled_is (start_of qs all) (length f.conditions.names) 8 no_start record { inside = 0; at_line_start = 0 } l₂.starts le
            (ap length only₂.starts ∙ only₁.as_many ∙ ap length (held.starts ∙ zero_starts) ∙ length-replicate 8 no_start) start_is no_start_is

        trail_is : (i : ℕ) → i < length qs → get_or (trails_of l₂) i 0 ≡ trail_of qs all i
        trail_is i lt = trail_at l₂ i ∙ h₂.each i lt ∙ sym (front_number vs ws front₂ _ (h₂.known i lt)) ∙ ap (λ (xs : List Set). trail_of qs xs i) all_rows

        no_trail_is : (i : ℕ) → length qs ≤ i → i < 64 → get_or (trails_of l₂) i 0 ≡ 0
        no_trail_is i le lt =
            trail_at l₂ i ∙ h₂.behind i le
            ∙ ap (λ (rs : List Rule). (get_or rs i record { conditions = record { words = [] }; anchored = false; trail = 0; steps = [] }).trail) only₁.rules
            ∙ sym (trail_at l₀ i) ∙ ap (λ (ts : List ℕ). get_or ts i 0) held.trails ∙ get_or-replicate 64 i 0 0 lt

        trails_is : length qs ≤ 64 → trails_of l₂ ≡ filled (trail_of qs all) (length qs) 64 0
        trails_is le = filled_is (trail_of qs all) (length qs) 64 0 0 (trails_of l₂) le
            (length-map l₂.rules (λ (r : Rule). r.trail) ∙ only₂.as_many ∙ ap length only₁.rules ∙ places l₀ held.trails) trail_is no_trail_is

        rows_are : length rows' ≡ most → rows₀ ≡ replicate most no_row → RowsHold qs all rows'
        rows_are l z = subst (λ (xs : List Set). RowsHold qs xs rows') all_rows (record {
          each = λ k lt. (h₃.written.each k lt).holds;
          behind = λ k le lt. h₃.written.behind k le ∙ ap (λ (rs : List Row). row_at rs k) z ∙ get_or-replicate most k no_row _ (omega (arith, l));
        })

        pub built : (count : ℕ) → count ≡ length ws → count ≤ most → length f.conditions.names ≤ 8 → length qs ≤ 64 → length rows' ≡ most → rows₀ ≡ replicate most no_row
            → Built f count (record l₂ { row_count = count }) rows₀ rows'
        built count e room few-conditions few-rules l z = record {
          count = e ∙ ap length all_rows;
          room = room;
          holds = record {
            rules = h₂.rules;
            starts = starts_are few-conditions;
            trails = trails_is few-rules;
            rule_count = only₂.rule_count ∙ only₁.rule_count ∙ held.rule_count;
            condition_count = only₂.condition_count ∙ only₁.condition_count ∙ held.condition_count;
            row_count = e ∙ ap length all_rows;
            rows_hold = rows_are l z;
          };
          marked = λ k lt. subst (λ (i : ℕ). MarkedIn i (row_at rows' k)) n-is (h₃.written.each k (omega (arith, e))).marked;
        }
