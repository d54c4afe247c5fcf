-- All rows are met and written, one after another.
use Rattle.std.proofs.Common.{◌≡◌, ℕ, suc, ◌+◌, ◌-◌, ◌<◌, ◌≤◌, ◌≢◌, List, length, get_or, set, Some, sym, refl, ap, ◌∙◌, subst, inl, inr, arith, get_or-set_other, get_or-set_same, length-set}
use Rattle.std.proofs.lemmas.Bool.{cases_eq}
use Rattle.positions.specs.Memory.{Work}
use Rattle.grammar.specs.File.{RuleText}
use Rattle.table.specs.declared.loaded.Row.{Row}
use Rattle.automaton.specs.Sets.{Set}
use Rattle.automaton.specs.Automaton.{leads}
use Rattle.automaton.specs.Numbering.{meet_all, none, leads_from, grown}
use Rattle.automaton.proofs.Meeting.{Front, front_length, front_get_or, front_known, meet_all_front, grown_stop, grown_step, grown_front}
use Rattle.table.specs.Memory.{row_at}
use Rattle.loader.specs.Machine.{members, Machine}
use Rattle.loader.specs.Building.{rows_of, Stored, RowStands, RowWritten, WritesRow, RowsWritten, AllWritten}
use Rattle.loader.proofs.Stored.{nil, rows_length, rows_at}
use Rattle.loader.proofs.Entering.{front_number}

-- what is written of a row stays right as rows are added
pub stands_more : (qs : List RuleText) (n : ℕ) (us vs : List Set) (s : Set) (r : Row) → Front us vs → RowStands qs n us s r → RowStands qs n vs s r
stands_more qs n us vs s r f h = record {
  holds = record {
    width = h.holds.width;
    next = λ b lt. h.holds.next b lt ∙ sym (front_number us vs f (leads qs s b) (h.known b lt));
    ends = h.holds.ends;
    slashes = h.holds.slashes;
  };
  known = λ b lt. front_known us vs f (leads qs s b) (h.known b lt);
  marked = h.marked;
}

-- the first k rows are written, and the others are still to come
pub record SoFar (qs : List RuleText) (n : ℕ) (rs us : List Set) (k : ℕ) (rows₀ rows : List Row) : Type 0 where
  pub within : k ≤ length us
  pub written : RowsWritten qs n k us rows₀ rows
  pub rest : (t : ℕ) → k + t ≡ suc (length rows₀) → grown qs (length rows₀) t k us ≡ grown qs (length rows₀) (suc (length rows₀)) 0 rs

pub record Growing (m : Work) (n : ℕ) (rs : List Set) (w : Work) (count k : ℕ) (rows₀ rows : List Row) : Type 0 where
  pub stored : Stored w count
  pub room : length w ≡ length rows
  pub same : length rows ≡ length rows₀
  pub so_far : (qs : List RuleText) → Machine m n qs → SoFar qs n rs (rows_of w count) k rows₀ rows

pub growing_start : (m : Work) (n : ℕ) (w : Work) (count : ℕ) (rows : List Row) → Stored w count → length w ≡ length rows → Growing m n (rows_of w count) w count 0 rows rows
growing_start m n w count rows h l = record {
  stored = h;
  room = l;
  same = refl;
  so_far = λ qs a. record {
    within = omega arith;
    written = record { each = λ j lt. absurd (omega arith); behind = λ j le. refl };
    rest = λ t e. ap (λ (i : ℕ). grown qs (length rows) i 0 (rows_of w count)) (omega arith);
  };
}

-- one row further: that of the set s
module _ (m : Work) (n : ℕ) (rs : List Set) (w : Work) (count k : ℕ) (rows₀ rows : List Row) (g : Growing m n rs w count k rows₀ rows) (lt : k < count) where
  abbrev us : List Set
  us = rows_of w count

  abbrev s : Set
  s = members (get_or w k nil)

  s_is : get_or us k none ≡ s
  s_is = rows_at w count g.stored.room k lt

  module _ (qs : List RuleText) (a : Machine m n qs) where
    abbrev vs : List Set
    vs = meet_all us (leads_from qs s 0 256)

    step : (t : ℕ) → k + suc t ≡ suc (length rows₀) → grown qs (length rows₀) t (k + 1) vs ≡ grown qs (length rows₀) (suc (length rows₀)) 0 rs
    step t e =
        ap (λ (i : ℕ). grown qs (length rows₀) t i vs) (omega arith)
        ∙ ap (λ (x : Set). grown qs (length rows₀) t (suc k) (meet_all us (leads_from qs x 0 256))) (sym s_is)
        ∙ sym (grown_step qs (length rows₀) t k us (omega (arith, rows_length w count g.stored.room)) (omega (arith, rows_length w count g.stored.room, g.stored.room, g.room, g.same)))
        ∙ (g.so_far qs a).rest (suc t) e

    pub growing_full : (w' : Work) → length w' ≡ length w → length w' < length vs → length rows₀ < length (grown qs (length rows₀) (suc (length rows₀)) 0 rs)
    growing_full w' l h =
        let t : ℕ = length rows₀ - k in
        let e : k + suc t ≡ suc (length rows₀) = omega (arith, g.stored.room, g.room, g.same) in
        omega (arith, ap length (step t e), front_length vs (grown qs (length rows₀) t (k + 1) vs) (grown_front qs (length rows₀) t (k + 1) vs), g.room, g.same)

    module _ (w' : Work) (count' : ℕ) (r : Row) (h : RowWritten qs n us s (rows_of w' count') r) where
      front : Front us (rows_of w' count')
      front = subst (Front us) (sym h.rows) (meet_all_front us (leads_from qs s 0 256))

      -- the sets of rows that were there are still there
      still : (j : ℕ) → j < count → get_or (rows_of w' count') j none ≡ get_or us j none
      still j less = front_get_or us (rows_of w' count') front j (omega (arith, rows_length w count g.stored.room))

      each : (j : ℕ) → j < k + 1 → RowStands qs n (rows_of w' count') (get_or (rows_of w' count') j none) (row_at (set rows k r) j)
      each j less = elim (cases_eq j k) [
        | inl e ↦
            let at : row_at (set rows k r) k ≡ r = get_or-set_same rows k r _ (omega (arith, g.stored.room, g.room)) in
            subst (λ (i : ℕ). RowStands qs n (rows_of w' count') (get_or (rows_of w' count') i none) (row_at (set rows k r) i)) (sym e)
            (subst (RowStands qs n (rows_of w' count') (get_or (rows_of w' count') k none)) (sym at)
            (subst (λ (x : Set). RowStands qs n (rows_of w' count') x r) (sym (still k lt ∙ s_is)) h.row))
        | inr ne ↦
            let other : j ≢ k = ne in
            subst (RowStands qs n (rows_of w' count') (get_or (rows_of w' count') j none)) (sym (get_or-set_other rows k j r _ other))
            (subst (λ (x : Set). RowStands qs n (rows_of w' count') x (row_at rows j)) (sym (still j (omega arith)))
            (stands_more qs n us (rows_of w' count') (get_or us j none) (row_at rows j) front ((g.so_far qs a).written.each j (omega arith))))
      ]

      so_far_more : SoFar qs n rs (rows_of w' count') (k + 1) rows₀ (set rows k r)
      so_far_more = record {
        within = omega (arith, front_length us (rows_of w' count') front, rows_length w count g.stored.room);
        written = record {
          each = each;
          behind = λ j le. let other : j ≢ k = omega arith in get_or-set_other rows k j r _ other ∙ (g.so_far qs a).written.behind j (omega arith);
        };
        rest = λ t e. ap (grown qs (length rows₀) t (k + 1)) h.rows ∙ step t (omega arith);
      }

  pub growing_more : (w' : Work) (count' : ℕ) (r : Row) → length w' ≡ length w → Stored w' count' → ((qs : List RuleText) → Machine m n qs → WritesRow qs n us s w' r (Some count'))
      → Growing m n rs w' count' (k + 1) rows₀ (set rows k r)
  growing_more w' count' r l h f = record {
    stored = h;
    room = omega (arith, g.room, length-set {A = Row});
    same = omega (arith, g.same, length-set {A = Row});
    so_far = λ qs a. so_far_more qs a w' count' r (f qs a);
  }

-- no row is left
pub growing_done : (m : Work) (n : ℕ) (rs : List Set) (w : Work) (count k : ℕ) (rows₀ rows : List Row) → Growing m n rs w count k rows₀ rows → count ≤ k → (qs : List RuleText) → Machine m n qs
    → AllWritten qs n rs (rows_of w count) rows₀ rows
growing_done m n rs w count k rows₀ rows g le qs a =
    let f = g.so_far qs a in
    let here : k ≡ length (rows_of w count) = omega (arith, rows_length w count g.stored.room, f.within) in
    let t : ℕ = suc (length rows₀) - k in
    record {
      all = sym (grown_stop qs (length rows₀) t k (rows_of w count) (inl (omega arith))) ∙ f.rest t (omega (arith, f.within, rows_length w count g.stored.room, g.stored.room, g.room, g.same));
      written = subst (λ (i : ℕ). RowsWritten qs n i (rows_of w count) rows₀ rows) here f.written;
    }
