-- How the loops over names follow the grammar.
use Rattle.std.proofs.Common.{◌≡◌, ℕ, ◌+◌, ◌<◌, ◌≤◌, Bool, true, false, ◌||◌, eqb, List, length, Ok, Err, sym, refl, ap, ◌∙◌}
use Rattle.std.proofs.lemmas.Bool.{lt-ltb, le-ltb}
use Rattle.grammar.specs.declared.Fault.{Fault}
use Rattle.grammar.specs.declared.Read.{Read}
use Rattle.grammar.specs.declared.Refusal.TheVariants.{Misfit}
use Rattle.grammar.specs.Outcome.{Out, refused, read, then, many}
use Rattle.grammar.specs.Bytes.{stands}
use Rattle.grammar.specs.Conditions.{Conditions, condition_at, picked_first, picked_too, comma_ahead, pick_more, closed_list, picked_at, line_goes_on, declare_more, declared}
use Rattle.tokens.proofs.Items.{stands_below}
use Rattle.conditions.proofs.Loop.{Loop, loop_starts, loop_turns, loop_fails, loop_stops}

abbrev behind : {X : Type 0} → Read X → ℕ
behind r = r.next

module _ (s : List ℕ) (c : Conditions) (n : ℕ) where
  abbrev first : Out (Read (ℕ → Bool))
  first = then (condition_at s c n) picked_first

  -- the list that begins at n is read up to p
  unfoldable pub Picking : Read (ℕ → Bool) → Type 0
  Picking p = Loop (comma_ahead s) (pick_more s c) behind (length s) first p

  pub picking_starts : (k : Read ℕ) (one : ℕ → Bool) → Ok k ≡ condition_at s c n → one ≡ (λ j. eqb j k.value) → Picking (record { value = one; next = k.next })
  unfolding Picking
  picking_starts k one e f =
      loop_starts _ _ _ _ _ (record { value = one; next = k.next })
      (ap (λ (g : ℕ → Bool). read g k.next) f ∙ ap (λ (o : Out (Read ℕ)). then o picked_first) e)

  module _ (p : Read (ℕ → Bool)) (l : Picking p) where
    pub picking_turns : (k : Read ℕ) (more : ℕ → Bool) → true ≡ comma_ahead s p → Ok k ≡ condition_at s c (p.next + 1) → more ≡ (λ j. p.value j || eqb j k.value) → p.next < k.next → Picking (record { value = more; next = k.next })
    unfolding Picking
    picking_turns k more e r f up =
        loop_turns _ _ _ _ _ p (record { value = more; next = k.next }) l e
        (ap (λ (g : ℕ → Bool). read g k.next) f ∙ ap (λ (o : Out (Read ℕ)). then o (picked_too p)) r)
        (stands_below s p.next 44 e) up

    pub picking_fails : (x : Fault) → true ≡ comma_ahead s p → Err x ≡ condition_at s c (p.next + 1) → Err x ≡ picked_at s c n
    unfolding Picking
    picking_fails x e r =
        ap (λ (o : Out (Read (ℕ → Bool))). then o (closed_list s))
        (loop_fails (comma_ahead s) (pick_more s c) behind (length s) first p x l e (ap (λ (o : Out (Read ℕ)). then o (picked_too p)) r) (stands_below s p.next 44 e))

    picking_stops : false ≡ comma_ahead s p → closed_list s p ≡ picked_at s c n
    unfolding Picking
    picking_stops e = ap (λ (o : Out (Read (ℕ → Bool))). then o (closed_list s)) (loop_stops (comma_ahead s) (pick_more s c) behind (length s) first p l e)

    pub picking_closes : false ≡ comma_ahead s p → true ≡ stands s p.next 62 → read p.value (p.next + 1) ≡ picked_at s c n
    picking_closes e f = rw (sym f) at (picking_stops e)

    pub picking_misfits : false ≡ comma_ahead s p → false ≡ stands s p.next 62 → refused Misfit p.next ≡ picked_at s c n
    picking_misfits e f = rw (sym f) at (picking_stops e)

abbrev conditions_of : Read Conditions → Out Conditions
conditions_of d = Ok d.value

module _ (s : List ℕ) (inclusive : Bool) (start : Read Conditions) where
  -- the names behind the first, which ends at `start`, are read up to d
  unfoldable pub Declaring : Read Conditions → Type 0
  Declaring d = Loop (line_goes_on s) (declare_more s inclusive) behind (length s) (Ok start) d

  pub declaring_starts : Declaring start
  unfolding Declaring
  declaring_starts = loop_starts _ _ _ _ _ start refl

  pub declaring_turns : (d e : Read Conditions) → Declaring d → d.next < length s → Ok e ≡ declare_more s inclusive d → d.next < e.next → Declaring e
  unfolding Declaring
  declaring_turns d e l lt r up = loop_turns _ _ _ _ _ d e l (sym (lt-ltb _ _ lt)) r lt up

  abbrev names_behind : Read Conditions → Out (Read Conditions)
  names_behind = many (line_goes_on s) (declare_more s inclusive) (length s)

  module _ (from : Read Conditions) (first : Ok start ≡ declare_more s inclusive from) where
    behind_first : (o : Out (Read Conditions)) → o ≡ names_behind start → then o conditions_of ≡ declared s inclusive from
    behind_first o e = ap (λ (o : Out (Read Conditions)). then o conditions_of) (e ∙ ap (λ (o : Out (Read Conditions)). then o names_behind) first)

    pub declaring_fails : (d : Read Conditions) (x : Fault) → Declaring d → d.next < length s → Err x ≡ declare_more s inclusive d → Err x ≡ declared s inclusive from
    unfolding Declaring
    declaring_fails d x l lt r = behind_first (Err x) (loop_fails _ _ _ _ _ d x l (sym (lt-ltb _ _ lt)) r lt)

    pub declaring_stops : (d : Read Conditions) → Declaring d → length s ≤ d.next → Ok d.value ≡ declared s inclusive from
    unfolding Declaring
    declaring_stops d l le = behind_first (Ok d) (loop_stops _ _ _ _ _ d l (sym (le-ltb _ _ le)))
