-- How the loop over steps follows the grammar.
use Rattle.std.proofs.Common.{◌≡◌, ℕ, ◌<◌, ◌≤◌, false, List, length, Ok, Err, sym, ap, ◌∙◌}
use Rattle.std.proofs.lemmas.Bool.{lt-ltb, le-ltb}
use Rattle.grammar.specs.declared.Fault.{Fault}
use Rattle.grammar.specs.Outcome.{Out, then, many}
use Rattle.grammar.specs.Bytes.{stands}
use Rattle.grammar.specs.Conditions.{Conditions}
use Rattle.grammar.specs.Actions.{Action, action_goes_on, step_more, no_steps, steps_of, action_at}
use Rattle.conditions.proofs.Loop.{Loop, whole, loop_starts, loop_turns, loop_fails, loop_stops}

abbrev place : Action → ℕ
place a = a.next

module _ (s : List ℕ) (c : Conditions) (n : ℕ) where
  -- the action at n is read up to a
  unfoldable pub Reads : Action → Type 0
  Reads a = Loop (action_goes_on s) (step_more s c) place (length s) (step_more s c (no_steps n)) a

  pub reads_on : (a b : Action) → Reads a → a.next < length s → Ok b ≡ step_more s c a → a.next < b.next → Reads b
  unfolding Reads
  reads_on a b l lt r up = loop_turns _ _ _ _ _ a b l (sym (lt-ltb _ _ lt)) r lt up

  -- the code starts from no steps
  module _ (start : Action) (none : start ≡ no_steps n) where
    first_is : (o : Out Action) → o ≡ step_more s c start → o ≡ step_more s c (no_steps n)
    first_is o e = e ∙ ap (step_more s c) none

    pub reads_first : (a : Action) → Ok a ≡ step_more s c start → Reads a
    unfolding Reads
    reads_first a e = loop_starts _ _ _ _ _ a (first_is (Ok a) e)

  module _ (plain : false ≡ stands s n 59) where
    steps_of_read : (o : Out Action) → o ≡ whole (action_goes_on s) (step_more s c) place (length s) (step_more s c (no_steps n)) → then o steps_of ≡ action_at s c n
    steps_of_read o e = rw (sym plain) (ap (λ (o : Out Action). then o steps_of) e)

    pub reads_refuses : (start : Action) (x : Fault) → start ≡ no_steps n → Err x ≡ step_more s c start → Err x ≡ action_at s c n
    reads_refuses start x none e = steps_of_read (Err x) (ap (λ (o : Out Action). then o (many (action_goes_on s) (step_more s c) (length s))) (first_is start none (Err x) e))

    pub reads_fails : (a : Action) (x : Fault) → Reads a → a.next < length s → Err x ≡ step_more s c a → Err x ≡ action_at s c n
    unfolding Reads
    reads_fails a x l lt r = steps_of_read (Err x) (loop_fails _ _ _ _ _ a x l (sym (lt-ltb _ _ lt)) r lt)

    pub reads_ends : (a : Action) → Reads a → length s ≤ a.next → Ok a.steps ≡ action_at s c n
    unfolding Reads
    reads_ends a l le = steps_of_read (Ok a) (loop_stops _ _ _ _ _ a l (sym (le-ltb _ _ le)))
