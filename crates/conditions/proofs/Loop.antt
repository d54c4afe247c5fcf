-- A first step and then a `while`, as the grammar has them by `then` and `many`: `at` is the place of what was read so far, which every step moves on.
use Rattle.std.proofs.Common.{◌≡◌, ℕ, ◌-◌, ◌<◌, Bool, true, false, Ok, Err, sym, ap, arith}
use Rattle.grammar.specs.declared.Fault.{Fault}
use Rattle.grammar.specs.Outcome.{Out, then, many}
use Rattle.tokens.proofs.Follow as follow

module _ {X : Type 0} (go : X → Bool) (step : X → Out X) (at : X → ℕ) (len : ℕ) (first : Out X) where
  abbrev pub whole : Out X
  whole = then first (many go step len)

  abbrev left : X → ℕ
  left x = len - at x

  -- the loop has come to x
  unfoldable pub Loop : X → Type 0
  Loop x = follow.Left go step left whole x

  pub loop_starts : (x : X) → Ok x ≡ first → Loop x
  unfolding Loop
  loop_starts x e = follow.starts go step left whole x len (omega arith) (ap (λ (o : Out X). then o (many go step len)) (sym e))

  pub loop_turns : (x y : X) → Loop x → true ≡ go x → Ok y ≡ step x → at x < len → at x < at y → Loop y
  unfolding Loop
  loop_turns x y l e r lt up = follow.turns_on go step left whole x y l e (sym r) (omega arith)

  pub loop_fails : (x : X) (f : Fault) → Loop x → true ≡ go x → Err f ≡ step x → at x < len → Err f ≡ whole
  unfolding Loop
  loop_fails x f l e r lt = sym (follow.fails go step left whole x f l e (sym r) (omega arith))

  pub loop_stops : (x : X) → Loop x → false ≡ go x → Ok x ≡ whole
  unfolding Loop
  loop_stops x l e = sym (follow.stops go step left whole x l e)
