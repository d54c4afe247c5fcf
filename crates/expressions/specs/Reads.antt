-- What the smaller functions of the reader of expressions say.
use Rattle.std.specs.Prelude.{◌≡◌, ℕ, ◌+◌, ◌<◌, ◌≤◌, Bool, true, false, ◌||◌, List, length, Some, None, Err, Option, Result, slice_index}
use Rattle.std.specs.Str.{byte}
use Rattle.patterns.specs.Expression.{Expression}
use Rattle.positions.specs.declared.Repeat.{Repeat}
use Rattle.positions.specs.Memory.{Work, Sequence, Repeats}
use Rattle.positions.specs.Laid.{made}
use Rattle.grammar.specs.declared.Fault.{Fault}
use Rattle.grammar.specs.declared.Refusal.TheVariants.{Memory}
use Rattle.grammar.specs.Outcome.{Out, fault, then}
use Rattle.grammar.specs.Bytes.{passes, stands}
use Rattle.grammar.specs.Expressions as grammar
use Rattle.expressions.specs.declared.Parsed.{Parsed}
use Rattle.expressions.specs.Lays.{Gives}

-- a repeat mark at n, by what it makes of an expression; or none
abbrev pub Repeating : List ℕ → ℕ → Option Repeat → Type 0
Repeating s n None = passes grammar.repeat_mark s n ≡ false
Repeating s n (Some r) = (passes grammar.repeat_mark s n ≡ true)
    × ((e : Expression) → grammar.repeated_by (slice_index s n) e ≡ made r e)

-- the positions of `all` are those from `base` up to as many as are used
abbrev pub Counted : ℕ → Parsed → Type 0
Counted base all = (base < all.used) × (all.used ≤ 512)

-- r is x, and then y
pub record JoinsOn (w w' : Work) (x y r : Parsed) : Type 0 where
  pub at : r.at ≡ y.at
  pub used : r.used ≡ y.used
  pub part : Sequence w w' x.part y.part r.part

-- r is `all` with one more repeat mark
pub record MarksOn (m : Repeat) (w w' : Work) (all r : Parsed) : Type 0 where
  pub at : r.at ≡ all.at + 1
  pub used : r.used ≡ all.used
  pub part : Repeats m w w' all.part r.part

abbrev pub goes_on : List ℕ → ℕ → Bool
goes_on s n = stands s n (byte "{") || passes grammar.starts_atom s n

-- an interval over all that its branch has read
abbrev pub interval_over : List ℕ → grammar.Parsed → Out grammar.Parsed
interval_over s p = then (grammar.bounds_at s (p.at + 1)) (grammar.repeated_over p)

-- an alternation, in work memory of at least 1,024 sets
pub record Expressed (s : List ℕ) (at used : ℕ) (w w' : Work)
    (r : Result Parsed Fault) : Type 0 where
  pub reads : 1024 ≤ length w → Gives (grammar.alternation_at s at used) used w w' r
  pub short : length w < 1024 → (r ≡ Err (fault Memory 0)) × (w' ≡ w)
