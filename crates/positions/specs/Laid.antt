-- An expression that is laid down in the work memory, and memory that is left as it was.
use Rattle.std.specs.Prelude.{◌≡◌, ℕ, ◌+◌, ◌<◌, ◌≤◌}
use Rattle.bits.specs.Set.{has}
use Rattle.patterns.specs.Expression as expression
use Rattle.patterns.specs.Expression.{Expression}
use Rattle.patterns.specs.Positions.{size, nullable, takes, first, last, follows}
use Rattle.positions.specs.declared.Fragment.{Fragment}
use Rattle.positions.specs.declared.Repeat.{Repeat}
use Rattle.positions.specs.declared.Repeat.TheVariants.{Many, Some, Maybe}
use Rattle.positions.specs.Memory.{Work, member}

-- the memory w has the positions of e from a on, and f says how e begins and ends
pub record Laid (w : Work) (e : Expression) (a : ℕ) (f : Fragment) : Type 0 where
  pub within : a + size e ≤ 512
  pub empty : f.nullable ≡ nullable e
  pub begins : (q : ℕ) → has f.first.words q ≡ first e a q
  pub ends : (q : ℕ) → has f.last.words q ≡ last e a q
  pub bytes : (p b : ℕ) → a ≤ p → p < a + size e → b < 256 → member w p b ≡ takes e a p b
  pub order : (p q : ℕ) → a ≤ p → p < a + size e → member w (512 + p) q ≡ follows e a p q

-- nothing changed of the positions below a, nor of the sets past those of positions
pub record Kept (a : ℕ) (w w' : Work) : Type 0 where
  pub bytes : (p q : ℕ) → p < a → member w' p q ≡ member w p q
  pub order : (p q : ℕ) → p < a → member w' (512 + p) q ≡ member w (512 + p) q
  pub others : (k q : ℕ) → 1024 ≤ k → member w' k q ≡ member w k q

-- what a repeat mark makes of an expression
abbrev pub made : Repeat → Expression → Expression
made Many e = expression.Many e
made Some e = expression.Some e
made Maybe e = expression.Maybe e
