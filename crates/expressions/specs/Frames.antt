-- Work memory that is unchanged but for the positions from a up to b.
use Rattle.std.specs.Prelude.{◌≡◌, ℕ, suc, ◌+◌, ◌*◌, ◌<◌, ◌≤◌, ◌⊎◌}
use Rattle.patterns.specs.Expression.{Expression}
use Rattle.patterns.specs.Positions.{size}
use Rattle.positions.specs.declared.Fragment.{Fragment}
use Rattle.positions.specs.Memory.{Work, member}
use Rattle.positions.specs.declared.Repeat.{Repeat}
use Rattle.positions.specs.Laid.{Laid, made}
use Rattle.grammar.specs.declared.Interval.{Interval}
use Rattle.grammar.specs.Expressions.{copy_of, repeated, extra}

-- p is none of them
abbrev pub Apart : ℕ → ℕ → ℕ → Type 0
Apart a b p = (p < a) ⊎ (b ≤ p)

pub record Outside (a b : ℕ) (w w' : Work) : Type 0 where
  pub bytes : (p q : ℕ) → p < 512 → Apart a b p → member w' p q ≡ member w p q
  pub order : (p q : ℕ) → p < 512 → Apart a b p → member w' (512 + p) q ≡ member w (512 + p) q
  pub others : (k q : ℕ) → 1024 ≤ k → member w' k q ≡ member w k q

-- f is laid down from a on in w', which is w but for f's positions
pub record Placed (e : Expression) (a : ℕ) (w w' : Work) (f : Fragment) : Type 0 where
  pub laid : Laid w' e a f
  pub outside : Outside a (a + size e) w w'

-- copy k of each expression is the expression itself, or the expression with a repeat mark
abbrev pub Plain : Interval → ℕ → Type 0
Plain i k = (e : Expression) → copy_of i k e ≡ e

abbrev pub Marked : Interval → ℕ → Repeat → Type 0
Marked i k r = (e : Expression) → copy_of i k e ≡ made r e

-- whatever x is, f is copy k of it under the interval i
abbrev pub Forms : Interval → ℕ → Work → Work → Fragment → Fragment → Type 0
Forms i k w w' x f = (e : Expression) (a : ℕ) → Laid w e a x → Placed (copy_of i k e) a w w' f

-- whatever x is, of n positions from a on, f is all copies of it under the interval i
abbrev pub Copies : Interval → ℕ → ℕ → Work → Work → Fragment → Fragment → Type 0
Copies i a n w w' x f = (e : Expression) → Laid w e a x → size e ≡ n → a + suc (extra i) * n ≤ 512
    → Placed (repeated i e) a w w' f
