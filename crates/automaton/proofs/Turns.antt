-- Of two meetings one is sooner than the other, unless they are one.
use Rattle.std.proofs.Common.{◌≡◌, ℕ, true, false, ◌⊎◌, ap, inl, inr, arith}
use Rattle.automaton.specs.Order.{Meeting, by_start, by_trail, by_byte, turn, TurnBefore, Sooner}

before_either : (s t : ℕ × ℕ × ℕ) → TurnBefore s t ⊎ ((s.0 ≡ t.0) × (s.1 ≡ t.1) × (s.2 ≡ t.2)) ⊎ TurnBefore t s
before_either s t = grind arith

pub before_more : (s t u : ℕ × ℕ × ℕ) → TurnBefore s t → TurnBefore t u → TurnBefore s u
before_more s t u h k = grind arith

-- one turn, one meeting
turn_one : (m n : Meeting) → (turn m).0 ≡ (turn n).0 → (turn m).1 ≡ (turn n).1 → (turn m).2 ≡ (turn n).2 → m ≡ n
turn_one (by_start c false) (by_start d false) e f g = ap (λ x. by_start x false) f
turn_one (by_start c false) (by_start d true) e f g = absurd (omega arith)
turn_one (by_start c true) (by_start d false) e f g = absurd (omega arith)
turn_one (by_start c true) (by_start d true) e f g = ap (λ x. by_start x true) f
turn_one (by_start c false) (by_trail j) e f g = absurd (omega arith)
turn_one (by_start c true) (by_trail j) e f g = absurd (omega arith)
turn_one (by_start c false) (by_byte k b) e f g = absurd (omega arith)
turn_one (by_start c true) (by_byte k b) e f g = absurd (omega arith)
turn_one (by_trail i) (by_start d false) e f g = absurd (omega arith)
turn_one (by_trail i) (by_start d true) e f g = absurd (omega arith)
turn_one (by_trail i) (by_trail j) e f g = ap by_trail f
turn_one (by_trail i) (by_byte k b) e f g = absurd (omega arith)
turn_one (by_byte j a) (by_start d false) e f g = absurd (omega arith)
turn_one (by_byte j a) (by_start d true) e f g = absurd (omega arith)
turn_one (by_byte j a) (by_trail i) e f g = absurd (omega arith)
turn_one (by_byte j a) (by_byte k b) e f g = cc

pub sooner_either : (m n : Meeting) → Sooner m n ⊎ (m ≡ n) ⊎ Sooner n m
sooner_either m n = elim (before_either (turn m) (turn n)) [
  | inl h ↦ inl h
  | inr (inl e) ↦ inr (inl (turn_one m n e.0 e.1 e.2))
  | inr (inr h) ↦ inr (inr h)
]
