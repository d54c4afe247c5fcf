-- Sets of positions and marks, all below 512, as tests.
use Rattle.std.specs.Prelude.{ℕ, zero, suc, Bool, true, false, not, ◌&&◌, ◌||◌}
use Rattle.std.specs.Bool.{beq}

abbrev pub Set : Type 0
Set = ℕ → Bool

-- some number below n passes, each number below n passes
abbrev pub some : ℕ → (ℕ → Bool) → Bool
some zero test = false
some (suc n) test = test n || some n test

abbrev pub each : ℕ → (ℕ → Bool) → Bool
each zero test = true
each (suc n) test = test n && each n test

unfoldable pub empty : Set → Bool
empty s = each 512 (λ p. not (s p))

unfoldable pub same : Set → Set → Bool
same s t = each 512 (λ p. beq (s p) (t p))
