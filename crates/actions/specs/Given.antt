-- Steps in a list with room for ten, as the code keeps them.
use Rattle.std.specs.Prelude.{◌≡◌, ℕ, ◌-◌, ◌<◌, ◌≤◌, ◌++◌, List, map, length, take, replicate, Some, None, Option}
use Rattle.std.specs.List.{filter_map}
use Rattle.grammar.specs.declared.Stage.{Stage}
use Rattle.grammar.specs.declared.Stage.TheVariants.{Writing, Begun, Ended}
use Rattle.grammar.specs.declared.Step.{Step}
use Rattle.grammar.specs.declared.Read.{Read}
use Rattle.grammar.specs.Actions.{stage_after}

-- the steps in the first n places
abbrev pub given : List (Option Step) → ℕ → List Step
given xs n = filter_map (λ x. x) (take n xs)

-- these steps, and None in the other places
abbrev pub padded : List Step → List (Option Step)
padded xs = map Some xs ++ replicate (10 - length xs) None

-- how many steps there may be: eight that write, one more once a condition is begun, and one more
-- at the end
abbrev pub most : Stage → ℕ
most Writing = 8
most Begun = 9
most Ended = 10

-- a step is read at n, and what may follow it
pub record Past (s : List ℕ) (n : ℕ) (stage : Stage) (t : Read Step) : Type 0 where
  pub on : n < t.next
  pub within : t.next ≤ length s
  pub after : stage_after t.value ≡ stage
