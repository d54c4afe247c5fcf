-- What reading an expression gives: the grammar's tree, laid down in the work memory.
use Rattle.std.specs.Prelude.{◌≡◌, ℕ, ◌+◌, ◌<◌, ◌≤◌, Ok, Err, Result}
use Rattle.patterns.specs.Expression.{Expression}
use Rattle.patterns.specs.Positions.{size}
use Rattle.positions.specs.Memory.{Work}
use Rattle.positions.specs.Laid.{Laid, Kept}
use Rattle.grammar.specs.declared.Fault.{Fault}
use Rattle.grammar.specs.Outcome.{Out}
use Rattle.grammar.specs.Expressions as grammar
use Rattle.expressions.specs.declared.Parsed.{Parsed}

-- what r has been read as, if its tree is t
abbrev pub parsed_as : Parsed → Expression → grammar.Parsed
parsed_as r t = record { tree = t; at = r.at; used = r.used }

-- the outcome o is a tree, with the place and the count that r has; its positions are laid down in
-- w' from `base` on, and nothing below them changed since w
pub record Lays (o : Out grammar.Parsed) (base : ℕ) (w w' : Work) (r : Parsed) : Type 0 where
  pub tree : Expression
  pub is : o ≡ Ok (parsed_as r tree)
  pub counts : r.used ≡ base + size tree
  pub laid : Laid w' tree base r.part
  pub kept : Kept base w w'

abbrev pub Gives : Out grammar.Parsed → ℕ → Work → Work → Result Parsed Fault → Type 0
Gives o base w w' (Ok r) = Lays o base w w' r
Gives o base w w' (Err e) = o ≡ Err e

-- `all` is the tree t, laid down from `base` on
pub record Holds (w : Work) (base : ℕ) (all : Parsed) (t : Expression) : Type 0 where
  pub counts : all.used ≡ base + size t
  pub laid : Laid w t base all.part

-- whatever tree `all` is, r is what `step` makes of it
abbrev pub Steps : (grammar.Parsed → Out grammar.Parsed) → ℕ → Work → Work → Parsed
    → Result Parsed Fault → Type 0
Steps step base w w' all r = (t : Expression) → Holds w base all t
    → Gives (step (parsed_as all t)) base w w' r

-- what was read is at least one byte, and ends within n
abbrev pub Moves : Result Parsed Fault → ℕ → ℕ → Type 0
Moves (Ok r) at n = (at < r.at) × (r.at ≤ n)
Moves (Err e) at n = Unit {0}
