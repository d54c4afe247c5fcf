-- What the code's steps stand for in the grammar.
use Rattle.std.specs.Prelude.{ℕ, List, Result}
use Rattle.grammar.specs.declared.Fault.{Fault}
use Rattle.grammar.specs.declared.Step.{Step}
use Rattle.grammar.specs.declared.Read.{Read}
use Rattle.grammar.specs.Outcome.{Out, outcome, seen}
use Rattle.grammar.specs.Actions.{Action}
use Rattle.actions.specs.Given.{given}
use Rattle.actions.specs.declared.reading.Reading.{Reading}
use Rattle.actions.specs.declared.steps.Steps.{Steps}

-- the steps that are taken
abbrev pub taken : Steps → List Step
taken a = given a.list a.count

abbrev pub does : Result Steps Fault → Out (List Step)
does = outcome taken

abbrev pub view : Reading → Action
view q = record { steps = taken q.steps; stage = q.stage; next = q.next }

abbrev pub reads : Result Reading Fault → Out Action
reads = outcome view

-- the step that is made of a number
abbrev pub made_by : (ℕ → Step) → Result (Read ℕ) Fault → Out (Read Step)
made_by make = outcome (seen make)
