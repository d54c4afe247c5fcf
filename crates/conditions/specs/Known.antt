-- What the code's conditions stand for in the grammar.
use Rattle.std.specs.Prelude.{ℕ, Bool, map, take, Result}
use Rattle.bits.specs.Set.{has}
use Rattle.bits.specs.declared.Bits.{Bits}
use Rattle.grammar.specs.declared.Fault.{Fault}
use Rattle.grammar.specs.declared.Read.{Read}
use Rattle.grammar.specs.Outcome.{Out, seen, outcome}
use Rattle.grammar.specs.Conditions as grammar
use Rattle.conditions.specs.declared.Conditions.{Conditions}
use Rattle.conditions.specs.Spelt.{text}

-- the conditions by their names and by which are inclusive
unfoldable pub known : Conditions → grammar.Conditions
known c = record { names = map text (take c.count c.names); inclusive = has c.inclusive.words }

abbrev pub members : Bits 1 → ℕ → Bool
members s = has s.words

abbrev pub picked : Read (Bits 1) → Read (ℕ → Bool)
picked = seen members

abbrev pub declares : Result Conditions Fault → Out grammar.Conditions
declares = outcome known

abbrev pub picks : Result (Read (Bits 1)) Fault → Out (Read (ℕ → Bool))
picks = outcome picked

-- these conditions, read up to n
abbrev pub declared_from : Conditions → ℕ → Read grammar.Conditions
declared_from c n = record { value = known c; next = n }

abbrev pub reads : Result (Read Conditions) Fault → Out (Read grammar.Conditions)
reads = outcome (seen known)
