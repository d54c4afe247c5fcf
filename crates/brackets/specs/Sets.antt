-- What the code's sets of bytes stand for in the grammar.
use Rattle.std.specs.Prelude.{ℕ, ◌<◌, Ok, Err, Result}
use Rattle.bits.specs.declared.Bits.{Bits}
use Rattle.bits.specs.Set.{has}
use Rattle.patterns.specs.Expression.{Bytes}
use Rattle.grammar.specs.declared.Fault.{Fault}
use Rattle.grammar.specs.declared.Read.{Read}
use Rattle.grammar.specs.Outcome.{Out, seen, outcome}

abbrev pub set : Bits 4 → Bytes
set b = has b.words

abbrev pub chosen : Result (Read (Bits 4)) Fault → Out (Read Bytes)
chosen = outcome (seen set)

-- what is read is at least one byte, and there is a byte behind it, which closes the bracket
abbrev pub Closes : Result (Read (Bits 4)) Fault → ℕ → ℕ → Type 0
Closes (Ok c) at n = (at < c.next) × (c.next < n)
Closes (Err e) at n = Unit {0}
