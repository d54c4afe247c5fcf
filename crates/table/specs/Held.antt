-- What a table holds, and a walk over it.
use Rattle.std.specs.Prelude.{◌≡◌, ℕ, None, Some, Option}
use Rattle.table.specs.declared.held.Table.{Table}
use Rattle.table.specs.declared.held.Walk.{Walk}
use Rattle.table.specs.Memory.{Memory, memory}

abbrev pub memory_of : Table → Memory
memory_of t = memory t.loaded t.rows.now

-- the walk stands at this row of the table; there is none where the row is 0
abbrev pub StandsAt : Table → ℕ → Option Walk → Type 0
StandsAt t row None = row ≡ 0
StandsAt t row (Some w) = (w.table.now ≡ t) × (w.row ≡ row)
