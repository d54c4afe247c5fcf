use Rattle.std.proofs.Common.{◌≡◌, ℕ, ◌<◌, ◌≤◌, false, slice_index}
use Rattle.bits.specs.Set.{bit}
use Rattle.table.specs.Readings.{end_marks}
use Rattle.scan.specs.Traced.{memory_in}
use Rattle.scan.proofs.trace.Trace.longest.Given as goal

-- none of those before x has the end mark
abbrev pub invariant-loop-x : goal.invariant-loop-x
invariant-loop-x g l = (y : ℕ) → l.from ≤ y → y < l.x → bit (end_marks (memory_in l.self) (slice_index l.trails.rows y)) l.rule ≡ false
