use Rattle.std.proofs.Common.{◌≡◌, take, drop}
use Rattle.scan.specs.Listed.{row_after}
use Rattle.scan.specs.Traced.{memory_in}
use Rattle.scan.proofs.trace.Trace.is_trailing.Given as goal

-- what is left leads where all of it did
abbrev pub invariant-loop-k : goal.invariant-loop-k
invariant-loop-k g l =
    let t = l.self in
    let bytes = take l.total (g.S.Source.rest t.source.now) in
    record {
      of : l.walk.table.now ≡ t.table.now;
      left : row_after (memory_in t) l.walk.row (drop l.k bytes) ≡ row_after (memory_in t) l.trail.row (drop l.h bytes);
    }
