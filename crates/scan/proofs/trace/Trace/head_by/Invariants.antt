use Rattle.std.proofs.Common.{◌≡◌, ℕ, ◌<◌, ◌≤◌, false}
use Rattle.scan.specs.Listed.{fits}
use Rattle.scan.specs.Traced.{memory_in, place_in}
use Rattle.scan.proofs.trace.Trace.head_by.Given as goal

-- no longer head fits, and a few were tried
abbrev pub invariant-loop-k : goal.invariant-loop-k
invariant-loop-k g l =
    let t = l.self in
    record {
      longer : (h : ℕ) → l.k < h → h ≤ l.total → fits (memory_in t) (place_in t) l.total l.rule h ≡ false;
      few : l.tries ≤ 4;
    }
