use Rattle.std.proofs.Common.{◌+◌, ◌≤◌}
use Rattle.scan.specs.Traced.{TrailsIn}
use Rattle.scan.proofs.trace.Trace.head_in_a_pass.Given as goal

-- the trails of the bytes so far; at most one has begun behind each byte
abbrev pub invariant-loop-k : goal.invariant-loop-k
invariant-loop-k g l = record {
  trails : TrailsIn l.self l.rule l.k l.from l.to l.trails;
  room : 1024 ≤ l.from + l.k;
  order : l.from ≤ l.to;
  few : l.to ≤ 1024;
}
