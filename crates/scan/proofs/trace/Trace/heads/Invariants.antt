use Rattle.std.proofs.Common.{◌≡◌, ℕ, ◌+◌, ◌<◌, ◌≤◌, length, slice_index}
use Rattle.scan.specs.Traced.{head_in, TrailsIn}
use Rattle.scan.proofs.trace.Trace.heads.Given as goal

-- the trails of the bytes so far, and the heads that they told; at most one has begun behind each byte
abbrev pub invariant-loop-k : goal.invariant-loop-k
invariant-loop-k g l = record {
  trails : TrailsIn l.self l.rule l.k l.from l.to l.trails;
  room : 1024 ≤ l.from + l.k;
  order : l.from ≤ l.to;
  few : l.to ≤ 1024;
  heads : (j : ℕ) → j < l.k → slice_index l.heads.heads j ≡ head_in l.self (j + 1) l.rule;
  whole : length l.heads.heads ≡ 1024;
}
