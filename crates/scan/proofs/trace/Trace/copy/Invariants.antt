use Rattle.std.proofs.Common.{◌≡◌, length}
use Rattle.scan.specs.Traced.{AreBytes}
use Rattle.scan.proofs.trace.Trace.copy.Given as goal

-- the bytes so far
abbrev pub invariant-loop-k : goal.invariant-loop-k
invariant-loop-k g l = record {
  bytes : AreBytes l.self l.bytes l.k;
  whole : length l.bytes ≡ 1024;
}
