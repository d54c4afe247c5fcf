use Rattle.std.proofs.Common.{◌≡◌, ◌≤◌, length}
use Rattle.scan.specs.Traced.{MovingIn}
use Rattle.scan.proofs.trace.Trace.go_on.Given as goal

-- those before j have moved
abbrev pub invariant-loop-j : goal.invariant-loop-j
invariant-loop-j g l = record {
  moving : MovingIn l.self l.rule l.k l.from l.at l.j l.high l.trails;
  low : l.low ≤ l.at;
  high : l.at ≤ l.j;
  rows : length l.trails.rows ≡ 1024;
  heads : length l.trails.heads ≡ 1024;
}
