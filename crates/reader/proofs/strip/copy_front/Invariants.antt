use Rattle.std.proofs.Common.{◌≡◌}
use lib.Seq.{paste}
use Rattle.reader.proofs.strip.copy_front.Given as goal

-- the first k are written
abbrev pub invariant-loop-k : goal.invariant-loop-k
invariant-loop-k g l = l.strip ≡ paste l.fn.strip l.at (g.S.Source.rest l.source) l.k
