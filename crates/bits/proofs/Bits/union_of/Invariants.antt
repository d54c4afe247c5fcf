use Rattle.std.proofs.Common.{◌*◌}
use Rattle.bits.proofs.Unions.{Joining, JoiningWord}
use Rattle.bits.proofs.Bits.union_of.Given as goal

abbrev pub invariant-loop-i : goal.invariant-loop-i
invariant-loop-i g l = Joining g.row.V l.self.words l.sets l.union.words (64 * l.i)

abbrev pub decreases-loop-b : goal.decreases-loop-b
decreases-loop-b g l = l.left

abbrev pub invariant-loop-b : goal.invariant-loop-b
invariant-loop-b g l = JoiningWord g.row.V l.self.words l.sets l.union.words l.i l.left
