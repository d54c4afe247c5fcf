use Rattle.std.proofs.Common.{arith}
use Rattle.scan.proofs.Firsts.{none_behind_mark, first_behind_mark}
use Rattle.scan.proofs.marks.next_mark.Goals as goal

pub returns-then-behind-eq0 : goal.returns-then-behind-eq0
returns-then-behind-eq0 c = none_behind_mark c.args.marks c.args.i c.if-behind-eq0.true

pub returns : goal.returns
returns c = first_behind_mark c.args.marks c.args.i (omega arith) c.if-behind-eq0.false
