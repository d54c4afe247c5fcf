use Rattle.std.proofs.Common.{arith}
use Rattle.loader.specs.Machine.{members}
use Rattle.loader.specs.Building.{rows_of}
use Rattle.loader.proofs.Rows.{writes_row}
use Rattle.loader.proofs.write_row.Goals as goal

pub returns-clause-writes : goal.returns-clause-writes
returns-clause-writes c =
    λ qs a. writes_row c.args.machine.now qs c.args.rules (rows_of c.args.sets.now c.args.count) (members c.args.set.now) c.enter.new.sets _ c.enter.result a (c.enter.ensures.enters qs c.args.rules a) (omega arith)
    c.marks-row.ensures.bits c.marks-row.ensures.few c.marks-row-2.ensures.bits c.marks-row-2.ensures.few
