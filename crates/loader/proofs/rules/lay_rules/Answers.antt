use Rattle.std.proofs.Common.{arith}
use Rattle.loader.proofs.Whole.{too_long, read_done, read_fails}
use Rattle.loader.proofs.rules.lay_rules.Goals as goal

pub returns-then-file-gt-FILE_BYTES : goal.returns-then-file-gt-FILE_BYTES
returns-then-file-gt-FILE_BYTES c =
    too_long c.args.file.now c.args.loaded.now c.args.loaded.now c.args.work.now c.in-Some.ensures.cases.enough c.in-Some.sets.now 4096 _ c.in-Some.ensures.cases.same c.if-file-gt-FILE_BYTES.true c.refused-then-file-gt-FILE_BYTES.ensures

pub returns-then-is_err : goal.returns-then-is_err
returns-then-is_err c =
    read_fails c.args.file.now c.args.loaded.now c.zeros-then-is_err.result c.args.work.now c.in-Some.ensures.cases.enough c.sections-read.new.loaded c.sections-read.new.work _ c.sections-read.result c.if-is_err.ensures.value (omega arith) c.zeros-then-is_err.ensures (c.sections-read.ensures.reads c.zeros.ensures)

pub returns-else-is_err : goal.returns-else-is_err
returns-else-is_err c =
    read_done c.args.file.now c.args.loaded.now c.sections-read.new.loaded c.args.work.now c.in-Some.ensures.cases.enough c.sections-read.new.work _ c.sections-read.result c.if-is_err.ensures.value (omega (arith, c.sections-read.ensures.whole)) (omega arith) (c.sections-read.ensures.reads c.zeros.ensures)
