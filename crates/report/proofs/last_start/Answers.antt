use Rattle.std.proofs.Common.{sym, length, rules}
use Rattle.report.proofs.Lines.{first_line, behind_newline}
use Rattle.report.proofs.last_start.Goals as goal

pub returns-in-Some-clause-start : goal.returns-in-Some-clause-start
returns-in-Some-clause-start c =
    sym (behind_newline c.args.bytes.now (length c.args.bytes.now) c.in-Some.n (search rules) (search rules) (search rules))

pub returns-in-None-clause-start : goal.returns-in-None-clause-start
returns-in-None-clause-start c = sym (first_line c.args.bytes.now (length c.args.bytes.now) (search rules))
