use Rattle.std.proofs.Common.{arith, rules}
use Rattle.std.proofs.lemmas.List.{take-take}
use Rattle.report.proofs.Lines.{line_start-take, newlines-start}
use Rattle.report.proofs.locate.Goals as goal

pub returns-clause-start : goal.returns-clause-start
returns-clause-start c =
    let same = line_start-take c.args.file.now c.min-at.result c.min-at.result (omega arith) in
    search rules

pub returns-clause-line : goal.returns-clause-line
returns-clause-line c =
    let file = c.args.file.now in
    let start = returns-clause-start c in
    let counted = take-take c.last_start-start.result c.min-at.result file (omega arith) in
    let none = newlines-start file c.min-at.result (omega arith) in
    search rules

pub returns-clause-end : goal.returns-clause-end
returns-clause-end c = search rules

pub returns-clause-column : goal.returns-clause-column
returns-clause-column c =
    let start = returns-clause-start c in
    omega arith
