use Rattle.loader.proofs.Adding.{file_reads}
use Rattle.loader.proofs.rules.sections.Goals as goal

pub returns-clause-reads : goal.returns-clause-reads
returns-clause-reads c = λ e.
    file_reads c.of-lines.result c.first_section.new.lines c.args.file.now c.in_ok-conditions.conditions c.second_section.new.work c.args.loaded.now c.second_section.new.loaded c.in_ok-done.done c.number-count.result c.of-lines.ensures.same c.of-lines.ensures.all c.in_ok-conditions.ensures c.in_ok-done.ensures c.number-count.ensures e
