use Rattle.conditions.specs.Known.{known}
use Rattle.loader.proofs.Adding.{adding_start, adding_more}
use Rattle.loader.proofs.rules.second_section.Goals as goal

pub loop-line-init : goal.loop-line-init
loop-line-init c = adding_start c.args.lines c.into_iter-line-iterator.result (known c.args.conditions.now) c.args.work.now c.args.loaded.now c.into_iter-line-iterator.ensures.into_iter_gives

pub loop-line-preserved : goal.loop-line-preserved
loop-line-preserved c =
    adding_more c.args.lines c.loop-line.line-iterator c.next.new.self (known c.args.conditions.now) c.loop-line.work c.args.loaded.now c.loop-line.loaded c.loop-line.done c.in-Some.line c.loop-line.invariant c.in-Some.ensures.steps c.add_rule.new.work c.add_rule.new.loaded c.in_ok-done.done c.if-divides.ensures c.in_ok-done.ensures
