use Rattle.conditions.specs.Known.{known}
use Rattle.loader.proofs.Adding.{Adding}
use Rattle.loader.proofs.rules.second_section.Given as goal

abbrev pub invariant-loop-line : goal.invariant-loop-line
invariant-loop-line l = Adding l.fn.lines l.line-iterator (known l.conditions) l.work l.initial.loaded l.loaded l.done
