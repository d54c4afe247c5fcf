use Rattle.rule_cases.proofs.Steps.{copies_none, copies_more}
use Rattle.rule_cases.proofs.escaped.run.Goals as goal

pub loop-init : goal.loop-init
loop-init c = copies_none _ _

pub loop-preserved : goal.loop-preserved
loop-preserved c =
    copies_more _ _ _ _ _ c.loop.counter c.loop.invariant c.in_ok-extend_from_slice.ensures.items c.as_slice.ensures.value
