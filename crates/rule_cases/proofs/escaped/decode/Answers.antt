use Rattle.std.proofs.Common.{rules}
use Rattle.rule_cases.specs.Runs as runs
use Rattle.rule_cases.proofs.Steps.{means_first}
use Rattle.rule_cases.proofs.escaped.decode.Goals as goal

pub loop-at-init : goal.loop-at-init
loop-at-init c = (
  c.in_ok-at.ensures.within.1,
  means_first c.args.text.now c.in_ok-at.at _ _ c.new-out.ensures.items c.in_ok-at.ensures.added,
)

pub loop-at-preserved : goal.loop-at-preserved
loop-at-preserved c = (
  c.in_ok-at-2.ensures.within.1,
  runs.units c.in_ok-behind.behind c.in_ok-at-2.at _ _
      (runs.run c.loop-at.at c.in_ok-behind.behind _ _ c.loop-at.invariant.1 (search rules) c.in_ok-behind.ensures.run)
      c.in_ok-at-2.ensures.added,
)
