use Rattle.std.proofs.Common.{◌≡◌, Some, vec_items, arith, rules}
use Rattle.rule_cases.specs.Escapes.{unit_at}
use Rattle.rule_cases.proofs.Places.{unit_within}
use Rattle.rule_cases.proofs.Steps.{added_none, added_more}
use Rattle.rule_cases.proofs.escaped.units.Goals as goal

pub loop-at-init : goal.loop-at-init
loop-at-init c = (omega arith, omega arith, added_none c.args.text.now c.args.from _)

pub loop-at-preserved : goal.loop-at-preserved
loop-at-preserved c =
    let is : Some c.in_ok-meant.meant ≡ unit_at c.args.text.now c.loop-at.at = search rules in
    let w = unit_within c.args.text.now c.loop-at.at c.in_ok-meant.meant is in (
      omega arith,
      w.1,
      added_more c.args.text.now c.args.from c.loop-at.at (vec_items c.args.out.now) (vec_items c.loop-at.out) (vec_items c.push.new.self) c.in_ok-meant.meant c.loop-at.invariant.2 is c.in_ok-push.ensures.items,
    )
