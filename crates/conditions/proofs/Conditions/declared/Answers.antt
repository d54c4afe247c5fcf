use Rattle.std.proofs.Common.{ap, ◌∙◌}
use Rattle.conditions.specs.Known.{declares, declared_from}
use Rattle.tokens.proofs.Follow.{thrown}
use Rattle.conditions.proofs.Lists.{declaring_starts, declaring_turns, declaring_fails, declaring_stops}
use Rattle.conditions.proofs.Conditions.declared.Goals as goal

pub loop-read-init : goal.loop-read-init
loop-read-init c = declaring_starts _ _ _

pub returns-in_err-read-2 : goal.returns-in_err-read-2
returns-in_err-read-2 c =
    ap declares (thrown _ _ c.from_residual-in_err-read-2.ensures.1) ∙ declaring_fails _ _ _ (declared_from c.args.self c.args.n) c.in_ok-read.ensures.is _ _ c.loop-read.invariant c.loop-read-test.true c.in_err-read-2.ensures.is

pub loop-read-preserved : goal.loop-read-preserved
loop-read-preserved c =
    let r = c.in_ok-read-2.ensures in
    declaring_turns _ _ _ _ _ c.loop-read.invariant c.loop-read-test.true r.is r.moves.0

pub returns : goal.returns
returns c = declaring_stops _ _ _ (declared_from c.args.self c.args.n) c.in_ok-read.ensures.is _ c.loop-read.invariant c.loop-read-test.false
