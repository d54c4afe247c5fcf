use Rattle.std.proofs.Common.{Err, ap, ◌∙◌, arith}
use Rattle.conditions.specs.Known.{picks}
use Rattle.conditions.proofs.Names.{alone, joined}
use Rattle.tokens.proofs.Follow.{thrown}
use Rattle.conditions.proofs.Lists.{picking_starts, picking_turns, picking_fails, picking_closes, picking_misfits}
use Rattle.conditions.proofs.Conditions.list.Goals as goal

pub loop-picked-init : goal.loop-picked-init
loop-picked-init c =
    let r = c.in_ok-first.ensures in
    (omega (arith, r.moves), omega (arith, r.moves), picking_starts _ _ _ _ _ r.is (alone _ _ (omega (arith, r.small)) c.only.ensures))

pub returns-in_err-more-clause-is : goal.returns-in_err-more-clause-is
returns-in_err-more-clause-is c =
    ap picks (thrown _ _ c.from_residual-in_err-more.ensures.1) ∙ picking_fails _ _ _ _ c.loop-picked.invariant.2 _ c.loop-picked-test.ensures c.in_err-more.ensures.is

pub loop-picked-preserved : goal.loop-picked-preserved
loop-picked-preserved c =
    let r = c.in_ok-more.ensures in
    (omega arith, omega arith, picking_turns _ _ _ _ c.loop-picked.invariant.2 _ _ c.loop-picked-test.ensures r.is (joined _ _ (omega (arith, r.small)) _ c.insert.ensures) (omega arith))

pub returns-then-not-stands-clause-is : goal.returns-then-not-stands-clause-is
returns-then-not-stands-clause-is c = ap Err c.misfit.ensures ∙ picking_misfits _ _ _ _ c.loop-picked.invariant.2 c.loop-picked-test.ensures c.if-not-stands.ensures

pub returns-clause-is : goal.returns-clause-is
returns-clause-is c = picking_closes _ _ _ _ c.loop-picked.invariant.2 c.loop-picked-test.ensures c.if-not-stands.ensures
