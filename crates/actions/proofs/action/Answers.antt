use Rattle.std.proofs.Common.{ap, ◌∙◌, rules}
use Rattle.conditions.specs.Known.{known}
use Rattle.actions.specs.Steps.{view, does}
use Rattle.tokens.proofs.Follow.{thrown}
use Rattle.actions.proofs.Read.{reads_first, reads_on, reads_refuses, reads_fails, reads_ends}
use Rattle.actions.proofs.action.Goals as goal

pub returns-in_err-read : goal.returns-in_err-read
returns-in_err-read c =
    ap does (thrown _ _ c.from_residual.ensures.1) ∙ reads_refuses c.args.s.now (known c.args.conditions.now) c.args.n c.if-stands.ensures (view c.start.result) _ c.start.ensures c.in_err-read.ensures.is

pub loop-read-init : goal.loop-read-init
loop-read-init c = reads_first c.args.s.now (known c.args.conditions.now) c.args.n (view c.start.result) c.start.ensures _ c.in_ok-read.ensures.is

pub returns-in_err-read-2 : goal.returns-in_err-read-2
returns-in_err-read-2 c =
    ap does (thrown _ _ c.from_residual-in_err-read-2.ensures.1) ∙ reads_fails _ _ _ c.if-stands.ensures _ _ c.loop-read.invariant c.loop-read-test.true c.in_err-read-2.ensures.is

pub loop-read-preserved : goal.loop-read-preserved
loop-read-preserved c =
    let r = c.in_ok-read-2.ensures in
    reads_on _ _ _ _ _ c.loop-read.invariant c.loop-read-test.true r.is r.moves.0

pub returns : goal.returns
returns c = reads_ends _ _ _ c.if-stands.ensures _ c.loop-read.invariant c.loop-read-test.false

pub returns-then-stands : goal.returns-then-stands
returns-then-stands c = search rules
