use Rattle.std.proofs.Common.{not, refl, ap, arith}
use Rattle.tokens.proofs.Items.{stands_below}
use Rattle.grammar.specs.Expressions.{past_quote}
use Rattle.expressions.proofs.Atoms.{quote_is}
use Rattle.expressions.proofs.Growing.{grown_turn, grown_stop, grown_fails, past_lays, lays_by, gives_fault, then_fault, Code}
use Rattle.expressions.proofs.quote.Goals as goal

pub returns-in_err-all-2-clause-gives : goal.returns-in_err-all-2-clause-gives
returns-in_err-all-2-clause-gives c =
    let i = c.loop-work.invariant in
    gives_fault _ _ _ _ c.from_residual-in_err-all-2.ensures.1
    (then_fault past_quote (quote_is c.args.s.now c.args.at c.args.used c.if-stands.ensures) (grown_fails i.2 (λ t. ap not c.loop-work-test.ensures) c.in_err-all-2.ensures.gives i.1))

pub loop-work-preserved : goal.loop-work-preserved
loop-work-preserved c =
    let r = c.in_ok-all-2.ensures in
    let i = c.loop-work.invariant in
    (omega arith, r.moves.1, grown_turn i.2 (λ t. ap not c.loop-work-test.ensures) r.gives r.moves.0 i.1)

pub returns : goal.returns
returns c =
    let s = c.args.s.now in
    let on = c.loop-work-test.ensures in
    let at = ap (λ (x : Code). x.at) c.past.ensures in
    let l = grown_stop c.loop-work.invariant.2 (λ t. ap not on) c.in_ok-all.ensures.gives.kept in
    record {
      gives = lays_by (quote_is s c.args.at c.args.used c.if-stands.ensures) (past_lays past_quote l (λ t. refl) c.past.ensures);
      moves = (omega (arith, at), omega (arith, at, stands_below s c.loop-work.all.at 34 on));
    }
