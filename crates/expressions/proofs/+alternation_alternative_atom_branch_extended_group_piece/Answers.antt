use Rattle.std.proofs.Common.{length, Err, sym, refl, ap, ◌∙◌, arith}
use Rattle.grammar.specs.Outcome.{many}
use Rattle.grammar.specs.Expressions.{inside, marked, repeated_more, branch_goes_on, branch_more, bar_ahead, alternation_more, closed_group}
use Rattle.grammar.specs.declared.Fault.{Fault}
use Rattle.grammar.specs.Expressions.{repeat_mark}
use Rattle.expressions.specs.Lays.{parsed_as}
use Rattle.tokens.proofs.Items.{stands_below, passes_below}
use Rattle.expressions.proofs.Atoms.{group_is, atom_quote, atom_group, atom_one, piece_is, branch_is, alternation_is, closed_open, closed_shut, extended_joins}
use Rattle.expressions.proofs.Growing.{Code, grown_start, grown_turn, grown_stop, grown_fails, grown_counted, past_lays, lays_by, joined_steps, choice_steps, marked_steps, gives_by, gives_fault, then_fault}
use Rattle.expressions.proofs.+alternation_alternative_atom_branch_extended_group_piece.Goals as goal

pub alternation-returns-in_err-all-clause-gives : goal.alternation-returns-in_err-all-clause-gives
alternation-returns-in_err-all-clause-gives t c =
    let s = c.args.s.now in
    let i = inside c.args.depth s in
    gives_fault _ _ _ _ c.from_residual.ensures.1 (then_fault (many (bar_ahead s) (alternation_more i s) (length s)) (alternation_is i s c.args.at c.args.used) c.in_err-all.ensures.gives)

pub alternation-loop-work-init : goal.alternation-loop-work-init
alternation-loop-work-init t c =
    let r = c.in_ok-all.ensures in
    (r.moves.0, r.moves.1, omega arith, grown_start (omega arith) (alternation_is (inside c.args.depth c.args.s.now) c.args.s.now c.args.at c.args.used) r.gives)

pub alternation-returns-in_err-all-2-clause-gives : goal.alternation-returns-in_err-all-2-clause-gives
alternation-returns-in_err-all-2-clause-gives t c =
    let v = c.loop-work.invariant in
    gives_fault _ _ _ _ c.from_residual-in_err-all-2.ensures.1
    (grown_fails v.3 (λ t. c.loop-work-test.ensures) c.in_err-all-2.ensures.gives v.1)

pub alternation-loop-work-preserved : goal.alternation-loop-work-preserved
alternation-loop-work-preserved t c =
    let r = c.in_ok-all-2.ensures in
    let v = c.loop-work.invariant in
    (omega arith, r.moves.1, omega arith, grown_turn v.3 (λ t. c.loop-work-test.ensures) r.gives r.moves.0 v.1)

pub alternation-returns-clause-gives : goal.alternation-returns-clause-gives
alternation-returns-clause-gives t c = grown_stop c.loop-work.invariant.3 (λ t. c.loop-work-test.ensures) c.in_ok-all.ensures.gives.kept

pub alternative-returns-clause-gives : goal.alternative-returns-clause-gives
alternative-returns-clause-gives t c =
    choice_steps c.in_ok-more.ensures.gives c.choice.ensures refl refl

pub atom-returns-then-stands-clause-gives : goal.atom-returns-then-stands-clause-gives
atom-returns-then-stands-clause-gives t c =
    gives_by _ _ _ c.quote.result (atom_quote (inside c.args.depth c.args.s.now) c.args.s.now c.args.at c.args.used c.if-stands.ensures) c.quote.ensures.gives

pub atom-returns-then-stands-2-clause-gives : goal.atom-returns-then-stands-2-clause-gives
atom-returns-then-stands-2-clause-gives t c =
    gives_by _ _ _ c.group.result (atom_group (inside c.args.depth c.args.s.now) c.args.s.now c.args.at c.args.used c.if-stands.ensures c.if-stands-2.ensures) c.group.ensures.gives

pub atom-returns-clause-gives : goal.atom-returns-clause-gives
atom-returns-clause-gives t c =
    gives_by _ _ _ c.one.result (atom_one (inside c.args.depth c.args.s.now) c.args.s.now c.args.at c.args.used c.if-stands.ensures c.if-stands-2.ensures) c.one.ensures.gives

pub branch-returns-in_err-all-clause-gives : goal.branch-returns-in_err-all-clause-gives
branch-returns-in_err-all-clause-gives t c =
    let s = c.args.s.now in
    let i = inside c.args.depth s in
    gives_fault _ _ _ _ c.from_residual.ensures.1 (then_fault (many (branch_goes_on s) (branch_more i s) (length s)) (branch_is i s c.args.at c.args.used) c.in_err-all.ensures.gives)

pub branch-loop-work-init : goal.branch-loop-work-init
branch-loop-work-init t c =
    let r = c.in_ok-all.ensures in
    (r.moves.0, r.moves.1, grown_start (omega arith) (branch_is (inside c.args.depth c.args.s.now) c.args.s.now c.args.at c.args.used) r.gives)

pub branch-returns-in_err-all-2-clause-gives : goal.branch-returns-in_err-all-2-clause-gives
branch-returns-in_err-all-2-clause-gives t c =
    let v = c.loop-work.invariant in
    gives_fault _ _ _ _ c.from_residual-in_err-all-2.ensures.1
    (grown_fails v.2 (λ t. c.loop-work-test.ensures) c.in_err-all-2.ensures.gives v.1)

pub branch-loop-work-preserved : goal.branch-loop-work-preserved
branch-loop-work-preserved t c =
    let r = c.in_ok-all-2.ensures in
    let v = c.loop-work.invariant in
    (omega arith, r.moves.1, grown_turn v.2 (λ t. c.loop-work-test.ensures) r.gives r.moves.0 v.1)

pub branch-returns-clause-gives : goal.branch-returns-clause-gives
branch-returns-clause-gives t c = grown_stop c.loop-work.invariant.2 (λ t. c.loop-work-test.ensures) c.in_ok-all.ensures.gives.kept

pub branch-extended-requires : goal.branch-extended-requires
branch-extended-requires t c = (omega arith, grown_counted c.loop-work.invariant.2)

pub extended-returns-clause-gives : goal.extended-returns-clause-gives
extended-returns-clause-gives t c =
    let s = c.args.s.now in
    let i = inside c.args.depth s in
    let all = c.args.all in
    λ e h. lays_by (extended_joins i s (parsed_as all e) c.if-stands.ensures) (joined_steps c.in_ok-more.ensures.gives c.then.ensures (omega arith) e h)

pub group-returns-in_err-inner-clause-gives : goal.group-returns-in_err-inner-clause-gives
group-returns-in_err-inner-clause-gives t c =
    let s = c.args.s.now in
    gives_fault _ _ _ _ c.from_residual.ensures.1 (then_fault (closed_group s) (group_is c.args.depth s c.args.at c.args.used c.if-depth-eq0.false) c.in_err-inner.ensures.gives)

pub group-returns-then-not-stands-clause-gives : goal.group-returns-then-not-stands-clause-gives
group-returns-then-not-stands-clause-gives t c =
    let l = c.in_ok-inner.ensures.gives in
    closed_open c.args.depth c.args.s.now c.args.at c.args.used (parsed_as c.in_ok-inner.inner l.tree) c.if-depth-eq0.false l.is c.if-not-stands.ensures ∙ ap (λ (f : Fault). Err f) (sym c.misfit.ensures)

pub group-returns : goal.group-returns
group-returns t c =
    let s = c.args.s.now in
    let inner = c.in_ok-inner.inner in
    let r = c.in_ok-inner.ensures in
    let on = c.if-not-stands.ensures in
    let at = ap (λ (x : Code). x.at) c.past.ensures in
    record {
      gives = lays_by (group_is c.args.depth s c.args.at c.args.used c.if-depth-eq0.false) (past_lays (closed_group s) r.gives (λ e. closed_shut s (parsed_as inner e) on) c.past.ensures);
      moves = (omega (arith, at), omega (arith, at, stands_below s inner.at 41 on));
    }

pub piece-returns-in_err-all-clause-gives : goal.piece-returns-in_err-all-clause-gives
piece-returns-in_err-all-clause-gives t c =
    let s = c.args.s.now in
    gives_fault _ _ _ _ c.from_residual.ensures.1
    (then_fault (many (marked s) (repeated_more s) (length s)) (piece_is (inside c.args.depth s) s c.args.at c.args.used) c.in_err-all.ensures.gives)

pub piece-loop-mark-init : goal.piece-loop-mark-init
piece-loop-mark-init t c =
    let r = c.in_ok-all.ensures in
    (r.moves.0, r.moves.1, omega arith, grown_start (omega arith) (piece_is (inside c.args.depth c.args.s.now) c.args.s.now c.args.at c.args.used) r.gives)

pub piece-loop-mark-preserved : goal.piece-loop-mark-preserved
piece-loop-mark-preserved t c =
    let s = c.args.s.now in
    let all = c.loop-mark.all in
    let v = c.loop-mark.invariant in
    let m = c.in-Some.ensures in
    let below = passes_below repeat_mark s all.at (sym m.0) in
    let j = c.marked-all.ensures in
    (omega (arith, j.at), omega (arith, j.at, below), omega arith, grown_turn v.3 (λ e. sym m.0) (marked_steps s m.1 (omega arith) j) (omega (arith, j.at)) v.1)

pub piece-returns-clause-gives : goal.piece-returns-clause-gives
piece-returns-clause-gives t c = grown_stop c.loop-mark.invariant.3 (λ e. sym c.in_default.ensures) c.in_ok-all.ensures.gives.kept
