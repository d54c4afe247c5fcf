use Rattle.std.proofs.Common.{arith}
use Rattle.tokens.proofs.Follow.{thrown}
use Rattle.tokens.proofs.Items.{stands_below}
use Rattle.grammar.specs.Outcome.{seen}
use Rattle.brackets.specs.Sets.{set}
use Rattle.brackets.proofs.Meant.{members_start, members_stop, members_turn, members_fail}
use Rattle.brackets.proofs.members.Goals as goal

pub loop-all-init : goal.loop-all-init
loop-all-init c =
    let r = c.in_ok-all.ensures in
    (r.moves.0, r.moves.1, members_start c.args.s.now c.args.n (seen set c.in_ok-all.all) r.is r.moves.0 r.moves.1)

pub returns-in_err-more : goal.returns-in_err-more
returns-in_err-more c =
    rw (thrown _ _ c.from_residual-in_err-more.ensures.1)
    record { is = members_fail c.args.s.now c.args.n (seen set c.loop-all.all) _ c.loop-all.invariant.2 c.loop-all-test.ensures c.in_err-more.ensures.is; closes = tt }

pub loop-all-preserved : goal.loop-all-preserved
loop-all-preserved c =
    let r = c.in_ok-more.ensures in (
      omega (arith, r.moves.0),
      r.moves.1,
      members_turn c.args.s.now c.args.n (seen set c.loop-all.all) (seen set c.in_ok-more.more) c.add_all.new.self.words
          c.loop-all.invariant.2 c.loop-all-test.ensures r.is r.moves.0 r.moves.1 c.add_all.ensures,
    )

pub returns : goal.returns
returns c =
    let e = c.loop-all-test.ensures in
    record { is = members_stop c.args.s.now c.args.n (seen set c.loop-all.all) c.loop-all.invariant.2 e; closes = (c.loop-all.invariant.0, stands_below c.args.s.now c.loop-all.all.next 93 e) }
