use Rattle.std.proofs.Common.{arith}
use Rattle.grammar.specs.Outcome.{seen}
use Rattle.brackets.specs.Sets.{set}
use Rattle.brackets.proofs.Meant.{bracket_plain, bracket_not}
use Rattle.brackets.proofs.bracket.Goals as goal

pub returns-then-stands : goal.returns-then-stands
returns-then-stands c =
    let r = c.in_ok-inner.ensures in
    record {
      is = bracket_not c.args.s.now c.args.n (seen set c.in_ok-inner.inner) c.complement.result.words c.if-stands.ensures r.is c.complement.ensures;
      moves = (omega (arith, r.closes.0), omega (arith, r.closes.1));
    }

pub returns : goal.returns
returns c =
    let r = c.in_ok-inner-2.ensures in
    record {
      is = bracket_plain c.args.s.now c.args.n (seen set c.in_ok-inner-2.inner) c.if-stands.ensures r.is;
      moves = (omega (arith, r.closes.0), omega (arith, r.closes.1));
    }
