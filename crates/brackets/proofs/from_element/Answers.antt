use Rattle.std.proofs.Common.{arith}
use Rattle.brackets.proofs.Meant.{element_alone, element_ranges}
use Rattle.brackets.proofs.from_element.Goals as goal

pub returns-then-not-range_ahead : goal.returns-then-not-range_ahead
returns-then-not-range_ahead c =
    element_alone c.args.s.now c.args.n c.args.e c.only.result.words c.if-not-range_ahead.ensures (omega arith) c.only.ensures

pub returns : goal.returns
returns c =
    element_ranges c.args.s.now c.args.n c.args.e c.range.result.words c.in_ok-high.high
    c.if-not-range_ahead.ensures c.in_ok-high.ensures c.if-high-e.false c.range.ensures
