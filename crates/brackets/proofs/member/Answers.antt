use Rattle.std.proofs.Common.{◌∙◌}
use Rattle.brackets.proofs.Meant.{member_element, moved}
use Rattle.brackets.proofs.member.Goals as goal

pub returns-then-not-reserved : goal.returns-then-not-reserved
returns-then-not-reserved c =
    let e = c.from_element.ensures ∙ member_element c.args.s.now c.args.first c.args.n c.in_ok-e.e c.if-stands.ensures c.if-not-reserved.ensures c.in_ok-e.ensures in
    record { is = e; moves = moved c.from_element.result c.args.s.now c.args.first c.args.n e }
