use Rattle.std.proofs.Common.{ℕ, ◌+◌, subst}
use Rattle.grammar.specs.File.{pattern_at}
use Rattle.conditions.specs.Known.{known}
use Rattle.loader.specs.Marks.{PatternRead}
use Rattle.loader.proofs.HeldRules.{started, body_reads}
use Rattle.loader.proofs.rules.rule_body.Goals as goal

pub returns : goal.returns
returns c =
    let s = c.args.s.now in
    let a = c.args.active.now in
    let u = c.args.place.end in
    let k = c.args.place.rule in
    let p = c.in_ok-used.field-0 in
    let q : PatternRead (pattern_at s (started s a.next) (u + 1)) u k c.args.work.now c.pattern_at.new.work p =
    subst (λ (n : ℕ). PatternRead (pattern_at s n (u + 1)) u k c.args.work.now c.pattern_at.new.work p) c.past_anchor.ensures c.in_ok-used.ensures.gives in
    body_reads s (known c.args.conditions.now) u k c.args.work.now c.pattern_at.new.work a p q c.in_ok-action.action _ c.either-whole.result c.args.place.few c.stands-anchored.ensures c.in_ok-action.ensures
    c.either-whole.ensures.members c.either-whole.ensures.whole
