use Rattle.loader.proofs.Joins.{read_alone, read_trailing}
use Rattle.loader.proofs.rules.pattern_at.Goals as goal

pub returns-in_default-clause-gives : goal.returns-in_default-clause-gives
returns-in_default-clause-gives c =
    let m = c.in_ok-r.ensures.gives in
    let place = c.args.place in
    rw c.used_with.ensures (read_alone c.args.s.now c.args.at place.end place.rule c.args.work.now _ _ _ c.in_ok-r.r m _ c.in_default.is (c.in_ok-x.ensures.gives m.tree) c.without_trailing.ensures)

pub returns-clause-gives : goal.returns-clause-gives
returns-clause-gives c =
    let m = c.in_ok-r.ensures.gives in
    let place = c.args.place in
    rw c.used_with-2.ensures (read_trailing c.args.s.now c.args.at place.end place.rule c.args.work.now _ _ _ c.in_ok-r.r m _ c.in-Some.x c.in-Some.is (c.in_ok-x.ensures.gives m.tree) c.with_trailing.ensures)
