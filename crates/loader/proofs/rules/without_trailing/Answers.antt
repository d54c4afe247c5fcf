use Rattle.std.proofs.Common.{refl, arith}
use Rattle.loader.proofs.Joins.{joined_alone}
use Rattle.loader.proofs.rules.without_trailing.Goals as goal

pub returns : goal.returns
returns c = λ e u.
    joined_alone c.args.work.now c.link.new.work c.keep.new.work c.args.place.end c.args.place.rule e c.args.r.now _ (omega arith) (omega arith) c.link.ensures c.keep.ensures u refl c.only-ends.ensures c.empty.ensures.none c.empty-2.ensures.none
