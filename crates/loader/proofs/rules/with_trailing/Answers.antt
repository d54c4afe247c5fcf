use Rattle.std.proofs.Common.{refl, arith}
use Rattle.loader.proofs.Joins.{joined_trailing}
use Rattle.loader.proofs.rules.with_trailing.Goals as goal

pub returns : goal.returns
returns c = λ e g m y.
    joined_trailing c.args.work.now c.link.new.work c.link-2.new.work c.keep.new.work c.args.place.end c.args.place.rule e g c.args.r.now c.args.x.now _ _ (omega arith) (omega arith) (omega arith) c.link.ensures c.link-2.ensures c.keep.ensures m y refl c.only-ends.ensures c.only-slashes.ensures c.trail_start-trail.ensures c.either.ensures.members
