use Rattle.std.proofs.Common.{◌∙◌}
use Rattle.scan.specs.Traced.{memory_in, place_in}
use Rattle.scan.proofs.Found.{first_live}
use Rattle.scan.proofs.trace.Trace.first.Goals as goal

pub returns : goal.returns
returns g c =
    let t = c.args.self.now in
    (c.up_to.ensures.0 ∙ first_live (memory_in t) (place_in t) t.live t.alive, c.up_to.ensures.1)
