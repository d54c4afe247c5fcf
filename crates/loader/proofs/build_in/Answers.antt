use Rattle.std.proofs.Common.{arith}
use Rattle.loader.proofs.Built.{read_in_front}
use Rattle.loader.proofs.build_in.Goals as goal

pub returns : goal.returns
returns c =
    λ f r. c.build.ensures f (read_in_front f c.args.work.now c.in_ok-work.machine.now 1792 c.args.positions c.args.loaded.now c.args.rows.now c.in_ok-work.ensures.cases.0 (omega arith) (omega arith) c.requires.rules r)
