use Rattle.std.proofs.Common.{◌-◌, arith}
use Rattle.loader.proofs.Stored.{met_guessed}
use Rattle.loader.proofs.meet_again.Goals as goal

pub returns-in-Some : goal.returns-in-Some
returns-in-Some c = met_guessed c.args.sets.now c.args.count (c.args.count - 0) c.in-Some.k c.args.set.now c.requires (omega arith) c.in-Some.ensures
