use Rattle.table.proofs.Kept.{cut_whole}
use Rattle.table.proofs.taken.whole.Goals as goal

pub invariant_of-result-clause-sound : goal.invariant_of-result-clause-sound
invariant_of-result-clause-sound c = cut_whole c.args.loaded.now c.args.rows.now c.requires
