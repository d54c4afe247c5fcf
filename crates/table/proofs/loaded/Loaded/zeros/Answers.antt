use Rattle.std.proofs.Common.{rules}
use Rattle.table.specs.Zeros.{zeros, no_start}
use Rattle.table.proofs.loaded.Loaded.zeros.Goals as goal

pub returns : goal.returns
unfolding zeros no_start
returns c = search rules
