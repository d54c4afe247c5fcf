use Rattle.std.proofs.Common.{rules}
use Rattle.table.specs.Zeros.{no_row}
use Rattle.table.proofs.loaded.Row.zeros.Goals as goal

pub returns : goal.returns
unfolding no_row
returns c = search rules
