use Rattle.std.proofs.Common.{rules}
use Rattle.table.specs.Zeros.{no_rule}
use Rattle.table.proofs.loaded.no_rule.Goals as goal

pub returns : goal.returns
unfolding no_rule
returns c = search rules
