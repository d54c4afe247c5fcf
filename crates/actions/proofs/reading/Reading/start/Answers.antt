use Rattle.std.proofs.Common.{rules}
use Rattle.actions.proofs.reading.Reading.start.Goals as goal

pub returns : goal.returns
returns c = search rules
