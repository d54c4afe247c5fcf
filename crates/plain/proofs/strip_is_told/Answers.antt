use Rattle.plain.proofs.Told.{strip_is_told}
use Rattle.plain.proofs.strip_is_told.Goals as goal

pub returns : goal.returns
returns c = strip_is_told
