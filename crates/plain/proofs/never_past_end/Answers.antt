use Rattle.plain.proofs.Whole.{never_past_end}
use Rattle.plain.proofs.never_past_end.Goals as goal

pub returns : goal.returns
returns c = never_past_end
