use Rattle.std.proofs.Common.{rules}
use Rattle.report.proofs.shown.Goals as goal

pub returns-then-matches : goal.returns-then-matches
returns-then-matches c = search rules
