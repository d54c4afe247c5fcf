use Rattle.std.proofs.Common.{rules}
use Rattle.brackets.proofs.element.Goals as goal

pub returns-in-Some-eq92 : goal.returns-in-Some-eq92
returns-in-Some-eq92 c = search rules
