use Rattle.std.proofs.Common.{rules}
use Rattle.actions.proofs.reading.Reading.step.Goals as goal

pub returns-in-Some-eq69-clause-is : goal.returns-in-Some-eq69-clause-is
returns-in-Some-eq69-clause-is c = search rules

pub returns-in-Some-eq69-clause-few : goal.returns-in-Some-eq69-clause-few
returns-in-Some-eq69-clause-few c = search rules

pub returns-in-Some-eq77-clause-is : goal.returns-in-Some-eq77-clause-is
returns-in-Some-eq77-clause-is c = search rules

pub returns-in-Some-eq77-clause-few : goal.returns-in-Some-eq77-clause-few
returns-in-Some-eq77-clause-few c = search rules

pub returns-in_default-clause-is : goal.returns-in_default-clause-is
returns-in_default-clause-is c = search rules
