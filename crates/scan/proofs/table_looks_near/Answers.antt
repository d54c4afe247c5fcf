use Rattle.scan.proofs.Near.{table_near}
use Rattle.scan.proofs.table_looks_near.Goals as goal

pub returns : goal.returns
returns c = table_near
