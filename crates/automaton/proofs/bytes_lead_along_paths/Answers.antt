use Rattle.automaton.proofs.Led.{lead_along_paths}
use Rattle.automaton.proofs.bytes_lead_along_paths.Goals as goal

pub returns : goal.returns
returns c = lead_along_paths
