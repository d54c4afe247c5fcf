use Rattle.std.proofs.Common.{[], sym, subst}
use Rattle.table.specs.declared.loaded.Loaded.{Loaded}
use Rattle.table.specs.Memory.{IsTable, memory}
use Rattle.table.proofs.Kept.{initial_whole}
use Rattle.table.proofs.taken.initial.Goals as goal

pub invariant_of-result-clause-sound : goal.invariant_of-result-clause-sound
invariant_of-result-clause-sound c = subst (λ (l : Loaded). IsTable (memory (record l { condition_count = 1 }) [])) (sym c.zeros.ensures) initial_whole
