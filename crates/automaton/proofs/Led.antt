-- Bytes lead from a set along the paths that spell them.
use Rattle.std.proofs.Common.{[], ◌∷◌, arith}
use Rattle.automaton.specs.Reached.{LeadAlongPaths}
use Rattle.automaton.proofs.Steps.{to_path, from_path}
use Rattle.automaton.proofs.Parts.{takes_lie}

pub lead_along_paths : LeadAlongPaths
lead_along_paths rules small s [] t = (λ h. h, λ h. h)
lead_along_paths rules small s (b ∷ u) t = (
  to_path rules t b u s,
  λ k. from_path rules t (λ p b h. let j = takes_lie rules 0 p b h in omega (arith, small)) s k.1 k.2,
)
