-- Why a next is refused where the strip has room.
use Rattle.std.proofs.Common.{◌≡◌, ℕ, ◌≤◌, List, [], ◌∷◌, Some, refl, rules}
use Rattle.reader.specs.declared.fault.ScanFault.{ScanFault}
use Rattle.reader.specs.declared.fault.ScanFault.TheVariants.{NothingLeft}
use Rattle.reader.specs.Refusals.{next_refusal}

pub next_denied :
    (strip : ℕ) (rest : List ℕ) (fault : ScanFault) → 4096 ≤ strip →
    next_refusal strip rest ≡ Some fault → (fault ≡ NothingLeft) × (rest ≡ [])
next_denied strip [] fault room e = let one : fault ≡ NothingLeft = search rules in (one, refl)
next_denied strip (b ∷ rest) fault room e = absurd (search rules)
