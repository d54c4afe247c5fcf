use Rattle.std.proofs.Common.{ℕ, ◌<◌, arith}
use Rattle.std.proofs.lemmas.List.Elements.{All-replicate}
use Rattle.source.proofs.pushback.Pushback.new.Goals as goal

-- zeros are bytes
pub invariant_of-result-clause-small : goal.invariant_of-result-clause-small
invariant_of-result-clause-small g c =
    let Small : ℕ → Type 0 = λ b. b < 256 in All-replicate Small 256 0 (omega arith)
