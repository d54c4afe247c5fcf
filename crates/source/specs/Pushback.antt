-- What is left of a source with some bytes put back in front of it.
use Rattle.std.specs.Prelude.{ℕ, ◌-◌, ◌<◌, ◌≤◌, List, ◌++◌, All, length, drop}
use Rattle.std.proofs.Common.{arith, length-append, length-drop}
use Rattle.std.proofs.lemmas.List.Elements.{All-append, All-drop}
use Rattle.source.specs.declared.pushback.Pushback.{Pushback}

module _ {S : Type 0} where
  abbrev pub slack_of : Pushback S → ℕ
  slack_of s = 256 - s.returned.count

  pub slack_within : (s : Pushback S) → slack_of s ≤ 256
  slack_within s = omega arith

  module _ (below : S → List ℕ) where
    abbrev pub rest_with : Pushback S → List ℕ
    rest_with s = drop (256 - s.returned.count) s.returned.bytes ++ below s.below

    pub slack_supplied : (s : Pushback S) → 256 - slack_of s ≤ length (rest_with s)
    slack_supplied s = simp (length-append, length-drop) (omega arith)

    pub small_with :
        ((s : S) → All (λ b. b < 256) (below s)) →
        (s : Pushback S) → All (λ b. b < 256) (rest_with s)
    small_with small s =
        let Small : ℕ → Type 0 = λ b. b < 256 in
        All-append Small _ _
        (All-drop Small (256 - s.returned.count) s.returned.bytes s.returned.small)
        (small s.below)
