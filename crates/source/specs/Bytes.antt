-- What is left of bytes is made of bytes.
use Rattle.std.specs.Prelude.{ℕ, ◌<◌, List, drop, All}
use Rattle.std.proofs.lemmas.List.Elements.{All-drop}

pub all_dropped : (n : ℕ) (s : List ℕ) → All (λ b. b < 256) s → All (λ b. b < 256) (drop n s)
all_dropped n s h = All-drop (λ b. b < 256) n s h
