-- What a look sees, and one byte more of a copy.
use Rattle.std.proofs.Common.{◌≡◌, ℕ, ◌+◌, ◌<◌, List, length, get_or, set, take, ap, ◌∙◌, arith, length-take, Some, Option, unwrap_or}
use lib.Seq.{paste}
use Rattle.std.proofs.lemmas.List.{get_or-take}
use Rattle.std.proofs.lemmas.List.Edits.{paste_more}
use Rattle.std.proofs.lemmas.Option.{slice_get-get_or}
use Rattle.source.specs.Reach.{seen_of, byte_at}

seen : (rest : List ℕ) (k : ℕ) → k < seen_of rest → byte_at rest k ≡ Some (get_or rest k 0)
seen rest k h =
    slice_get-get_or (take (seen_of rest) rest) k 0 (omega (arith, length-take (seen_of rest) rest))
    ∙ ap Some (get_or-take (seen_of rest) rest k 0 h)

pub byte_is :
    (rest : List ℕ) (k b : ℕ) (o : Option ℕ) → k < seen_of rest → o ≡ byte_at rest k →
    b ≡ unwrap_or o 0 → b ≡ get_or rest k 0
byte_is rest k b o below looked is =
    is ∙ ap (λ (x : Option ℕ). unwrap_or x 0) (looked ∙ seen rest k below)

pub copied_more :
    (strip rest now : List ℕ) (at k b : ℕ) → at + k < length strip → k < length rest →
    now ≡ paste strip at rest k → b ≡ get_or rest k 0 →
    set now (at + k) b ≡ paste strip at rest (k + 1)
copied_more strip rest now at k b room below is byte =
    rw (is, byte) (paste_more strip at rest k 0 room below)
