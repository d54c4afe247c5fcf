-- What is dropped of returned bytes and of the rest below them.
use Rattle.std.proofs.Common.{◌≡◌, ℕ, ◌+◌, ◌-◌, ◌≤◌, List, [], ◌++◌, length, drop}
use Rattle.std.proofs.Common.{ap, sym, ◌∙◌, arith, length-drop}
use Rattle.std.proofs.Math.ListN.{drop_of_length-le}
use Rattle.std.proofs.Math.Seq.{drop-append-add}

-- of 256 bytes the last `count` stand before ys, and no more of ys is dropped than n leaves
pub front_gone :
    (n count : ℕ) (bytes ys new : List ℕ) →
    length bytes ≡ 256 → count ≤ 256 → count ≤ n →
    new ≡ drop (n - count) ys → drop 256 bytes ++ new ≡ drop n (drop (256 - count) bytes ++ ys)
front_gone n count bytes ys new whole within past gone =
    let front = drop (256 - count) bytes in
    let long : length front ≡ count = simp length-drop (omega arith) in
    let all : length bytes ≤ 256 = omega arith in
    let none : drop 256 bytes ≡ [] = drop_of_length-le bytes all in
    let split : length front + (n - count) ≡ n = omega arith in
    ap (λ (zs : List ℕ). zs ++ new) none
    ∙ gone
    ∙ sym (drop-append-add front ys (n - count))
    ∙ ap (λ (k : ℕ). drop k (front ++ ys)) split
