-- Memory in which some positions were linked to others: which sets changed, and how.
use Rattle.std.proofs.Common.{◌≡◌, ℕ, ◌+◌, ◌-◌, ◌<◌, ◌≤◌, true, false, ◌&&◌, ◌||◌, List, length, take, drop, refl, inl, inr, arith}
use mathlib.Core.Bool.{or-false, and-false}
use Rattle.std.proofs.lemmas.Bool.{le-leb, and_right}
use borrow.Rule.Slice.PartMut.{put_mid}
use Rattle.bits.specs.Set.{has}
use Rattle.positions.specs.Memory.{Work, member, roomy, between, Linked}
use Rattle.positions.specs.Laid.{Kept}
use Rattle.positions.proofs.Sets.{between_in, between_below, between_past, between_cases, member_part, part_member}

same_place : (p : ℕ) → 512 + p - 512 ≡ p
same_place p = omega arith

pub room : (w : Work) → 1024 ≤ length w → roomy w ≡ true
room w h = le-leb 1024 (length w) h

module _ (w w' : Work) (ends starts : List ℕ) (l : Linked w w' ends starts) where
  pub linked_order : (p q : ℕ) → 1024 ≤ length w → p < 512 → member w' (512 + p) q ≡ (member w (512 + p) q || (has ends p && has starts q))
  linked_order p q big h =
      let here = between_in 512 1024 (512 + p) (omega arith) (omega arith) in
      rw (l (512 + p) q, room w big, here, same_place p) refl

  -- what is no set of a position that is linked stays
  linked_apart : (k q : ℕ) → between 512 1024 k ≡ false → member w' k q ≡ member w k q
  linked_apart k q out =
      let off : (roomy w && between 512 1024 k) ≡ false = and_right (roomy w) (between 512 1024 k) out in
      rw (l k q, off, or-false) refl

  pub linked_low : (k q : ℕ) → k < 512 → member w' k q ≡ member w k q
  linked_low k q h = linked_apart k q (between_below 512 1024 k h)

  linked_none : (p q : ℕ) → has ends p ≡ false → member w' (512 + p) q ≡ member w (512 + p) q
  linked_none p q none = rw (l (512 + p) q, same_place p, none, and-false, or-false) refl

  -- a link from ends that lie from a on keeps what is below a
  pub kept_linked : (a : ℕ) → a ≤ 512 → ((p : ℕ) → p < a → has ends p ≡ false) → Kept a w w'
  kept_linked a h none = record {
    bytes = λ p q t. linked_low p q (omega arith);
    order = λ p q t. linked_none p q (none p t);
    others = λ k q t. linked_apart k q (between_past 512 1024 k t);
  }

-- the sets of what follows, linked one after another
pub part_linked : (w part : Work) (ends starts : List ℕ) → 1024 ≤ length w → length part ≡ 512
    → ((k q : ℕ) → k < 512 → member part k q ≡ (member (take 512 (drop 512 w)) k q || (has ends k && has starts q)))
    → Linked w (put_mid 512 512 w part) ends starts
part_linked w part ends starts big long link k q =
    elim (between_cases 512 1024 k) [
      | inl (low, high) ↦
          let here = between_in 512 1024 k low high in
          let back : 512 + (k - 512) ≡ k = omega arith in
          rw (member_part w part 512 512 k q (omega arith) long, room w big, here, link (k - 512) q (omega arith), part_member w 512 512 (k - 512) q (omega arith), back) refl
      | inr out ↦ rw (member_part w part 512 512 k q (omega arith) long, room w big, out, or-false) refl
    ]
