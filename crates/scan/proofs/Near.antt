-- A table looks no further than 1,024 bytes.
use Rattle.std.proofs.Common.{◌≡◌, ℕ, zero, suc, ◌≤◌, Bool, cond, ◌&&◌, List, [], ◌∷◌, ◌++◌, length, min, take, drop, sym, refl, ap, ◌∙◌, arith}
use Rattle.std.proofs.lemmas.List.{length-take}
use Rattle.bits.specs.Set.{bit}
use Rattle.table.specs.Memory.{Memory}
use Rattle.table.specs.Readings.{end_marks, slash_marks, trail_row}
use Rattle.places.specs.declared.Reading.{Reading}
use Rattle.places.specs.Listing.{Place, last_resort}
use Rattle.places.specs.Near.{near}
use Rattle.places.proofs.Near.{take_take}
use Rattle.scan.specs.Listed.{row_after, row_at_place, ended, fits}
use Rattle.scan.specs.Listing.{greatest, head_of, reading, of_total, up_to, of_rules}
use Rattle.scan.specs.Near.{TableNear}

-- tests that answer alike up to k have the same greatest number
greatest_alike : (test other : ℕ → Bool) (n k : ℕ) → ((h : ℕ) → h ≤ k → test h ≡ other h) → greatest test n k ≡ greatest other n k
greatest_alike test other n zero e = refl
greatest_alike test other n (suc k) e = rw (e (suc k) (omega arith), greatest_alike test other n k (λ h le. e h (omega arith)))

module _ (mem : Memory) (p : Place) where
  front : (n : ℕ) → n ≤ 1024 → take n (near p).rest ≡ take n p.rest
  front n le = take_take n 1024 p.rest le

  ended_near : (n i : ℕ) → n ≤ 1024 → ended mem p n i ≡ ended mem (near p) n i
  ended_near n i le = ap (λ s. bit (end_marks mem (row_at_place mem p s)) i) (sym (front n le))

  fits_near : (n i h : ℕ) → n ≤ 1024 → h ≤ n → fits mem p n i h ≡ fits mem (near p) n i h
  fits_near n i h le less =
      let of : List ℕ → List ℕ → Bool = λ s t. bit (slash_marks mem (row_at_place mem p s)) i && bit (end_marks mem (row_after mem (trail_row mem (suc i)) (drop h t))) i in
      ap (λ s. of s (take n p.rest)) (sym (front h (omega arith))) ∙ ap (of (take h (near p).rest)) (sym (front n le))

  reading_near : (n i : ℕ) → n ≤ 1024 → reading mem p n i ≡ reading mem (near p) n i
  reading_near n i le =
      let head : head_of mem p n i ≡ head_of mem (near p) n i = greatest_alike (fits mem p n i) (fits mem (near p) n i) n n (λ h less. fits_near n i h le less) in
      λ j. record { rule = suc i; total = n; head = head j }

  of_total_near : (n i k : ℕ) → n ≤ 1024 → of_total mem p n i k ≡ of_total mem (near p) n i k
  of_total_near n i zero le = refl
  of_total_near n i (suc k) le =
      let of : Bool → Reading → List Reading → List Reading = λ b d ds. cond b (d ∷ ds) ds in
      ap (λ b. of b (reading mem p n i) (of_total mem p n (suc i) k)) (ended_near n i le)
      ∙ ap (λ d. of (ended mem (near p) n i) d (of_total mem p n (suc i) k)) (reading_near n i le)
      ∙ ap (of (ended mem (near p) n i) (reading mem (near p) n i)) (of_total_near n (suc i) k le)

  up_to_near : (n : ℕ) → n ≤ 1024 → up_to mem p n ≡ up_to mem (near p) n
  up_to_near zero le = refl
  up_to_near (suc n) le =
      ap (λ ds. ds ++ up_to mem p n) (of_total_near (suc n) 0 64 le)
      ∙ ap (λ ds. of_total mem (near p) (suc n) 0 64 ++ ds) (up_to_near n (omega arith))

  of_rules_near : of_rules mem p ≡ of_rules mem (near p)
  of_rules_near =
      let same : min 1024 (length p.rest) ≡ min 1024 (length (near p).rest) = omega (arith, length-take 1024 p.rest) in
      up_to_near (min 1024 (length p.rest)) (omega arith) ∙ ap (up_to mem (near p)) same

resort_near : (s : List ℕ) → last_resort s ≡ last_resort (take 1024 s)
resort_near [] = refl
resort_near (b ∷ s) = refl

pub table_near : TableNear
table_near mem p = ap (λ ds. ds ++ last_resort p.rest) (of_rules_near mem p) ∙ ap (λ ds. of_rules mem (near p) ++ ds) (resort_near p.rest)
