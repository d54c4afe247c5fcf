-- The rows that are met, byte by byte.
use Rattle.std.proofs.Common.{◌≡◌, ℕ, ◌+◌, ◌<◌, ◌≤◌, List, length, get_or, get_or-set_other, get_or-set_same, set, take, drop, min, Some, None, Option, is_some, Bool, not, true, sym, ap, ◌∙◌, inl, inr, arith}
use Rattle.std.proofs.lemmas.Bool.{cases_eq, both_ways}
use Rattle.std.proofs.lemmas.List.{drop-set-lt, drop-drop}
use Rattle.std.proofs.lemmas.Option.{same_Some}
use Rattle.table.specs.Memory.{Memory}
use Rattle.table.specs.Held.{memory_of, StandsAt}
use Rattle.table.specs.declared.held.Table.{Table}
use Rattle.table.specs.declared.held.Walk.{Walk}
use Rattle.places.specs.Listing.{Place}
use Rattle.table.specs.Readings.{next_row}
use Rattle.source.specs.Reach.{seen_of, byte_at}
use Rattle.scan.specs.Listed.{row_after}
use Rattle.scan.proofs.Steps.{seen, row_more, row_less}
use Rattle.table.specs.Readings.{IsStored}
use Rattle.scan.specs.Met.{row_met, IsLive, Met}

-- the row t that byte k, which a text shows, leads to from row r of the same rows
pub next_met : (mem same : Memory) (q : ℕ) (rest : List ℕ) (k r t b : ℕ) → k < seen_of rest → same ≡ mem → r ≡ row_after mem q (take k rest) → Some b ≡ byte_at rest k → t ≡ next_row same r b
    → t ≡ row_after mem q (take (k + 1) rest)
next_met mem same q rest k r t b h e f s n =
    let byte : b ≡ get_or rest k 0 = same_Some b (get_or rest k 0) (s ∙ seen rest k h) in
    row_more mem q rest k r t (omega arith) f (n ∙ ap (λ o. next_row o r b) e ∙ ap (next_row mem r) byte)

-- one byte less of those from k to n: what is left leads from row t where it led from row q
pub less_met : (mem same : Memory) (q t b : ℕ) (rest : List ℕ) (k n r : ℕ) → k < n → n ≤ length rest → n ≤ 1024 → same ≡ mem → Some b ≡ byte_at rest k → t ≡ next_row same q b
    → row_after mem q (drop k (take n rest)) ≡ r → row_after mem t (drop (k + 1) (take n rest)) ≡ r
less_met mem same q t b rest k n r h within few e s f left =
    let byte : b ≡ get_or rest k 0 = same_Some b (get_or rest k 0) (s ∙ seen rest k (omega arith)) in
    row_less mem q rest k n t r h within (f ∙ ap (λ o. next_row o q b) e ∙ ap (next_row mem q) byte) left

-- a row that is written at k is kept, and so are those before it
module _ (mem : Memory) (p : Place) where
  pub met_more : (met : List ℕ) (k t : ℕ) → k < length met → t ≡ row_met mem p (k + 1) → Met mem p met k → Met mem p (set met k t) (k + 1)
  met_more met k t h e old j lt = elim (cases_eq j k) [
    | inl same ↦ rw same (get_or-set_same met k t 0 h ∙ e)
    | inr ne ↦ get_or-set_other met k j t 0 ne ∙ old j (omega arith)
  ]

  pub live_up_to : (k : ℕ) → k < min 1024 (length p.rest) → ((j : ℕ) → j < k → IsStored mem (row_met mem p (j + 1))) → 0 ≡ row_met mem p (k + 1) → IsLive mem p k
  live_up_to k h stored z = record { most = omega arith; within = omega arith; stored = stored; all = λ short. sym z }

-- and behind k nothing is changed
pub beyond_more : (met old : List ℕ) (k t : ℕ) → drop k met ≡ drop k old → drop (k + 1) (set met k t) ≡ drop (k + 1) old
beyond_more met old k t e = drop-set-lt (k + 1) met k t (omega arith) ∙ sym (drop-drop 1 k met) ∙ ap (drop 1) e ∙ drop-drop 1 k old

-- where a walk stands, there is a row
pub stands_stored : (t : Table) (w : Walk) (r : ℕ) → w.table.now ≡ t → w.row ≡ r → IsStored (memory_of t) r
stands_stored t w r same at =
    let within : length w.table.now.rows.now ≡ length t.rows.now = ap (λ (x : Table). length x.rows.now) same in
    (omega (arith, w.some), omega (arith, w.stored))

-- and where there is none, it is row 0
pub stands_nowhere : (t : Table) (r : ℕ) (o : Option Walk) (b : Bool) → is_some o ≡ not b → b ≡ true → StandsAt t r o → r ≡ 0
stands_nowhere t r None b e f s = s
stands_nowhere t r (Some w) b e f s = absurd (both_ways (not b) (ap not f) (sym e))
