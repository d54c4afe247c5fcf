use Rattle.std.proofs.Common.{◌≡◌, ℕ, ◌+◌, ◌<◌, length, drop}
use Rattle.table.specs.Held.{memory_of}
use Rattle.table.specs.Readings.{IsStored}
use Rattle.scan.specs.Listing.{place_of}
use Rattle.scan.specs.Met.{row_met, Met}
use Rattle.scan.proofs.follow.run_to.Given as goal

-- the walk stands in the row that the bytes so far lead to, and the rows before it were met
abbrev pub invariant-loop-k : goal.invariant-loop-k
invariant-loop-k g l =
    let m = memory_of l.table in
    let p = place_of l.fn.start (g.S.Source.rest l.source) in
    record {
      of : l.walk.table.now ≡ l.table;
      row : l.walk.row ≡ row_met m p l.k;
      stored : (j : ℕ) → j < l.k → IsStored m (row_met m p (j + 1));
      met : Met m p l.met l.k;
      beyond : drop l.k l.met ≡ drop l.k l.initial.met;
      whole : length l.met ≡ 1024;
    }
