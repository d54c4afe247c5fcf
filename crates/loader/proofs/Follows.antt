-- After bytes, a loaded table stands at the row of the set that they lead to.
use Rattle.std.proofs.Common.{ap, ◌∙◌}
use Rattle.automaton.specs.Automaton.{start_set, trail_set}
use Rattle.table.specs.Memory.{Memory}
use Rattle.scan.specs.Listed.{row_after}
use Rattle.loader.specs.Load.{sets_of, memory_with}
use Rattle.loader.specs.Following.{TablesFollow}
use Rattle.loader.proofs.Numbers.{row_reached}
use Rattle.loader.proofs.Starts.{Ready, ready_with, start_known, start_is, trail_is}

pub tables_follow : TablesFollow
tables_follow file f n right few = record {
  from_start = λ c line s small.
      let k = row_reached f.rules (sets_of f n) mem ready.rows (ready.closed.from_rows few) (start_set f.rules 0 c line) s (start_known ready c line) small in
      (ap (λ r. row_after mem r s) (start_is ready c line) ∙ k.0, k.1);
  from_trail = λ i lt s small.
      let k = row_reached f.rules (sets_of f n) mem ready.rows (ready.closed.from_rows few) (trail_set f.rules 0 i) s (ready.closed.from_trails i lt) small in
      (ap (λ r. row_after mem r s) (trail_is ready i lt) ∙ k.0, k.1);
}
  where
    mem : Memory
    mem = memory_with f n

    ready : Ready file f (sets_of f n) n (memory_with f n)
    ready = ready_with file f n right few
