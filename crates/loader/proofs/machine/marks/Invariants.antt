use Rattle.std.proofs.Common.{◌≡◌, ℕ, ◌+◌, ◌^◌, ◌<◌, ◌&&◌, ltb}
use Rattle.bits.specs.Set.{bit}
use Rattle.automaton.specs.Automaton.{meets}
use Rattle.loader.specs.Machine.{members, set_at}
use Rattle.loader.proofs.machine.marks.Given as goal

abbrev pub invariant-loop-i : goal.invariant-loop-i
invariant-loop-i l = record {
  bits : (j : ℕ) → bit l.marks j ≡ (ltb j l.i && meets (members l.set) (set_at l.machine (l.base + j)));
  few : l.marks < 2 ^ l.i;
}
