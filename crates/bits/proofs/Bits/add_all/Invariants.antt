use Rattle.std.proofs.Common.{◌≡◌, ℕ, ◌<◌, ◌≤◌, length, get_or}
use lib.Bits.{bit_or}
use Rattle.bits.proofs.Bits.add_all.Given as goal

-- the words below i are joined, the others are as they were
abbrev pub invariant-loop-i : goal.invariant-loop-i
invariant-loop-i g l =
    (length l.word-items ≡ length l.other.words)
    × ((k : ℕ) → k < l.i → get_or l.word-items k 0 ≡ bit_or (get_or l.initial.word-items k 0) (get_or l.other.words k 0))
    × ((k : ℕ) → l.i ≤ k → get_or l.word-items k 0 ≡ get_or l.initial.word-items k 0)
