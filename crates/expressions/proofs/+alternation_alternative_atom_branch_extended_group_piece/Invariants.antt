use Rattle.std.proofs.Common.{◌≡◌, ◌+◌, ◌-◌, ◌*◌, ◌<◌, ◌≤◌, length}
use Rattle.grammar.specs.Expressions.{inside, marked, repeated_more, piece_by, branch_goes_on, branch_more, branch_by, bar_ahead, alternation_more, alternation_by}
use Rattle.expressions.proofs.Growing.{Grown}
use Rattle.expressions.proofs.+alternation_alternative_atom_branch_extended_group_piece.Given as goal

-- The cycle falls by the bytes that are left and by the depth: both are less behind a `(`. Where a
-- function hands on to the next at the same place, the number at the end is less.
abbrev pub decreases-alternation : goal.decreases-alternation
decreases-alternation l = 8 * (length l.s.now - l.at + l.depth) + 6

abbrev pub decreases-alternative : goal.decreases-alternative
decreases-alternative l = 8 * (length l.s.now - l.all.at + l.depth) + 5

abbrev pub decreases-branch : goal.decreases-branch
decreases-branch l = 8 * (length l.s.now - l.at + l.depth) + 4

abbrev pub decreases-extended : goal.decreases-extended
decreases-extended l = 8 * (length l.s.now - l.all.at + l.depth) + 3

abbrev pub decreases-piece : goal.decreases-piece
decreases-piece l = 8 * (length l.s.now - l.at + l.depth) + 2

abbrev pub decreases-atom : goal.decreases-atom
decreases-atom l = 8 * (length l.s.now - l.at + l.depth) + 1

abbrev pub decreases-group : goal.decreases-group
decreases-group l = 8 * (length l.s.now - l.at + l.depth)

abbrev pub invariant-alternation-loop-work : goal.invariant-alternation-loop-work
invariant-alternation-loop-work l =
    (l.at < l.all.at) × (l.all.at ≤ length l.s) × (length l.work ≡ 1024)
    × Grown l.s (bar_ahead l.s) (alternation_more (inside l.depth l.s) l.s) (alternation_by (inside l.depth l.s) l.s l.at l.used) l.used l.initial.work l.work l.all

abbrev pub decreases-alternation-loop-work : goal.decreases-alternation-loop-work
decreases-alternation-loop-work l = length l.s - l.all.at

abbrev pub invariant-branch-loop-work : goal.invariant-branch-loop-work
invariant-branch-loop-work l =
    (l.at < l.all.at) × (l.all.at ≤ length l.s)
    × Grown l.s (branch_goes_on l.s) (branch_more (inside l.depth l.s) l.s) (branch_by (inside l.depth l.s) l.s l.at l.used) l.used l.initial.work l.work l.all

abbrev pub decreases-branch-loop-work : goal.decreases-branch-loop-work
decreases-branch-loop-work l = length l.s - l.all.at

abbrev pub invariant-piece-loop-mark : goal.invariant-piece-loop-mark
invariant-piece-loop-mark l =
    (l.at < l.all.at) × (l.all.at ≤ length l.s) × (length l.work ≡ 1024)
    × Grown l.s (marked l.s) (repeated_more l.s) (piece_by (inside l.depth l.s) l.s l.at l.used) l.used l.initial.work l.work l.all

abbrev pub decreases-piece-loop-mark : goal.decreases-piece-loop-mark
decreases-piece-loop-mark l = length l.s - l.all.at
