use Rattle.std.proofs.Common.{◌≡◌, ℕ, ◌+◌, ◌^◌, Bool, sym, refl, ◌∙◌, arith, rules}
use lib.Bits.{bit_or}
use Rattle.std.proofs.lemmas.Nat.{one_shl}
use Rattle.bits.proofs.Words.{bit_zero}
use Rattle.automaton.specs.Automaton.{meets}
use Rattle.loader.specs.Machine.{members, set_at}
use Rattle.loader.proofs.MachineSets.{marks_more, marks_same}
use Rattle.loader.proofs.machine.marks.Goals as goal
use Rattle.loader.proofs.machine.marks.Goals.{then-share, else-share}

pub loop-i-init : goal.loop-i-init
loop-i-init c = record { bits = λ j. rw (bit_zero j) (search rules); few = omega arith }

pub loop-i-preserved : goal.loop-i-preserved
loop-i-preserved c =
    let i = c.loop-i.i in
    let so_far = c.loop-i.invariant in
    let now : ℕ → Bool = λ j. meets (members c.args.set.now) (set_at c.args.machine.now (c.args.base + j)) in
    elim c.if-share.branch [
      | then-share w ↦
          let one : c.if-share.marks ≡ bit_or c.loop-i.marks (2 ^ i) = rw (w.marks-is, one_shl i 64 (omega arith)) refl in
          rw one (marks_more c.loop-i.marks i now so_far.few so_far.bits (sym c.share.ensures ∙ w.if-share.true))
      | else-share w ↦ rw w.marks-is (marks_same c.loop-i.marks i now so_far.few so_far.bits (sym c.share.ensures ∙ w.if-share.false))
    ]
