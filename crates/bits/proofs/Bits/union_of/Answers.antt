use Rattle.std.proofs.Common.{◌≡◌, ℕ, ◌+◌, ◌*◌, ◌||◌, [], sym, ap, ◌∙◌, arith}
use mathlib.Core.Bool.{or-false}
use Rattle.bits.specs.Set.{has, Whole}
use Rattle.std.proofs.lemmas.List.{get_or_default}
use Rattle.bits.specs.declared.Bits.{Bits}
use Rattle.bits.specs.Sets.{member}
use Rattle.bits.proofs.Unions.{filled, past_last, word_more, word_done, union_done}
use Rattle.bits.proofs.Bits.union_of.Goals as goal
use Rattle.bits.proofs.Bits.union_of.Goals.{then-k-sets, else-k-sets}

pub without_lowest-left-requires : goal.without_lowest-left-requires
without_lowest-left-requires g c = filled c.loop-b.left c.in-Some.b c.in-Some.ensures.2

pub loop-b-preserved : goal.loop-b-preserved
loop-b-preserved g c =
    let ws = c.args.self.now.words in
    let sets = c.args.sets.now in
    let u = c.loop-b.union.words in
    let i = c.loop-i.i in
    let b = c.in-Some.b in
    let more : record { whole : Whole g.row.V c.if-k-sets.union.words; joined : (j : ℕ) → has c.if-k-sets.union.words j ≡ (has u j || member sets (64 * i + b) j) } =
    elim c.if-k-sets.branch [
      | then-k-sets w ↦ rw w.union-is record {
        whole = w.either-union.ensures.whole;
        joined = λ j. w.either-union.ensures.members j
            ∙ ap (λ (s : Bits g.row.V). has u j || has s.words j) (w.index-sets-k.is ∙ get_or_default sets (64 * i + b) w.index-sets-k.result (record { words = [] }) (omega arith));
      }
      | else-k-sets w ↦ rw w.union-is record { whole = c.loop-b.invariant.before.whole; joined = λ j. let none = past_last sets (64 * i + b) j (omega arith) in rw none (sym (or-false (has u j))) }
    ] in
    word_more g.row.V ws sets u i c.loop-b.left c.loop-b.invariant b c.in-Some.ensures.1 c.in-Some.ensures.2 c.if-k-sets.union.words more.whole more.joined
    c.without_lowest-left.result c.without_lowest-left.type_inv (c.without_lowest-left.ensures.bits b c.in-Some.ensures)

pub loop-i-preserved : goal.loop-i-preserved
loop-i-preserved g c =
    word_done g.row.V c.args.self.now.words c.args.sets.now c.loop-b.union.words c.loop-i.i c.loop-b.left c.loop-b.invariant (λ b l. c.in_default.ensures b (omega arith) l)

pub returns-clause-members : goal.returns-clause-members
returns-clause-members g c =
    union_done g.row.V g.row.W c.args.self.now.words c.args.sets.now c.loop-i.union.words c.loop-i.i c.loop-i.invariant (omega arith) (omega arith) (omega arith)
