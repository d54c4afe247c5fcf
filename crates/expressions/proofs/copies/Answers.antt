use Rattle.std.proofs.Common.{ℕ, suc, ◌+◌, ◌-◌, ◌*◌, ◌≤◌, sym, subst, arith}
use Rattle.expressions.proofs.Copying.{again, all_copies}
use Rattle.expressions.proofs.copies.Goals as goal

pub loop-k-preserved : goal.loop-k-preserved
loop-k-preserved c = (
  omega arith,
  λ e se start.
      again c.args.interval e c.args.base c.extra-last.result c.args.size c.args.x.now c.formed-all.new.work c.loop-k.work _ _ _ c.loop-k.k (c.loop-k.k - 1) c.loop-k.all _ _ _
      (omega arith) se (subst (λ (h : ℕ). c.args.base + suc h * c.args.size ≤ 512) (sym c.extra-last.ensures) c.requires) (omega arith) (omega arith) (c.loop-k.invariant.1 e se start) c.copied-copy-in-loop-k.ensures c.formed-next.ensures c.sequence-all.ensures,
)

pub returns : goal.returns
returns c = all_copies c.args.interval c.args.base c.extra-last.result c.args.size c.loop-k.k c.args.x.now c.args.work.now _ _ c.loop-k.work _ _ c.loop-k.all
    c.extra-last.ensures (omega arith) (omega arith) c.copied-copy.ensures c.formed-all.ensures c.loop-k.invariant.1
