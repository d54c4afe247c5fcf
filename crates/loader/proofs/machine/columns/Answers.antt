use Rattle.std.proofs.Common.{◌-◌, sym, subst, arith}
use Rattle.loader.proofs.Columns.{Column, column_is, columns_more}
use Rattle.loader.proofs.machine.columns.Goals as goal

pub loop-b-preserved : goal.loop-b-preserved
loop-b-preserved c =
    let m = c.args.machine.now in
    let b = c.loop-b.b in
    columns_more m c.loop-b.columns b _ (omega arith) c.loop-b.invariant
    (subst (Column m b) (sym c.unwrap_or.ensures) (column_is m b (b - 0) c.find.result (omega arith) (omega arith) c.find.ensures))
