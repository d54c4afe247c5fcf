use Rattle.std.proofs.Common.{sym}
use Rattle.grammar.specs.Expressions.{one_of}
use Rattle.expressions.proofs.Atoms.{one_is}
use Rattle.expressions.proofs.Growing.{gives_fault, then_fault}
use Rattle.expressions.proofs.one.Goals as goal

pub returns-in_err-chosen-clause-gives : goal.returns-in_err-chosen-clause-gives
returns-in_err-chosen-clause-gives c =
    let is = one_is c.args.s.now c.args.at c.args.used c.if-not-atom_ahead.ensures c.if-used-ge-POSITIONS.false in
    gives_fault _ _ _ _ c.from_residual.ensures.1 (then_fault (one_of c.args.used) is (sym c.in_err-chosen.ensures.is))
