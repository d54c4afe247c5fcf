use Rattle.std.proofs.Common.{Err, ◌∙◌}
use Rattle.grammar.specs.declared.Step.TheVariants.{Mark}
use Rattle.tokens.proofs.Follow.{thrown}
use Rattle.actions.proofs.Parts.{mark_from}
use Rattle.actions.proofs.mark.Goals as goal

pub returns-in_err-number-clause-is : goal.returns-in_err-number-clause-is
returns-in_err-number-clause-is c =
    thrown _ _ c.from_residual-in_err-number.ensures.1 ∙ mark_from c.args.s.now _ _ (Err c.in_err-number.field-0.0) c.in_ok-from.ensures (c.in_err-number.ensures.is Mark)

pub returns-clause-is : goal.returns-clause-is
returns-clause-is c = mark_from c.args.s.now _ _ _ c.in_ok-from.ensures (c.in_ok-number.ensures.is Mark)
