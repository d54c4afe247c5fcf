use Rattle.std.proofs.Common.{Err, ◌∙◌}
use Rattle.grammar.specs.declared.Step.TheVariants.{Less}
use Rattle.tokens.proofs.Follow.{thrown}
use Rattle.actions.proofs.Parts.{less_from}
use Rattle.actions.proofs.more_or_less.Goals as goal

pub returns-in_err-number-clause-is : goal.returns-in_err-number-clause-is
returns-in_err-number-clause-is c =
    thrown _ _ c.from_residual-in_err-number.ensures.1 ∙ less_from c.args.s.now _ _ _ (Err c.in_err-number.field-0.0) c.in_ok-from.ensures c.if-stands.ensures c.in_ok-inside.ensures (c.in_err-number.ensures.is Less)

pub returns-clause-is : goal.returns-clause-is
returns-clause-is c = less_from c.args.s.now _ _ _ _ c.in_ok-from.ensures c.if-stands.ensures c.in_ok-inside.ensures (c.in_ok-number.ensures.is Less)
