use Rattle.std.proofs.Common.{◌∙◌, sym, arith}
use Rattle.expressions.proofs.Atoms.{bytes_any, bytes_one}
use Rattle.expressions.proofs.bytes_at.Goals as goal

pub returns-in-46-clause-is : goal.returns-in-46-clause-is
returns-in-46-clause-is c = bytes_any c.args.s.now c.args.n _ c.requires c.in-46.is c.any_but_newline.ensures

pub returns-in_default-clause-is : goal.returns-in_default-clause-is
returns-in_default-clause-is c = c.only_byte-in_default.ensures ∙ sym (bytes_one c.args.s.now c.args.n c.requires (λ e. omega (arith, e)) (λ e. omega (arith, e)) (λ e. omega (arith, e)))
