use Rattle.std.proofs.Common.{length, arith}
use Rattle.grammar.specs.Bytes.{blank}
use Rattle.tokens.proofs.Items.{span_within}
use Rattle.actions.proofs.reading.past_blanks.Goals as goal

pub overflow_add-result : goal.overflow_add-result
overflow_add-result c = omega (arith, span_within blank c.args.s.now (length c.args.s.now) c.args.n c.requires)

pub returns-clause-moves : goal.returns-clause-moves
returns-clause-moves c = (omega arith, omega (arith, span_within blank c.args.s.now (length c.args.s.now) c.args.n c.requires))
