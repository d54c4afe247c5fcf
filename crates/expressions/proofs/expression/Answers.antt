use Rattle.std.proofs.Common.{subst, arith}
use Rattle.positions.specs.Memory.{Work}
use Rattle.grammar.specs.Expressions.{alternation_at}
use Rattle.expressions.specs.Lays.{Gives}
use Rattle.expressions.proofs.Whole.{gives_whole}
use Rattle.expressions.proofs.expression.Goals as goal

pub returns-clause-gives : goal.returns-clause-gives
returns-clause-gives c =
    let chunk = c.in-Some.ensures.cases in
    let a = c.alternation.ensures in
    record {
      reads = λ h. gives_whole c.args.work.now c.alternation.new.work a.whole _ c.args.used c.alternation.result (subst (λ (w : Work). Gives (alternation_at c.args.s.now c.args.at c.args.used) c.args.used w c.alternation.new.work c.alternation.result) chunk.same a.gives);
      short = λ h. absurd (omega (arith, chunk.enough));
    }
