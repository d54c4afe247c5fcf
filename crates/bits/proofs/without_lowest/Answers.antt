use Rattle.std.proofs.Common.{arith}
use Rattle.bits.proofs.Lowest.{without}
use Rattle.bits.proofs.without_lowest.Goals as goal

pub returns-clause-bits : goal.returns-clause-bits
returns-clause-bits c = λ b f i. without c.args.w b f.2 (λ j l. f.3 j (omega arith) l) i
