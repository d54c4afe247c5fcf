use Rattle.std.proofs.Common.{arith}
use Rattle.actions.proofs.Parts.{word_moves}
use Rattle.actions.proofs.numeral.Goals as goal

pub returns-clause-moves : goal.returns-clause-moves
returns-clause-moves c some =
    let m = word_moves c.args.s.now c.args.behind.now _ c.in_ok-next.next some c.in_ok-next.ensures in
    (omega (arith, m.0), m.1)
