use Rattle.std.proofs.Common.{refl}
use Rattle.actions.proofs.Parts.{word_moves}
use Rattle.actions.proofs.worded.Goals as goal

pub returns-clause-past : goal.returns-clause-past
returns-clause-past c some =
    let m = word_moves c.args.s.now c.args.word.now c.args.n c.in_ok-next.next some c.in_ok-next.ensures in
    record { on = m.0; within = m.1; after = refl }
