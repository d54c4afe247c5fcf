use Rattle.std.proofs.Common.{ap, sym, ◌∙◌, List, ℕ}
use Rattle.bits.specs.Set.{has}
use Rattle.loader.specs.Machine.{members}
use Rattle.loader.specs.Building.{rows_of}
use Rattle.loader.proofs.Leading.{leads_further, leads_full, leads_same, leads_nowhere}
use Rattle.loader.proofs.lead_on.Goals as goal

pub returns-then-same : goal.returns-then-same
returns-then-same c =
    let e = c.same.ensures.0 c.if-same.true in
    leads_same c.args.machine.now c.args.sets.now (members c.args.set.now) c.args.b c.args.previous c.requires.stored c.requires.led
    (λ p. ap (λ (ws : List ℕ). has ws p) (sym e) ∙ c.common-live.ensures.members p)

pub returns-then-is_empty : goal.returns-then-is_empty
returns-then-is_empty c =
    leads_nowhere c.args.machine.now c.args.sets.now c.args.previous.count (members c.args.set.now) c.args.b c.nowhere.result c.requires.stored c.nowhere.ensures.count c.nowhere.ensures.number c.nowhere.ensures.live
    (λ p. sym (c.common-live.ensures.members p) ∙ c.is_empty.ensures.0 c.if-is_empty.true p)

pub returns-in_err-met : goal.returns-in_err-met
returns-in_err-met c =
    rw c.from_residual.ensures (leads_full c.args.machine.now (rows_of c.args.sets.now c.args.previous.count) (members c.args.set.now) c.args.b c.meet_again.new.sets c.common-live.result c.common-live.ensures.members c.follow.result c.follow.ensures.members c.in_err-met.ensures)

pub returns : goal.returns
returns c =
    leads_further c.args.machine.now (rows_of c.args.sets.now c.args.previous.count) (members c.args.set.now) c.args.b c.meet_again.new.sets c.common-live.result c.common-live.ensures.members c.follow.result c.follow.ensures.members c.in_ok-met.met c.in_ok-met.ensures
