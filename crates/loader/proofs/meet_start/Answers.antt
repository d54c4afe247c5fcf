use Rattle.std.proofs.Common.{true, length, refl}
use Rattle.automaton.specs.Automaton.{start_set}
use Rattle.loader.specs.Machine.{members}
use Rattle.loader.specs.Building.{rows_of}
use Rattle.loader.proofs.Starting.{first_full, second_full, start_met}
use Rattle.loader.proofs.meet_start.Goals as goal

pub returns-in_err-inside-clause-meets : goal.returns-in_err-inside-clause-meets
returns-in_err-inside-clause-meets c =
    rw c.from_residual.ensures
    (λ qs a b. first_full qs (rows_of c.args.sets.now c.args.count) c.args.condition (members c.start_set.result) (start_set qs 0 c.args.condition true) (c.start_set.ensures.starts qs a b) refl
    (length c.meet.new.sets) c.in_err-inside.ensures)

pub returns-in_err-at_line_start-clause-meets : goal.returns-in_err-at_line_start-clause-meets
returns-in_err-at_line_start-clause-meets c =
    rw c.from_residual-in_err-at_line_start.ensures
    (λ qs a b. second_full qs (rows_of c.args.sets.now c.args.count) c.args.condition (members c.start_set.result) (members c.start_set-2.result) (c.start_set.ensures.starts qs a b) (c.start_set-2.ensures.starts qs a b)
    c.meet.new.sets c.meet-2.new.sets c.in_ok-inside.inside c.in_ok-inside.ensures (length c.meet-2.new.sets) c.in_err-at_line_start.ensures)

pub returns-clause-meets : goal.returns-clause-meets
returns-clause-meets c =
    λ qs a b. start_met qs (rows_of c.args.sets.now c.args.count) c.args.condition (members c.start_set.result) (members c.start_set-2.result) (c.start_set.ensures.starts qs a b) (c.start_set-2.ensures.starts qs a b)
    c.meet.new.sets c.meet-2.new.sets c.in_ok-inside.inside c.in_ok-inside.ensures c.in_ok-at_line_start.at_line_start c.in_ok-at_line_start.ensures
