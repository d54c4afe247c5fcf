use Rattle.std.proofs.Common.{sym, rules}
use Rattle.positions.proofs.Sets.{both_copied, not_copied}
use Rattle.positions.proofs.copied.Goals as goal
use Rattle.positions.proofs.copied.Goals.{then-is_copiable, else-is_copiable}

pub returns : goal.returns
returns c =
    let a = c.args in
    record {
      nullable = search rules;
      first = search rules;
      last = search rules;
      memory =
          elim c.if-is_copiable.branch [
            | then-is_copiable w ↦ rw w.work-is (both_copied a.work.now w.copy_sets.new.work w.move_sets.new.work a.from a.count a.by (sym w.if-is_copiable.ensures) w.copy_sets.ensures w.move_sets.ensures)
            | else-is_copiable w ↦ rw w.work-is (not_copied a.work.now a.from a.count a.by (sym w.if-is_copiable.ensures))
          ];
    }
