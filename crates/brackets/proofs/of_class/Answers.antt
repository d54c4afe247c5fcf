use Rattle.std.proofs.Common.{rules, ◌<◌, ◌≤◌, ◌∙◌, sym, ⊎_elim}
use Rattle.std.proofs.lemmas.Bool.{cases_lt}
use Rattle.brackets.proofs.Meant.{class_beyond}
use Rattle.brackets.proofs.of_class.Goals as goal

pub returns : goal.returns
returns c = λ b. ⊎_elim (λ (lt : b < 256). search (rules, c.bytes_where.ensures.tested b lt)) (λ (le : 256 ≤ b). c.bytes_where.ensures.within b le ∙ sym (class_beyond c.args.class b le)) (cases_lt b 256)
