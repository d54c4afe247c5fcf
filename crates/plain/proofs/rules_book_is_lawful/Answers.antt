use Rattle.plain.proofs.Rules.{rules_book_is_lawful}
use Rattle.plain.proofs.rules_book_is_lawful.Goals as goal

pub returns : goal.returns
returns c = rules_book_is_lawful
