use Rattle.plain.proofs.Whole.{book_is_lawful}
use Rattle.plain.proofs.book_is_lawful.Goals as goal

pub returns : goal.returns
returns c = book_is_lawful
