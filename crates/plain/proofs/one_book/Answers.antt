use Rattle.plain.proofs.Rules.{one_book}
use Rattle.plain.proofs.one_book.Goals as goal

pub returns : goal.returns
returns c = one_book
