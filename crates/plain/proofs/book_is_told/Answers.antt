use Rattle.plain.proofs.Told.{book_is_told}
use Rattle.plain.proofs.book_is_told.Goals as goal

pub returns : goal.returns
returns c = book_is_told
