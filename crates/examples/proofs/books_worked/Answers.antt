use Rattle.examples.proofs.Books.{books_worked}
use Rattle.examples.proofs.books_worked.Goals as goal

pub returns : goal.returns
returns c = books_worked
