-- A step of a reader and a line that are known by an arm.
use Rattle.std.proofs.Common.{◌≡◌, sym, subst}
use Rattle.plain.specs.declared.Line.{Line}
use Rattle.plain.specs.declared.Answer.{Answer}
use Rattle.plain.specs.Book.{World}
use Rattle.reader.specs.Follows.{Around, Follows}
use Rattle.reader.specs.declared.reader.Reader.{Reader}

module _ (world : World) (old new : Around) (result : Reader × Answer) where
  pub same_step :
      (s t : Reader) (l m : Line) → s ≡ t → l ≡ m → Follows world m old t new result →
      Follows world l old s new result
  same_step s t l m e f follows =
      let by_state : Follows world m old s new result =
      subst (λ (x : Reader). Follows world m old x new result) (sym e) follows in
      subst (λ (x : Line). Follows world x old s new result) (sym f) by_state
