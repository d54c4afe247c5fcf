-- A book that is kept by the rules of a file.
use Rattle.std.specs.Prelude.{◌≡◌, ℕ, List, length, Ok, Err, Some, None, Option}
use Rattle.grammar.specs.Outcome.{Out}
use Rattle.grammar.specs.File.{RuleFile, rule_file_of}
use Rattle.places.specs.declared.Reading.{Reading}
use Rattle.places.specs.Listing.{Place, Listing}
use Rattle.plain.specs.declared.Line.{Line}
use Rattle.plain.specs.declared.Answer.{Answer}
use Rattle.plain.specs.Book.{World}
use Rattle.plain.specs.Lawful.{Lawful}
use Rattle.plain.specs.Theorems.{ListsRules}
use Rattle.loader.specs.declared.Sizes.{Sizes}
use Rattle.reader.specs.declared.whole.BookFault.{BookFault}
use Rattle.reader.specs.Follows.{Around}
use Rattle.reader.specs.Kept.{entries_of, IsKept, IsTold}
use Rattle.rule_book.specs.declared.fault.RuleBookFault.{RuleBookFault}
use Rattle.rule_book.specs.declared.fault.RuleBookFault.TheVariants.{Load as OfLoad, Book as OfBook}

-- the file comes first, and then the book
abbrev pub rules_refusal : Out Sizes → Option BookFault → Option RuleBookFault
rules_refusal (Err fault) keeping = Some (OfLoad fault)
rules_refusal (Ok sizes) (Some fault) = Some (OfBook fault)
rules_refusal (Ok sizes) None = None

-- what a book by the rules of a file stands on, where this is listed
abbrev pub world_by : RuleFile → ℕ → (Place → List Reading) → World
world_by f capacity listing = record {
  conditions = length f.conditions.names;
  capacity = capacity;
  listing = listing;
}

-- by any listing of the file's rules the book is the plain book, and its entries keep the laws by
-- the listing of the rules
pub record IsKeptByRules (file : List ℕ) (capacity : ℕ) (lines : List Line) (old : Around)
    (room : List Answer) (new : Around) (written : List Answer) : Type 0 where
  pub says : RuleFile
  pub right : rule_file_of file ≡ Ok says
  pub kept :
      (listing : Place → List Reading) → ListsRules (says).rules listing →
      IsKept (world_by says capacity listing) lines old room new written
  pub lawful : Lawful (Listing (says).rules) old.rest (entries_of lines written)
  pub told : IsTold capacity old new (entries_of lines written)
