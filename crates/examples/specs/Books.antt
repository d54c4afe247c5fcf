-- Books, worked out.
use Rattle.std.specs.Prelude.{◌≡◌, ℕ, ◌+◌, List, [], ◌∷◌, length, Ok, codes}
use Rattle.std.specs.Str.{byte}
use Rattle.grammar.specs.File.{RuleFile, rule_file_of}
use Rattle.places.specs.declared.Reading.{Reading}
use Rattle.places.specs.Listing.{Place}
use Rattle.plain.specs.declared.Line.{Line}
use Rattle.plain.specs.declared.Line.TheVariants.{Next, Reject, Accept, Keep, Extend, Begin, PutBack}
use Rattle.plain.specs.declared.Answer.{Answer}
use Rattle.plain.specs.Book.{World, opened, answer, answers}
use Rattle.plain.specs.Transcript.{latest_first}
use Rattle.plain.specs.Strip.{strip_told}
use Rattle.plain.specs.Theorems.{ListsRules}
use Rattle.examples.specs.Worked.{reading}

-- a granted next or reject: the reading, and yyleng with so many bytes kept before it
abbrev pub gives : Reading → ℕ → Answer
gives found kept = record {
  number = 0;
  rule = found.rule;
  total = found.total;
  head = found.head;
  yyleng = kept + found.head;
  taken = 0;
}

-- other lines
abbrev pub took : ℕ → Answer
took n = answer 0 n

abbrev pub refused : ℕ → Answer
refused number = answer number 0

-- the book of a rule file, over a source that takes back so many bytes at most
abbrev pub world_of : RuleFile → ℕ → (Place → List Reading) → World
world_of file capacity listing = record {
  conditions = length file.conditions.names;
  capacity = capacity;
  listing = listing;
}

-- the rule file is right, and whatever lists by its rules, the plain book over this text answers
-- these lines so; the source takes back so many bytes at most, and at opening none yet
abbrev pub Answers : List ℕ → List ℕ → ℕ → List Line → List Answer → Type 0
Answers file text capacity lines told =
    (f : RuleFile) × (rule_file_of file ≡ Ok f) × ((listing : Place → List Reading) →
    ListsRules f.rules listing →
    answers (world_of f capacity listing) (opened text 0) lines ≡ told)

pub record BooksWorked : Type 0 where
  -- next and reject in their order, and what is refused
  pub one_rule :
      Answers (codes "%%\na ;\n") (codes "a") 0
      (Reject ∷ Next ∷ Next ∷ Reject ∷ Reject ∷ Accept ∷ Next ∷ [])
      (refused 31 ∷ gives (reading 1 1 1) 0 ∷ refused 32 ∷ gives (reading 0 1 1) 0
      ∷ refused 22 ∷ took 1 ∷ refused 21 ∷ [])
  -- keep counts from the kept bytes on
  pub kept :
      Answers (codes "%%\nab ;\nc ;\n") (codes "abc") 0
      (Next ∷ Extend ∷ Next ∷ Keep 2 ∷ Keep 3 ∷ [])
      (gives (reading 1 2 2) 0 ∷ took 2 ∷ gives (reading 2 1 1) 2 ∷ refused 23 ∷ took 1 ∷ [])
  -- a byte is put back only if one was taken, and it leaves the mark of line start as it was
  pub put_back :
      Answers (codes "%%\n^a ;\n") (codes "a") 2
      (PutBack (byte "a") ∷ Next ∷ Accept ∷ PutBack (byte "a") ∷ Begin 1 ∷ Next ∷ Accept ∷ [])
      (refused 12 ∷ gives (reading 1 1 1) 0 ∷ took 1 ∷ took 0
      ∷ refused 25 ∷ gives (reading 0 1 1) 0 ∷ took 1 ∷ [])
  -- the strip of the second of these
  pub strip :
      strip_told (codes "abc") (codes "-----")
      (latest_first (Next ∷ Extend ∷ Next ∷ [])
      (gives (reading 1 2 2) 0 ∷ took 2 ∷ gives (reading 2 1 1) 2 ∷ []) [])
      ≡ codes "abc--"
