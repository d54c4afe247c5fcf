-- What is proved of the plain book.
use Rattle.std.specs.Prelude.{◌≡◌, ℕ, ◌+◌, ◌<◌, ◌≤◌, true, List, [], Some, ⊤, All, AllPairs}
use Rattle.grammar.specs.File.{RuleText}
use Rattle.places.specs.declared.Reading.{Reading}
use Rattle.places.specs.Listing.{Place, Listing}
use Rattle.places.specs.Order.{comes_after}
use Rattle.plain.specs.declared.Line.{Line}
use Rattle.plain.specs.declared.Line.TheVariants.{PutBack}
use Rattle.plain.specs.Book.{World, Plain, opened, after, answers}
use Rattle.plain.specs.Transcript.{Entry, latest_first, place_told, kept_told, slack_told, offered, in_hand}
use Rattle.plain.specs.Strip.{strip_told, strip_after}
use Rattle.plain.specs.Lawful.{MayTake, Lawful}

-- a listing is right if it is in order, and its heads may be taken
pub record IsListedRight (listing : Place → List Reading) : Type 0 where
  pub in_order :
      (place : Place) →
      AllPairs (λ one later. comes_after one.rule one.total later ≡ true) (listing place)
  pub heads : (place : Place) → All (λ reading. MayTake place.rest reading.head) (listing place)

-- the lines with the plain book's answers
abbrev pub transcript : World → List ℕ → ℕ → List Line → List Entry
transcript world supplied slack lines =
    latest_first lines (answers world (opened supplied slack) lines) []

-- what entries tell of a book over a source of this capacity, with these bytes and this slack
abbrev pub book_told : ℕ → List ℕ → ℕ → List Entry → Plain
book_told capacity supplied slack entries = record {
  place = place_told supplied entries;
  kept = kept_told entries;
  slack = slack_told capacity slack entries;
  offered = offered entries;
  hand = in_hand entries;
}

abbrev pub BookIsTold : Type 0
BookIsTold =
    (world : World) (supplied : List ℕ) (slack : ℕ) (lines : List Line) →
    after world (opened supplied slack) lines
    ≡ book_told world.capacity supplied slack (transcript world supplied slack lines)

abbrev pub StripIsTold : Type 0
StripIsTold =
    (world : World) (supplied : List ℕ) (slack : ℕ) (strip : List ℕ) (lines : List Line) →
    strip_after world (opened supplied slack) strip lines
    ≡ strip_told supplied strip (transcript world supplied slack lines)

-- the laws, by what the book lists
abbrev pub BookIsLawful : Type 0
BookIsLawful =
    (world : World) (supplied : List ℕ) (slack : ℕ) (lines : List Line) →
    IsListedRight world.listing →
    Lawful (λ place listing. listing ≡ world.listing place) supplied
    (transcript world supplied slack lines)

-- the head in hand may be taken, and fits into a strip of 4,096 bytes behind what is kept
abbrev pub NeverPastEnd : Type 0
NeverPastEnd =
    (world : World) (supplied : List ℕ) (slack : ℕ) (lines : List Line) (reading : Reading) →
    IsListedRight world.listing →
    let book = after world (opened supplied slack) lines in
    book.hand ≡ Some reading →
    MayTake book.place.rest reading.head × (book.kept + reading.head ≤ 4096)

-- at each place of bytes the listing is that of the rules
abbrev pub ListsRules : List RuleText → (Place → List Reading) → Type 0
ListsRules rules listing =
    (place : Place) → All (λ b. b < 256) place.rest → Listing rules place (listing place)

-- what is put back is a byte
abbrev pub PutsBytes : Line → Type 0
PutsBytes (PutBack b) = b < 256
PutsBytes _ = ⊤

-- the laws, by the listing of the rules
abbrev pub RulesBookIsLawful : Type 0
RulesBookIsLawful =
    (rules : List RuleText) (world : World) (supplied : List ℕ) (slack : ℕ) (lines : List Line) →
    ListsRules rules world.listing → All (λ b. b < 256) supplied → All PutsBytes lines →
    Lawful (Listing rules) supplied (transcript world supplied slack lines)

-- the rules leave nothing open
abbrev pub OneBook : Type 0
OneBook =
    (rules : List RuleText) (conditions capacity : ℕ) (listing other : Place → List Reading)
    (supplied : List ℕ) (slack : ℕ) (lines : List Line) →
    ListsRules rules listing → ListsRules rules other →
    All (λ b. b < 256) supplied → All PutsBytes lines →
    answers (record { conditions = conditions; capacity = capacity; listing = listing })
    (opened supplied slack) lines
    ≡ answers (record { conditions = conditions; capacity = capacity; listing = other })
    (opened supplied slack) lines

-- what the rules of a file list is listed right: so there are books that keep the laws
abbrev pub RulesListRight : Type 0
RulesListRight =
    (rules : List RuleText) (listing : Place → List Reading) →
    ((place : Place) → Listing rules place (listing place)) → IsListedRight listing
