-- The plain book: what it answers to each line, fed with the lines alone.
use Rattle.std.specs.Prelude.{ℕ, ◌+◌, ◌-◌, ◌&&◌, min, List, [], ◌∷◌, ◌++◌, Some, None, Option, if◌then◌else◌, nat_lt, nat_le}
use Rattle.places.specs.declared.Reading.{Reading}
use Rattle.places.specs.Listing.{Place}
use Rattle.places.specs.Order.{first_of, next_of}
use Rattle.plain.specs.Moves.{opening, behind, begun, put_before}
use Rattle.plain.specs.declared.Line.{Line}
use Rattle.plain.specs.declared.Line.TheVariants.{Next, Reject, Accept, Keep, Extend, Begin, PutBack}
use Rattle.plain.specs.declared.Answer.{Answer}

-- what a book stands on: how many conditions there are, how many bytes the source takes back at
-- most, and what is listed at each place
pub record World : Type 0 where
  pub conditions : ℕ
  pub capacity : ℕ
  pub listing : Place → List Reading

-- what the book knows: its place, how many bytes are kept, how many the source can still take back,
-- the readings offered since the last granted next, and the last of them until bytes are taken
pub record Plain : Type 0 where
  pub place : Place
  pub kept : ℕ
  pub slack : ℕ
  pub offered : List Reading
  pub hand : Option Reading

-- over a source with these bytes and this slack
abbrev pub opened : List ℕ → ℕ → Plain
opened supplied slack =
    record { place = opening supplied; kept = 0; slack = slack; offered = []; hand = None }

-- an answer, and the book from then on
pub record Turn : Type 0 where
  pub answer : Answer
  pub book : Plain

-- an answer with no reading
abbrev pub answer : ℕ → ℕ → Answer
answer number taken =
    record { number = number; rule = 0; total = 0; head = 0; yyleng = 0; taken = taken }

-- a refusal changes nothing
abbrev pub denied : ℕ → Plain → Turn
denied number book = record { answer = answer number 0; book = book }

-- the reading found is offered behind the earlier ones; where there is none, the line is refused
-- with this number
abbrev pub offers : ℕ → List Reading → Option Reading → Plain → Turn
offers number earlier None book = denied number book
offers number earlier (Some reading) book = record {
  answer = record {
    number = 0;
    rule = reading.rule;
    total = reading.total;
    head = reading.head;
    yyleng = book.kept + reading.head;
    taken = 0;
  };
  book = record book { offered = earlier ++ (reading ∷ []); hand = Some reading };
}

-- n bytes are taken, and so many are kept from then on
abbrev pub takes : World → ℕ → ℕ → Plain → Turn
takes world n kept book = record {
  answer = answer 0 n;
  book = record book {
    place = behind n book.place;
    kept = kept;
    slack = min world.capacity (book.slack + n);
    hand = None;
  };
}

-- to another condition, and with a byte put back
abbrev pub begins : ℕ → Plain → Turn
begins condition book = record {
  answer = answer 0 0;
  book = record book { place = begun condition book.place };
}

abbrev pub puts_back : ℕ → Plain → Turn
puts_back b book = record {
  answer = answer 0 0;
  book = record book { place = put_before b book.place; slack = book.slack - 1 };
}

-- a line with nothing in hand
abbrev pub idle : World → Plain → Line → Turn
idle world book Next = offers 21 [] (first_of (world.listing book.place)) book
idle world book (Begin condition) =
    if nat_lt condition world.conditions then begins condition book else denied 25 book
idle world book (PutBack b) = if nat_lt 0 book.slack then puts_back b book else denied 12 book
idle world book _ = denied 31 book

-- a line with this reading in hand
abbrev pub holding : World → Plain → Reading → Line → Turn
holding world book reading Reject =
    offers 22 book.offered (next_of reading.rule reading.total (world.listing book.place)) book
holding world book reading Accept = takes world reading.head 0 book
holding world book reading (Keep n) =
    if nat_lt book.kept n && nat_le n (book.kept + reading.head)
    then takes world (n - book.kept) 0 book
    else denied 23 book
holding world book reading Extend =
    if nat_le (book.kept + reading.head) 3072
    then takes world reading.head (book.kept + reading.head) book
    else denied 24 book
holding world book reading _ = denied 32 book

abbrev pub turn_with : Option Reading → World → Plain → Line → Turn
turn_with None world book line = idle world book line
turn_with (Some reading) world book line = holding world book reading line

abbrev pub turn : World → Plain → Line → Turn
turn world book line = turn_with book.hand world book line

-- the book after some lines, and its answers to them
abbrev pub after : World → Plain → List Line → Plain
after world book [] = book
after world book (line ∷ lines) = after world (turn world book line).book lines

abbrev pub answers : World → Plain → List Line → List Answer
answers world book [] = []
answers world book (line ∷ lines) =
    (turn world book line).answer ∷ answers world (turn world book line).book lines
