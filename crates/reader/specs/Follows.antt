-- How a reader follows the plain book, a line at a time.
use Rattle.std.specs.Prelude.{◌≡◌, ℕ, ◌+◌, ◌≤◌, ⊤, List, length, Some, None}
use Rattle.table.specs.declared.held.Table.{Table}
use Rattle.table.specs.Held.{memory_of}
use Rattle.places.specs.declared.Reading.{Reading}
use Rattle.scan.specs.Listing.{table_listing}
use Rattle.plain.specs.declared.Line.{Line}
use Rattle.plain.specs.declared.Answer.{Answer}
use Rattle.plain.specs.Book.{World, Plain, turn}
use Rattle.plain.specs.Transcript.{deed}
use Rattle.plain.specs.Strip.{copied}
use Rattle.reader.specs.declared.state.Holding.{Holding}
use Rattle.reader.specs.declared.reader.Reader.{Reader}
use Rattle.reader.specs.declared.reader.Reader.TheVariants.{Waiting, InHand}
use Rattle.reader.specs.Moves.{idle_at, holding_at}

-- what a book over a table stands on
abbrev pub world_of : Table → ℕ → World
world_of table capacity = record {
  conditions = table.loaded.condition_count;
  capacity = capacity;
  listing = table_listing (memory_of table);
}

-- what a reader works on: what is left of the source, its slack, and the strip
pub record Around : Type 0 where
  pub rest : List ℕ
  pub slack : ℕ
  pub strip : List ℕ

abbrev pub around : List ℕ → ℕ → List ℕ → Around
around rest slack strip = record { rest = rest; slack = slack; strip = strip }

-- the plain book that a reader stands for, which has offered these readings
abbrev pub view : Around → List Reading → Reader → Plain
view here offered (Waiting idle) = record {
  place = idle_at idle here.rest;
  kept = idle.kept;
  slack = here.slack;
  offered = offered;
  hand = None;
}
view here offered (InHand holding) = record {
  place = holding_at holding here.rest;
  kept = holding.kept;
  slack = here.slack;
  offered = offered;
  hand = Some holding.reading;
}

-- the head in hand is part of what is left
abbrev pub Within : List ℕ → Reader → Type 0
Within rest (Waiting idle) = ⊤
Within rest (InHand holding) = holding.reading.head ≤ length rest

-- the answer with the reading in hand
abbrev pub offering : Holding → Answer
offering holding = record {
  number = 0;
  rule = holding.reading.rule;
  total = holding.reading.total;
  head = holding.reading.head;
  yyleng = holding.kept + holding.reading.head;
  taken = 0;
}

-- the answer is the plain book's, the reader then stands for the plain book as it is then, and the
-- line leaves of the strip what it leaves there
abbrev pub Follows : World → Line → Around → Reader → Around → Reader × Answer → Type 0
Follows world line old reader new result =
    (offered : List Reading) → Within old.rest reader →
    let was = view old offered reader in
    let turned = turn world was line in
    let did = deed (record { line = line; answer = turned.answer }) in
    (result.1 ≡ turned.answer)
    × (turned.book ≡ view new turned.book.offered result.0)
    × Within new.rest result.0
    × (new.strip ≡ copied did was.kept old.rest old.strip)
