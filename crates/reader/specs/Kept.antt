-- A book that is kept.
use Rattle.std.specs.Prelude.{◌≡◌, ℕ, List, [], ◌++◌, length, drop, Some, None, Option, if◌then◌else◌, nat_lt}
use Rattle.plain.specs.declared.Line.{Line}
use Rattle.plain.specs.declared.Answer.{Answer}
use Rattle.plain.specs.Book.{World, Plain, opened, after, answers}
use Rattle.plain.specs.Transcript.{Entry, latest_first, place_told, slack_told}
use Rattle.plain.specs.Strip.{strip_told, strip_after}
use Rattle.reader.specs.declared.whole.BookFault.{BookFault}
use Rattle.reader.specs.declared.whole.BookFault.TheVariants.{ShortStrip, FewAnswers}
use Rattle.reader.specs.Follows.{Around}

abbrev pub number_of_book : BookFault → ℕ
number_of_book ShortStrip = 20
number_of_book FewAnswers = 30

-- why a book is not kept in this strip and room for answers: the strip comes first
abbrev pub book_refusal : List ℕ → List Answer → List Line → Option BookFault
book_refusal strip room lines =
    if nat_lt (length strip) 4096 then Some ShortStrip
    else (if nat_lt (length room) (length lines) then Some FewAnswers else None)

-- the lines with their answers, latest first
abbrev pub entries_of : List Line → List Answer → List Entry
entries_of lines written = latest_first lines written []

-- the plain book is opened over what is there
abbrev pub opened_at : Around → Plain
opened_at old = opened old.rest old.slack

-- the answers are the plain book's, with further ones as they were, and what is around is as the
-- plain book leaves it
pub record IsKept (world : World) (lines : List Line) (old : Around) (room : List Answer)
    (new : Around) (written : List Answer) : Type 0 where
  pub answered : written ≡ answers world (opened_at old) lines ++ drop (length lines) room
  pub left : new.rest ≡ (after world (opened_at old) lines).place.rest
  pub slack_left : new.slack ≡ (after world (opened_at old) lines).slack
  pub strip_left : new.strip ≡ strip_after world (opened_at old) old.strip lines

-- what is around is as the entries tell
pub record IsTold (capacity : ℕ) (old new : Around) (entries : List Entry) : Type 0 where
  pub left : new.rest ≡ (place_told old.rest entries).rest
  pub slack_left : new.slack ≡ slack_told capacity old.slack entries
  pub strip_left : new.strip ≡ strip_told old.rest old.strip entries
