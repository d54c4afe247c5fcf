-- What lines and answers tell, and nothing else: the entries of a transcript stand latest first.
use Rattle.std.specs.Prelude.{ℕ, zero, suc, ◌+◌, ◌-◌, min, List, [], ◌∷◌, ◌++◌, Some, None, Option}
use Rattle.places.specs.declared.Reading.{Reading}
use Rattle.places.specs.Listing.{Place}
use Rattle.plain.specs.Moves.{opening, behind, begun, put_before}
use Rattle.plain.specs.declared.Line.{Line}
use Rattle.plain.specs.declared.Line.TheVariants.{Next, Reject, Accept, Keep, Extend, Begin, PutBack}
use Rattle.plain.specs.declared.Answer.{Answer}

pub record Entry : Type 0 where
  pub line : Line
  pub answer : Answer

-- lines with their answers, behind the entries that are there
abbrev pub latest_first : List Line → List Answer → List Entry → List Entry
latest_first (line ∷ lines) (answer ∷ answers) entries =
    latest_first lines answers (record { line = line; answer = answer } ∷ entries)
latest_first _ _ entries = entries

-- what a line has done: offered a reading, the first or the following one, taken so many bytes,
-- gone to a condition, or put a byte back; a line that was refused has done nothing
pub data Deed : Type 0 where
  First : Reading → Deed
  Following : Reading → Deed
  Taking : ℕ → Deed
  Entering : ℕ → Deed
  Returning : ℕ → Deed
  Nothing : Deed

abbrev pub given : Answer → Reading
given answer = record { rule = answer.rule; total = answer.total; head = answer.head }

-- a line that was granted has number 0
abbrev pub deed_of : ℕ → Line → Answer → Deed
deed_of (suc n) line answer = Nothing
deed_of zero Next answer = First (given answer)
deed_of zero Reject answer = Following (given answer)
deed_of zero Accept answer = Taking answer.taken
deed_of zero (Keep n) answer = Taking answer.taken
deed_of zero Extend answer = Taking answer.taken
deed_of zero (Begin condition) answer = Entering condition
deed_of zero (PutBack b) answer = Returning b

abbrev pub deed : Entry → Deed
deed entry = deed_of entry.answer.number entry.line entry.answer

-- where a book stands that was opened over the supplied bytes
abbrev pub moved : Deed → Place → Place
moved (Taking n) place = behind n place
moved (Entering condition) place = begun condition place
moved (Returning b) place = put_before b place
moved _ place = place

abbrev pub place_told : List ℕ → List Entry → Place
place_told supplied [] = opening supplied
place_told supplied (entry ∷ before) = moved (deed entry) (place_told supplied before)

-- where it stood at the last granted next: this line's place, or else that of a line before
abbrev pub place_with : Deed → Place → Place → Place
place_with (First reading) here earlier = here
place_with _ here earlier = earlier

abbrev pub place_of_next : List ℕ → List Entry → Place
place_of_next supplied [] = opening supplied
place_of_next supplied (entry ∷ before) =
    place_with (deed entry) (place_told supplied before) (place_of_next supplied before)

-- the readings offered since then, its own included
abbrev pub offered_with : Deed → List Reading → List Reading
offered_with (First reading) earlier = reading ∷ []
offered_with (Following reading) earlier = earlier ++ (reading ∷ [])
offered_with _ earlier = earlier

abbrev pub offered : List Entry → List Reading
offered [] = []
offered (entry ∷ before) = offered_with (deed entry) (offered before)

-- the last of them, until bytes are taken
abbrev pub hand_with : Deed → Option Reading → Option Reading
hand_with (First reading) earlier = Some reading
hand_with (Following reading) earlier = Some reading
hand_with (Taking n) earlier = None
hand_with _ earlier = earlier

abbrev pub in_hand : List Entry → Option Reading
in_hand [] = None
in_hand (entry ∷ before) = hand_with (deed entry) (in_hand before)

-- how many bytes were taken in all, and how many put back
abbrev pub taken_with : Deed → ℕ → ℕ
taken_with (Taking n) earlier = earlier + n
taken_with _ earlier = earlier

abbrev pub taken : List Entry → ℕ
taken [] = 0
taken (entry ∷ before) = taken_with (deed entry) (taken before)

abbrev pub put_back_with : Deed → ℕ → ℕ
put_back_with (Returning b) earlier = earlier + 1
put_back_with _ earlier = earlier

abbrev pub put_back : List Entry → ℕ
put_back [] = 0
put_back (entry ∷ before) = put_back_with (deed entry) (put_back before)

-- how many bytes are kept: those that extend took, with what was kept before it
abbrev pub kept_with : ℕ → Line → ℕ → ℕ → ℕ
kept_with zero Accept taken earlier = 0
kept_with zero (Keep n) taken earlier = 0
kept_with zero Extend taken earlier = earlier + taken
kept_with _ _ taken earlier = earlier

abbrev pub kept_told : List Entry → ℕ
kept_told [] = 0
kept_told (entry ∷ before) =
    kept_with entry.answer.number entry.line entry.answer.taken (kept_told before)

-- how many bytes a source of this capacity can still take back, after so many at opening
abbrev pub slack_with : ℕ → Deed → ℕ → ℕ
slack_with capacity (Taking n) earlier = min capacity (earlier + n)
slack_with capacity (Returning b) earlier = earlier - 1
slack_with capacity _ earlier = earlier

abbrev pub slack_told : ℕ → ℕ → List Entry → ℕ
slack_told capacity slack [] = slack
slack_told capacity slack (entry ∷ before) =
    slack_with capacity (deed entry) (slack_told capacity slack before)
