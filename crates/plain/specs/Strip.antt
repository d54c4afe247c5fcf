-- The strip: the caller's memory into which each granted next and reject copies the head that it
-- offers, behind the kept bytes, and no other byte.
use Rattle.std.specs.Prelude.{ℕ, ◌-◌, List, [], ◌∷◌}
use lib.Seq.{paste}
use Rattle.plain.specs.declared.Line.{Line}
use Rattle.plain.specs.Book.{World, Plain, turn}
use Rattle.plain.specs.Transcript.{Entry, Deed, First, Following, deed, place_told}

-- what a line leaves in the strip: behind so many bytes stands the head, the first bytes of the
-- rest
abbrev pub copied : Deed → ℕ → List ℕ → List ℕ → List ℕ
copied (First reading) kept rest strip = paste strip kept rest reading.head
copied (Following reading) kept rest strip = paste strip kept rest reading.head
copied _ kept rest strip = strip

-- what lines and answers tell of it
abbrev pub strip_told : List ℕ → List ℕ → List Entry → List ℕ
strip_told supplied strip [] = strip
strip_told supplied strip (entry ∷ before) =
    copied (deed entry) (entry.answer.yyleng - entry.answer.head) (place_told supplied before).rest
    (strip_told supplied strip before)

-- what the plain book leaves there
abbrev pub strip_after : World → Plain → List ℕ → List Line → List ℕ
strip_after world book strip [] = strip
strip_after world book strip (line ∷ lines) =
    let did = deed (record { line = line; answer = (turn world book line).answer }) in
    strip_after world (turn world book line).book (copied did book.kept book.place.rest strip) lines
