-- A book as far as it has come.
use Rattle.std.proofs.Common.{◌≡◌, ℕ, ◌+◌, ◌<◌, ◌≤◌, true, List, [], ◌∷◌, ◌++◌, length, take, drop, get_or, slice_set, refl, sym, ap, subst, ◌∙◌, append_assoc, arith, length-take-le}
use Rattle.std.specs.List.{All}
use Rattle.std.proofs.lemmas.List.Elements.{All-cons, All-append}
use Rattle.std.proofs.lemmas.List.{take_more, take_all, drop_more, set_at}
use Rattle.places.specs.declared.Reading.{Reading}
use Rattle.plain.specs.declared.Line.{Line}
use Rattle.plain.specs.declared.Answer.{Answer}
use Rattle.plain.specs.Book.{World, Plain, turn, after, answers}
use Rattle.plain.specs.Transcript.{Entry, deed, latest_first}
use Rattle.plain.specs.Strip.{copied, strip_after}
use Rattle.plain.specs.Theorems.{transcript, PutsBytes}
use Rattle.plain.proofs.Told.{book_is_told, strip_is_told}
use Rattle.reader.specs.declared.state.Idle.{Idle}
use Rattle.reader.specs.declared.reader.Reader.{Reader}
use Rattle.reader.specs.declared.reader.Reader.TheVariants.{Waiting, InHand}
use Rattle.reader.specs.Follows.{Around, Follows, view, Within}
use Rattle.reader.specs.Kept.{opened_at, entries_of, IsKept, IsTold}

bytes_more :
    (lines : List Line) (k : ℕ) (d : Line) → k < length lines → All PutsBytes (take k lines) →
    PutsBytes (get_or lines k d) → All PutsBytes (take (k + 1) lines)
bytes_more lines k d below before byte =
    let line = get_or lines k d in
    let one : All PutsBytes (line ∷ []) =
    All-cons PutsBytes line [] byte (λ j d below. absurd (omega arith)) in
    subst (All PutsBytes) (sym (take_more lines k d below))
    (All-append PutsBytes (take k lines) (line ∷ []) before one)

pub all_bytes :
    (lines : List Line) (k : ℕ) → length lines ≡ k → All PutsBytes (take k lines) →
    All PutsBytes lines
all_bytes lines k past bytes = subst (All PutsBytes) (take_all k lines (omega arith)) bytes

module _ (w : World) (old : Around) where
  abbrev opening : Plain
  opening = opened_at old

  after_more :
      (b : Plain) (ls : List Line) (l : Line) →
      after w b (ls ++ (l ∷ [])) ≡ (turn w (after w b ls) l).book
  after_more b [] l = refl
  after_more b (x ∷ ls) l = after_more (turn w b x).book ls l

  answers_more :
      (b : Plain) (ls : List Line) (l : Line) →
      answers w b (ls ++ (l ∷ [])) ≡ answers w b ls ++ ((turn w (after w b ls) l).answer ∷ [])
  answers_more b [] l = refl
  answers_more b (x ∷ ls) l =
      ap (λ (xs : List Answer). (turn w b x).answer ∷ xs) (answers_more (turn w b x).book ls l)

  -- what the line leaves of the strip
  abbrev one_copied : Plain → Line → List ℕ → List ℕ
  one_copied b l strip =
      copied (deed (record { line = l; answer = (turn w b l).answer })) b.kept b.place.rest strip

  strip_more :
      (b : Plain) (strip : List ℕ) (ls : List Line) (l : Line) →
      strip_after w b strip (ls ++ (l ∷ []))
      ≡ one_copied (after w b ls) l (strip_after w b strip ls)
  strip_more b strip [] l = refl
  strip_more b strip (x ∷ ls) l =
      strip_more (turn w b x).book (one_copied b x strip) ls l

  pub length-answers : (b : Plain) (ls : List Line) → length (answers w b ls) ≡ length ls
  length-answers b [] = refl
  length-answers b (x ∷ ls) =
      let more : length (answers w (turn w b x).book ls) ≡ length ls =
      length-answers (turn w b x).book ls in
      omega arith

  -- k lines are answered, and the reader stands for the plain book as it is then
  pub record Reached (lines : List Line) (room now : List Answer) (k : ℕ) (here : Around)
      (reader : Reader) : Type 0 where
    pub offered : List Reading
    pub within : Within here.rest reader
    pub book : after w opening (take k lines) ≡ view here offered reader
    pub written : now ≡ answers w opening (take k lines) ++ drop k room
    pub strip : here.strip ≡ strip_after w opening old.strip (take k lines)
    pub bytes : All PutsBytes (take k lines)

  pub begins :
      (lines : List Line) (room : List Answer) (idle : Idle) →
      idle.condition ≡ 0 → idle.at_line_start ≡ true → idle.kept ≡ 0 →
      Reached lines room room 0 old (Waiting idle)
  begins lines room idle c s k = record {
    offered = [];
    within = tt;
    book = rw (c, s, k) refl;
    written = refl;
    strip = refl;
    bytes = λ j d below. absurd (omega arith);
  }

  rest_of :
      (here : Around) (offered : List Reading) (reader : Reader) →
      (view here offered reader).place.rest ≡ here.rest
  rest_of here offered (Waiting idle) = refl
  rest_of here offered (InHand holding) = refl

  slack_of :
      (here : Around) (offered : List Reading) (reader : Reader) →
      (view here offered reader).slack ≡ here.slack
  slack_of here offered (Waiting idle) = refl
  slack_of here offered (InHand holding) = refl

  pub one_more :
      (lines : List Line) (room now : List Answer) (k : ℕ) (here new : Around) (reader : Reader)
      (r : Reader × Answer) (d : Line) →
      k < length lines → length lines ≤ length room → Reached lines room now k here reader →
      Follows w (get_or lines k d) here reader new r → PutsBytes (get_or lines k d) →
      Reached lines room (slice_set now k r.1) (k + 1) new r.0
  one_more lines room now k here new reader r d below fits z follows byte =
      let line = get_or lines k d in
      let made : take (k + 1) lines ≡ take k lines ++ (line ∷ []) = take_more lines k d below in
      let was = view here z.offered reader in
      let step = follows z.offered z.within in
      let book : after w opening (take (k + 1) lines) ≡ (turn w was line).book =
      ap (after w opening) made ∙ after_more opening (take k lines) line
      ∙ ap (λ (b : Plain). (turn w b line).book) z.book in
      let so_far = answers w opening (take k lines) in
      let told : answers w opening (take (k + 1) lines) ≡ so_far ++ (r.1 ∷ []) =
      ap (answers w opening) made ∙ answers_more opening (take k lines) line
      ∙ ap (λ (b : Plain). so_far ++ ((turn w b line).answer ∷ [])) z.book
      ∙ ap (λ (a : Answer). so_far ++ (a ∷ [])) (sym step.0) in
      let before = strip_after w opening old.strip (take k lines) in
      let stripped :
      strip_after w opening old.strip (take (k + 1) lines) ≡ one_copied was line here.strip =
      ap (strip_after w opening old.strip) made ∙ strip_more opening old.strip (take k lines) line
      ∙ ap (λ (b : Plain). one_copied b line before) z.book
      ∙ ap (one_copied was line) (sym z.strip) in
      let did = deed (record { line = line; answer = (turn w was line).answer }) in
      let same_rest : one_copied was line here.strip ≡ new.strip =
      ap (λ (rest : List ℕ). copied did was.kept rest here.strip)
      (rest_of here z.offered reader) ∙ sym step.3 in
      let long : length so_far ≡ k =
      length-answers opening (take k lines) ∙ length-take-le k lines (omega arith) in
      let room_here : k < length room = omega arith in
      let split : now ≡ so_far ++ (get_or room k r.1 ∷ drop (k + 1) room) =
      z.written ∙ ap (λ (xs : List Answer). so_far ++ xs) (drop_more room k r.1 room_here) in
      record {
        offered = (turn w was line).book.offered;
        within = step.2;
        book = book ∙ step.1;
        written =
            ap (λ (xs : List Answer). slice_set xs k r.1) split
            ∙ set_at so_far (get_or room k r.1) (drop (k + 1) room) r.1 k long
            ∙ sym (append_assoc so_far (r.1 ∷ []) (drop (k + 1) room))
            ∙ ap (λ (xs : List Answer). xs ++ drop (k + 1) room) (sym told);
        strip = sym (stripped ∙ same_rest);
        bytes = bytes_more lines k d below z.bytes byte;
      }

  -- all lines are answered
  pub all_kept :
      (lines : List Line) (room now : List Answer) (k : ℕ) (here : Around) (reader : Reader) →
      length lines ≡ k → Reached lines room now k here reader → IsKept w lines old room here now
  all_kept lines room now k here reader past z =
      let all : take k lines ≡ lines = take_all k lines (omega arith) in
      let book : after w opening lines ≡ view here z.offered reader =
      ap (after w opening) (sym all) ∙ z.book in
      record {
        answered = z.written ∙ ap (λ (ls : List Line). answers w opening ls ++ drop k room) all
            ∙ ap (λ (n : ℕ). answers w opening lines ++ drop n room) (sym past);
        left = sym (ap (λ (b : Plain). b.place.rest) book ∙ rest_of here z.offered reader);
        slack_left = sym (ap (λ (b : Plain). b.slack) book ∙ slack_of here z.offered reader);
        strip_left = z.strip ∙ ap (strip_after w opening old.strip) all;
      }

  -- further answers are no entries
  entries_front :
      (ls : List Line) (front back : List Answer) (es : List Entry) → length front ≡ length ls →
      latest_first ls (front ++ back) es ≡ latest_first ls front es
  entries_front [] [] back es e = refl
  entries_front [] (a ∷ front) back es e = absurd (omega arith)
  entries_front (l ∷ ls) [] back es e = absurd (omega arith)
  entries_front (l ∷ ls) (a ∷ front) back es e =
      entries_front ls front back (record { line = l; answer = a } ∷ es) (omega arith)

  -- what was written are the plain book's entries
  pub entries_kept :
      (lines : List Line) (room now : List Answer) (here : Around) →
      IsKept w lines old room here now →
      entries_of lines now ≡ transcript w old.rest old.slack lines
  entries_kept lines room now here kept =
      ap (entries_of lines) kept.answered
      ∙ entries_front lines (answers w opening lines) (drop (length lines) room) []
      (length-answers opening lines)

  pub all_told :
      (lines : List Line) (room now : List Answer) (here : Around) →
      IsKept w lines old room here now → IsTold w.capacity old here (entries_of lines now)
  all_told lines room now here kept =
      let same = entries_kept lines room now here kept in
      let book = book_is_told w old.rest old.slack lines in
      rw same (record {
        left = kept.left ∙ ap (λ (b : Plain). b.place.rest) book;
        slack_left = kept.slack_left ∙ ap (λ (b : Plain). b.slack) book;
        strip_left = kept.strip_left ∙ strip_is_told w old.rest old.slack old.strip lines;
      })
