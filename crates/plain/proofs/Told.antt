-- Lines and answers tell all that the plain book knows, and what stands in the strip.
use Rattle.std.proofs.Common.{◌≡◌, ℕ, suc, ◌+◌, ◌-◌, Bool, true, false, ◌&&◌, List, [], ◌∷◌, if◌then◌else◌, nat_lt, nat_le, Some, None, Option, refl, sym, ap, subst, arith}
use lib.Seq.{paste}
use Rattle.places.specs.declared.Reading.{Reading}
use Rattle.plain.specs.declared.Line.{Line}
use Rattle.plain.specs.declared.Line.TheVariants.{Next, Reject, Accept, Keep, Extend, Begin, PutBack}
use Rattle.plain.specs.Book.{World, Plain, Turn, opened, denied, offers, takes, begins, puts_back, idle, holding, turn_with, turn, after, answers}
use Rattle.plain.specs.Transcript.{Entry, latest_first, deed, place_told, in_hand, offered}
use Rattle.plain.specs.Strip.{copied, strip_told, strip_after}
use Rattle.plain.specs.Theorems.{book_told, BookIsTold, StripIsTold}

abbrev pub entry : Line → Turn → Entry
entry line t = record { line = line; answer = t.answer }

-- what a test decides
pub by_test : (P : Turn → Type 0) (test : Bool) (s t : Turn) → (test ≡ true → P s) → P t → P (if test then s else t)
by_test P true s t first other = first refl
by_test P false s t first other = other

module _ (w : World) (supplied : List ℕ) (slack : ℕ) where
  -- what the entries tell
  abbrev pub book_by : List Entry → Plain
  book_by es = book_told w.capacity supplied slack es

  module _ (es : List Entry) where
    -- the book after this turn is told
    abbrev Tells : Line → Turn → Type 0
    Tells line t = t.book ≡ book_by (entry line t ∷ es)

    denied_tells : (line : Line) (n : ℕ) → Tells line (denied (suc n) (book_by es))
    denied_tells line n = refl

    next_tells : (o : Option Reading) → Tells Next (offers 21 [] o (book_by es))
    next_tells None = refl
    next_tells (Some reading) = refl

    reject_tells : (o : Option Reading) → Tells Reject (offers 22 (offered es) o (book_by es))
    reject_tells None = refl
    reject_tells (Some reading) = refl

    idle_tells : (line : Line) → Tells line (idle w (book_by es) line)
    idle_tells Next = next_tells _
    idle_tells Reject = refl
    idle_tells Accept = refl
    idle_tells (Keep n) = refl
    idle_tells Extend = refl
    idle_tells (Begin c) = by_test (Tells (Begin c)) (nat_lt c w.conditions) (begins c (book_by es)) (denied 25 (book_by es)) (λ e. refl) refl
    idle_tells (PutBack b) = by_test (Tells (PutBack b)) (nat_lt 0 (book_by es).slack) (puts_back b (book_by es)) (denied 12 (book_by es)) (λ e. refl) refl

    holding_tells : (d : Reading) (line : Line) → Tells line (holding w (book_by es) d line)
    holding_tells d Next = refl
    holding_tells d Reject = reject_tells _
    holding_tells d Accept = refl
    holding_tells d (Keep n) =
        let b = book_by es in
        by_test (Tells (Keep n)) (nat_lt b.kept n && nat_le n (b.kept + d.head)) (takes w (n - b.kept) 0 b) (denied 23 b) (λ e. refl) refl
    holding_tells d Extend =
        let b = book_by es in
        by_test (Tells Extend) (nat_le (b.kept + d.head) 3072) (takes w d.head (b.kept + d.head) b) (denied 24 b) (λ e. refl) refl
    holding_tells d (Begin c) = refl
    holding_tells d (PutBack b) = refl

    turn_tells : (o : Option Reading) (line : Line) → Tells line (turn_with o w (book_by es) line)
    turn_tells None line = idle_tells line
    turn_tells (Some d) line = holding_tells d line

  pub one_told : (b : Plain) (es : List Entry) (line : Line) → b ≡ book_by es → (turn w b line).book ≡ book_by (entry line (turn w b line) ∷ es)
  one_told b es line e =
      subst (λ (x : Plain). (turn w x line).book ≡ book_by (entry line (turn w x line) ∷ es)) (sym e) (turn_tells es (in_hand es) line)

  pub all_told : (b : Plain) (es : List Entry) (lines : List Line) → b ≡ book_by es → after w b lines ≡ book_by (latest_first lines (answers w b lines) es)
  all_told b es [] e = e
  all_told b es (line ∷ lines) e = all_told (turn w b line).book (entry line (turn w b line) ∷ es) lines (one_told b es line e)

  module _ (es : List Entry) where
    -- what is copied from the kept bytes on is copied there by the answer
    abbrev Copies : Line → Turn → Type 0
    Copies line t =
        (strip : List ℕ) → copied (deed (entry line t)) (book_by es).kept (place_told supplied es).rest strip
        ≡ copied (deed (entry line t)) (t.answer.yyleng - t.answer.head) (place_told supplied es).rest strip

    kept_of : (k h : ℕ) → k ≡ k + h - h
    kept_of k h = omega arith

    next_copies : (o : Option Reading) → Copies Next (offers 21 [] o (book_by es))
    next_copies None strip = refl
    next_copies (Some d) strip = ap (λ k. paste strip k (place_told supplied es).rest d.head) (kept_of (book_by es).kept d.head)

    reject_copies : (o : Option Reading) → Copies Reject (offers 22 (offered es) o (book_by es))
    reject_copies None strip = refl
    reject_copies (Some d) strip = ap (λ k. paste strip k (place_told supplied es).rest d.head) (kept_of (book_by es).kept d.head)

    idle_copies : (line : Line) → Copies line (idle w (book_by es) line)
    idle_copies Next = next_copies _
    idle_copies Reject = λ strip. refl
    idle_copies Accept = λ strip. refl
    idle_copies (Keep n) = λ strip. refl
    idle_copies Extend = λ strip. refl
    idle_copies (Begin c) = by_test (Copies (Begin c)) (nat_lt c w.conditions) (begins c (book_by es)) (denied 25 (book_by es)) (λ e strip. refl) (λ strip. refl)
    idle_copies (PutBack b) = by_test (Copies (PutBack b)) (nat_lt 0 (book_by es).slack) (puts_back b (book_by es)) (denied 12 (book_by es)) (λ e strip. refl) (λ strip. refl)

    holding_copies : (d : Reading) (line : Line) → Copies line (holding w (book_by es) d line)
    holding_copies d Next = λ strip. refl
    holding_copies d Reject = reject_copies _
    holding_copies d Accept = λ strip. refl
    holding_copies d (Keep n) =
        let b = book_by es in
        by_test (Copies (Keep n)) (nat_lt b.kept n && nat_le n (b.kept + d.head)) (takes w (n - b.kept) 0 b) (denied 23 b) (λ e strip. refl) (λ strip. refl)
    holding_copies d Extend =
        let b = book_by es in
        by_test (Copies Extend) (nat_le (b.kept + d.head) 3072) (takes w d.head (b.kept + d.head) b) (denied 24 b) (λ e strip. refl) (λ strip. refl)
    holding_copies d (Begin c) = λ strip. refl
    holding_copies d (PutBack b) = λ strip. refl

    turn_copies : (o : Option Reading) (line : Line) → Copies line (turn_with o w (book_by es) line)
    turn_copies None line = idle_copies line
    turn_copies (Some d) line = holding_copies d line

  -- the strip after one line more
  pub one_copied :
      (b : Plain) (es : List Entry) (line : Line) (strip first : List ℕ) → b ≡ book_by es → strip ≡ strip_told supplied first es →
      copied (deed (entry line (turn w b line))) b.kept b.place.rest strip ≡ strip_told supplied first (entry line (turn w b line) ∷ es)
  one_copied b es line strip first e s =
      let Told : Plain → Type 0 = λ x. copied (deed (entry line (turn w x line))) x.kept x.place.rest strip ≡ strip_told supplied first (entry line (turn w x line) ∷ es) in
      let told : Told (book_by es) = rw s (turn_copies es (in_hand es) line (strip_told supplied first es)) in
      subst Told (sym e) told

  all_copied : (b : Plain) (es : List Entry) (strip first : List ℕ) (lines : List Line) → b ≡ book_by es → strip ≡ strip_told supplied first es → strip_after w b strip lines ≡ strip_told supplied first (latest_first lines (answers w b lines) es)
  all_copied b es strip first [] e s = s
  all_copied b es strip first (line ∷ lines) e s =
      all_copied (turn w b line).book (entry line (turn w b line) ∷ es) (copied (deed (entry line (turn w b line))) b.kept b.place.rest strip) first lines (one_told b es line e) (one_copied b es line strip first e s)

pub book_is_told : BookIsTold
book_is_told w supplied slack lines = all_told w supplied slack (opened supplied slack) [] lines refl

pub strip_is_told : StripIsTold
strip_is_told w supplied slack strip lines = all_copied w supplied slack (opened supplied slack) [] strip strip lines refl refl
