-- The laws over every list of lines.
use Rattle.std.proofs.Common.{◌≡◌, ◌≢◌, ℕ, suc, ◌+◌, ◌<◌, ◌≤◌, List, [], ◌∷◌, ◌++◌, length, take, Some, None, Option, refl, sym, ap, subst, ◌∙◌, inl, inr, append_assoc, arith}
use Rattle.std.specs.List.{All}
use Rattle.std.proofs.lemmas.Bool.{cases_lt}
use Rattle.std.proofs.lemmas.List.{take_all, length-take, length-append}
use Rattle.std.proofs.lemmas.List.Elements.{All-head, All-tail}
use Rattle.places.specs.declared.Reading.{Reading}
use Rattle.plain.specs.declared.Line.{Line}
use Rattle.plain.specs.declared.Line.TheVariants.{Next, Reject}
use Rattle.plain.specs.Book.{World, Plain, opened, turn, turn_with, answers}
use Rattle.plain.specs.Transcript.{Entry, Deed, Following, Nothing, given, deed, deed_of, latest_first, place_told, place_of_next, place_with, offered, offered_with, in_hand, hand_with}
use Rattle.plain.specs.Lawful.{MayTake, HoldsAfter, NextIsRight, RejectIsRight, EntryIsRight, Lawful}
use Rattle.plain.specs.Theorems.{IsListedRight, transcript, BookIsLawful, NeverPastEnd}
use Rattle.plain.proofs.Told.{entry, book_by, one_told, all_told}
use Rattle.plain.proofs.Right.{Given, Right, Keeps, right_holds, turn_keeps, next_right, reject_right, opened_right}

-- what a refused line has done, and a reject that was granted
denied_deed : (e : Entry) (n : ℕ) → e.answer.number ≡ suc n → deed e ≡ Nothing
denied_deed e n q = ap (λ (k : ℕ). deed_of k e.line e.answer) q

following_deed : (e : Entry) → e.line ≡ Reject → e.answer.number ≡ 0 → deed e ≡ Following (given e.answer)
following_deed e l q = ap (λ (k : ℕ). deed_of k e.line e.answer) q ∙ ap (λ (x : Line). deed_of 0 x e.answer) l

module _ (w : World) (lists : IsListedRight w.listing) (supplied : List ℕ) (slack : ℕ) where
  abbrev IsNext : Entry → List Entry → Type 0
  IsNext = NextIsRight (Given w lists supplied slack) supplied

  abbrev IsRight : Entry → List Entry → Type 0
  IsRight = RejectIsRight (Given w lists supplied slack) supplied

  abbrev Holds : List Entry → Type 0
  Holds = HoldsAfter (Given w lists supplied slack) supplied

  abbrev IsEntry : Entry → List Entry → Type 0
  IsEntry = EntryIsRight (Given w lists supplied slack) supplied

  -- the laws of a transcript, but for the one that follows from them
  record Moments (transcript : List Entry) : Type 0 where
    holds : (later before : List Entry) → transcript ≡ later ++ before → Holds before
    right : (later before : List Entry) (e : Entry) → transcript ≡ later ++ (e ∷ before) → IsEntry e before

  -- one entry more
  module _ (es : List Entry) (e : Entry) (m : Moments es) (now : Holds (e ∷ es)) (is : IsEntry e es) where
    holds_more : (later before : List Entry) → e ∷ es ≡ later ++ before → Holds before
    holds_more [] before q = subst Holds q now
    holds_more (x ∷ later) before q = m.holds later before (cc)

    right_more : (later before : List Entry) (f : Entry) → e ∷ es ≡ later ++ (f ∷ before) → IsEntry f before
    right_more [] before f q =
        let first : e ≡ f = cc in
        let others : es ≡ before = cc in
        subst (λ (x : Entry). IsEntry x before) first (subst (IsEntry e) others is)
    right_more (x ∷ later) before f q = m.right later before f (cc)

    moments_more : Moments (e ∷ es)
    moments_more = record { holds = holds_more; right = right_more }

  moments_none : Moments []
  moments_none = record { holds = none_holds; right = none_right }
    where
      none_holds : (later before : List Entry) → [] ≡ later ++ before → Holds before
      none_holds [] before q = subst Holds q (right_holds w lists supplied slack [] (opened_right w lists supplied slack))
      none_holds (x ∷ later) before q = absurd (cc)

      none_right : (later before : List Entry) (f : Entry) → [] ≡ later ++ (f ∷ before) → IsEntry f before
      none_right [] before f q = absurd (cc)
      none_right (x ∷ later) before f q = absurd (cc)

  -- one line more, with the book that the entries tell
  module _ (b : Plain) (es : List Entry) (told : b ≡ book_by w supplied slack es) (k : Right w lists supplied slack es) (line : Line) where
    abbrev next : Entry
    next = entry line (turn w b line)

    keeps : Keeps w lists supplied slack es k next
    keeps =
        let Kept : Plain → Type 0 = λ x. Keeps w lists supplied slack es k (entry line (turn w x line)) in
        subst Kept (sym told) (turn_keeps w lists supplied slack es k (in_hand es) refl line)

    next_is_right : line ≡ Next → in_hand es ≡ None → IsNext next es
    next_is_right l held =
        let here = book_by w supplied slack es in
        let IsBy : Option Reading → Type 0 = λ o. IsNext (entry Next (turn_with o w here Next)) es in
        let right : IsBy (in_hand es) = subst IsBy (sym held) (next_right w lists supplied slack es k) in
        let IsAt : Plain → Type 0 = λ x. IsNext (entry Next (turn w x Next)) es in
        let at_book : IsAt b = subst IsAt (sym told) right in
        subst (λ (x : Line). IsNext (entry x (turn w b x)) es) (sym l) at_book

    reject_is_right : (d : Reading) → line ≡ Reject → in_hand es ≡ Some d → IsRight next es
    reject_is_right d l held =
        let here = book_by w supplied slack es in
        let IsBy : Option Reading → Type 0 = λ o. IsRight (entry Reject (turn_with o w here Reject)) es in
        let right : IsBy (in_hand es) = subst IsBy (sym held) (reject_right w lists supplied slack es k d held) in
        let IsAt : Plain → Type 0 = λ x. IsRight (entry Reject (turn w x Reject)) es in
        let at_book : IsAt b = subst IsAt (sym told) right in
        subst (λ (x : Line). IsRight (entry x (turn w b x)) es) (sym l) at_book

    more : Moments es → Moments (next ∷ es)
    more m =
        moments_more es next m (right_holds w lists supplied slack (next ∷ es) keeps.right)
        (record { next = next_is_right; reject = reject_is_right; takes = keeps.takes })

  pub run_right : (b : Plain) (es : List Entry) (lines : List Line) → b ≡ book_by w supplied slack es → Right w lists supplied slack es → Right w lists supplied slack (latest_first lines (answers w b lines) es)
  run_right b es [] told k = k
  run_right b es (line ∷ lines) told k =
      run_right (turn w b line).book (next b es told k line ∷ es) lines (one_told w supplied slack b es line told) (keeps b es told k line).right

  run_moments : (b : Plain) (es : List Entry) (lines : List Line) → b ≡ book_by w supplied slack es → Right w lists supplied slack es → Moments es → Moments (latest_first lines (answers w b lines) es)
  run_moments b es [] told k m = m
  run_moments b es (line ∷ lines) told k m =
      run_moments (turn w b line).book (next b es told k line ∷ es) lines (one_told w supplied slack b es line told) (keeps b es told k line).right (more b es told k line m)

  -- rejecting goes on through the listing
  module _ (all : List Entry) (m : Moments all) (before : List Entry) (d : Reading) (listing : List Reading) (held : in_hand before ≡ Some d) (is : listing ≡ w.listing (place_of_next supplied before)) where
    record Going (rejects : List Entry) : Type 0 where
      still : place_of_next supplied (rejects ++ before) ≡ place_of_next supplied before
      last : Reading
      hand : in_hand (rejects ++ before) ≡ Some last
      so_far : offered (rejects ++ before) ≡ take (length (offered before) + length rejects) listing

    module _ (rejects later : List Entry) (e : Entry) (q : all ≡ later ++ (e ∷ (rejects ++ before))) (line : e.line ≡ Reject) (g : Going rejects) where
      abbrev now : List Entry
      now = rejects ++ before

      abbrev count : ℕ
      count = length (offered before) + length rejects

      there : listing ≡ w.listing (place_of_next supplied now)
      there = is ∙ ap w.listing (sym g.still)

      right : IsRight e now
      right = (m.right later now e q).reject g.last line g.hand

      at_end : length listing ≤ count → Going (e ∷ rejects)
      at_end past =
          let whole : offered now ≡ listing = g.so_far ∙ take_all count listing past in
          let none : deed e ≡ Nothing = denied_deed e 21 (right.denied listing there whole) in
          record {
            still = ap (λ (x : Deed). place_with x (place_told supplied now) (place_of_next supplied now)) none ∙ g.still;
            last = g.last;
            hand = ap (λ (x : Deed). hand_with x (in_hand now)) none ∙ g.hand;
            so_far = ap (λ (x : Deed). offered_with x (offered now)) none ∙ whole ∙ sym (take_all (length (offered before) + length (e ∷ rejects)) listing (omega arith));
          }

      goes_on : count < length listing → Going (e ∷ rejects)
      goes_on less =
          let long : length (offered now) ≡ count = ap length g.so_far ∙ length-take count listing ∙ omega arith in
          let some : offered now ≢ listing = λ s. let same = ap length s in omega arith in
          let did : deed e ≡ Following (given e.answer) = following_deed e line (right.granted listing there some) in
          let one : offered (e ∷ now) ≡ offered now ++ (given e.answer ∷ []) = ap (λ (x : Deed). offered_with x (offered now)) did in
          let still : place_of_next supplied (e ∷ now) ≡ place_of_next supplied now = ap (λ (x : Deed). place_with x (place_told supplied now) (place_of_next supplied now)) did in
          let grown : length (offered (e ∷ now)) ≡ length (offered before) + length (e ∷ rejects) = ap length one ∙ length-append (offered now) (given e.answer ∷ []) ∙ omega arith in
          let ordered = (m.holds later (e ∷ now) q).in_order listing (there ∙ ap w.listing (sym still)) in
          record {
            still = still ∙ g.still;
            last = given e.answer;
            hand = ap (λ (x : Deed). hand_with x (in_hand now)) did;
            so_far = ordered ∙ ap (λ (n : ℕ). take n listing) grown;
          }

      going_more : Going (e ∷ rejects)
      going_more = elim (cases_lt count (length listing)) [ inl less ↦ goes_on less | inr past ↦ at_end past ]

    going : (later rejects : List Entry) → all ≡ later ++ (rejects ++ before) → All (λ e. e.line ≡ Reject) rejects → Going rejects
    going later [] q lines =
        let ordered = (m.holds later before q).in_order listing is in
        record { still = refl; last = d; hand = held; so_far = ordered ∙ ap (λ (n : ℕ). take n listing) (omega arith) }
    going later (e ∷ rejects) q lines =
        let Rejects : Entry → Type 0 = λ x. x.line ≡ Reject in
        let behind = going (later ++ (e ∷ [])) rejects (q ∙ sym (append_assoc later (e ∷ []) (rejects ++ before))) (All-tail Rejects e rejects lines) in
        going_more rejects later e q (All-head Rejects e rejects lines) behind

  lawful : (all : List Entry) → Moments all → Lawful (Given w lists supplied slack) supplied all
  lawful all m = record {
    holds = m.holds;
    right = m.right;
    all_offered = λ later rejects before d listing q lines held is. (going all m before d listing held is later rejects q lines).so_far;
  }

pub book_is_lawful : BookIsLawful
book_is_lawful w supplied slack lines lists =
    lawful w lists supplied slack (transcript w supplied slack lines)
    (run_moments w lists supplied slack (opened supplied slack) [] lines refl (opened_right w lists supplied slack) (moments_none w lists supplied slack))

pub never_past_end : NeverPastEnd
never_past_end w supplied slack lines d lists held =
    let told = all_told w supplied slack (opened supplied slack) [] lines refl in
    let es = transcript w supplied slack lines in
    let right = run_right w lists supplied slack (opened supplied slack) [] lines refl (opened_right w lists supplied slack) in
    let hand = right.hand d (sym (ap (λ (b : Plain). b.hand) told) ∙ held) in
    let Is : Plain → Type 0 = λ b. MayTake b.place.rest d.head × (b.kept + d.head ≤ 4096) in
    subst Is (sym told) (hand.may, omega (arith, hand.may.most, right.few))
