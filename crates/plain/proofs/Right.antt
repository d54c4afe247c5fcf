-- What is so of a transcript after each line, and that one line more keeps it.
use Rattle.std.proofs.Common.{◌≡◌, ◌≢◌, ℕ, suc, ◌+◌, ◌-◌, ◌≤◌, ◌&&◌, List, [], ◌∷◌, ◌++◌, length, take, drop, nat_lt, nat_le, Some, None, Option, refl, sym, ap, subst, ◌∙◌, append_assoc, arith, length-drop}
use Rattle.std.specs.List.{All, AllPairs}
use Rattle.std.proofs.lemmas.Bool.{and_parts, leb-true, ltb-true}
use Rattle.std.proofs.lemmas.List.{append-nil, drop-drop}
use Rattle.std.proofs.Math.ListN.{drop_of_length-le}
use Rattle.places.specs.declared.Reading.{Reading}
use Rattle.places.specs.Listing.{Place}
use Rattle.places.specs.Order.{first_of, next_of}
use Rattle.places.proofs.Following.{Follows, found_behind}
use Rattle.plain.specs.declared.Line.{Line}
use Rattle.plain.specs.declared.Line.TheVariants.{Next, Reject, Accept, Keep, Extend, Begin, PutBack}
use Rattle.plain.specs.Book.{World, Plain, Turn, denied, offers, takes, begins, puts_back, idle, holding, turn_with}
use Rattle.plain.specs.Transcript.{Entry, deed, Taking, place_told, place_of_next, offered, in_hand, taken, put_back, kept_told}
use Rattle.plain.specs.Lawful.{MayTake, HoldsAfter, NextIsRight, RejectIsRight}
use Rattle.plain.specs.Theorems.{IsListedRight}
use Rattle.plain.proofs.Lists.{first_is, none_is, all_at, first_part, parted, no_two}
use Rattle.plain.proofs.Told.{by_test, entry, book_by}

module _ (w : World) (lists : IsListedRight w.listing) (supplied : List ℕ) (slack : ℕ) where
  -- of a reading in hand: it is the last offered, the place is that of the last next, and its head may be taken
  pub record InHand (es : List Entry) (d : Reading) : Type 0 where
    pub still : place_told supplied es ≡ place_of_next supplied es
    pub may : MayTake (place_told supplied es).rest d.head
    pub earlier : List Reading
    pub last : offered es ≡ earlier ++ (d ∷ [])

  pub record Right (es : List Entry) : Type 0 where
    pub in_order : offered es ≡ take (length (offered es)) (w.listing (place_of_next supplied es))
    pub balance : taken es + length (place_told supplied es).rest ≡ length supplied + put_back es
    pub remains : put_back es ≡ 0 → (place_told supplied es).rest ≡ drop (taken es) supplied
    pub few : kept_told es ≤ 3072
    pub hand : (d : Reading) → in_hand es ≡ Some d → InHand es d

  abbrev pub Given : Place → List Reading → Type 0
  Given place listing = listing ≡ w.listing place

  pub right_holds : (es : List Entry) → Right es → HoldsAfter Given supplied es
  right_holds es k = record {
    in_order = λ listing e. k.in_order ∙ ap (take (length (offered es))) (sym e);
    none_twice = subst (AllPairs (λ one later. one ≢ later)) (sym k.in_order) (no_two (w.listing (place_of_next supplied es)) (length (offered es)) (lists.in_order (place_of_next supplied es)));
    balance = k.balance;
    remains = k.remains;
  }

  module _ (es : List Entry) (k : Right es) where
    abbrev book : Plain
    book = book_by w supplied slack es

    abbrev place : Place
    place = place_told supplied es

    -- after this entry
    pub record Keeps (e : Entry) : Type 0 where
      pub right : Right (e ∷ es)
      pub takes : (n : ℕ) → deed e ≡ Taking n → MayTake place.rest n

    denied_keeps : (line : Line) (n : ℕ) → Keeps (entry line (denied (suc n) book))
    denied_keeps line n = record {
      right = record {
        in_order = k.in_order;
        balance = k.balance;
        remains = k.remains;
        few = k.few;
        hand = λ d e. let h = k.hand d e in record { still = h.still; may = h.may; earlier = h.earlier; last = h.last };
      };
      takes = λ n e. absurd (cc);
    }

    -- the reading is offered, of a listing in which it stands behind those offered
    next_keeps : (o : Option Reading) → first_of (w.listing place) ≡ o → Keeps (entry Next (offers 21 [] o book))
    next_keeps None e = denied_keeps Next 20
    next_keeps (Some d) e =
        let whole = first_is (w.listing place) d e in
        let May : Reading → Type 0 = λ r. MayTake place.rest r.head in
        let may : May d = all_at May [] whole.0 d (subst (All May) whole.1 (lists.heads place)) in
        record {
          right = record {
            in_order = first_part (d ∷ []) whole.0 _ whole.1;
            balance = k.balance;
            remains = k.remains;
            few = k.few;
            hand = λ x same. let q : d ≡ x = cc in record { still = refl; may = subst May q may; earlier = []; last = ap (λ (r : Reading). r ∷ []) q };
          };
          takes = λ n e. absurd (cc);
        }

    next_by : (o : Option Reading) → first_of (w.listing place) ≡ o → NextIsRight Given supplied (entry Next (offers 21 [] o book)) es
    next_by None e = record { denied = λ listing same none. refl; granted = λ listing same some. absurd (some (same ∙ none_is (w.listing place) e)) }
    next_by (Some d) e = record {
      denied = λ listing same none. let nothing : None ≡ Some d = ap first_of (sym none ∙ same) ∙ e in absurd (cc);
      granted = λ listing same some. refl;
    }

    pub next_right : NextIsRight Given supplied (entry Next (idle w book Next)) es
    next_right = next_by (first_of (w.listing place)) refl

    -- bytes are taken
    took : (e : Entry) (n : ℕ) → deed e ≡ Taking n → MayTake place.rest n → kept_told (e ∷ es) ≤ 3072 → Keeps e
    took e n q may few = record {
      right = record {
        in_order = rw q k.in_order;
        balance = rw (q, length-drop) (omega (arith, k.balance, may.within));
        remains = rw q (λ none. ap (drop n) (k.remains none) ∙ drop-drop n (taken es) supplied);
        few = few;
        hand = λ d. rw q (λ same. absurd (cc));
      };
      takes = λ m s. subst (MayTake place.rest) (cc) may;
    }

    abbrev KeepsBy : Line → Turn → Type 0
    KeepsBy line t = Keeps (entry line t)

    idle_keeps : in_hand es ≡ None → (line : Line) → Keeps (entry line (idle w book line))
    idle_keeps h Next = next_keeps (first_of (w.listing place)) refl
    idle_keeps h Reject = denied_keeps Reject 30
    idle_keeps h Accept = denied_keeps Accept 30
    idle_keeps h (Keep n) = denied_keeps (Keep n) 30
    idle_keeps h Extend = denied_keeps Extend 30
    idle_keeps h (Begin c) =
        by_test (KeepsBy (Begin c)) (nat_lt c w.conditions) (begins c book) (denied 25 book)
        (λ t. record {
          right = record { in_order = k.in_order; balance = k.balance; remains = k.remains; few = k.few; hand = λ d e. absurd (cc) };
          takes = λ n e. absurd (cc);
        })
        (denied_keeps (Begin c) 24)
    idle_keeps h (PutBack x) =
        by_test (KeepsBy (PutBack x)) (nat_lt 0 book.slack) (puts_back x book) (denied 12 book)
        (λ t. record {
          right = record { in_order = k.in_order; balance = omega (arith, k.balance); remains = λ none. absurd (omega arith); few = k.few; hand = λ d e. absurd (cc) };
          takes = λ n e. absurd (cc);
        })
        (denied_keeps (PutBack x) 11)

    module _ (d : Reading) (h : InHand es d) where
      -- those that are listed behind the offered ones
      abbrev others : List Reading
      others = drop (length (offered es)) (w.listing place)

      whole : w.listing place ≡ offered es ++ others
      whole =
          let ordered : offered es ≡ take (length (offered es)) (w.listing place) = cc (h.still, k.in_order) in
          parted (offered es) (w.listing place) ordered

      following : next_of d.rule d.total (w.listing place) ≡ first_of others
      following =
          let split : w.listing place ≡ h.earlier ++ (d ∷ others) = whole ∙ ap (λ (xs : List Reading). xs ++ others) h.last ∙ append_assoc h.earlier (d ∷ []) others in
          ap (next_of d.rule d.total) split ∙ found_behind h.earlier others d (subst (AllPairs Follows) split (lists.in_order place))

      reject_keeps : (o : Option Reading) → first_of others ≡ o → Keeps (entry Reject (offers 22 (offered es) o book))
      reject_keeps None e = denied_keeps Reject 21
      reject_keeps (Some f) e =
          let more = first_is others f e in
          let split : w.listing place ≡ offered es ++ (f ∷ more.0) = whole ∙ ap (λ (xs : List Reading). offered es ++ xs) more.1 in
          let of_next : w.listing (place_of_next supplied es) ≡ (offered es ++ (f ∷ [])) ++ more.0 = ap w.listing (sym h.still) ∙ split ∙ sym (append_assoc (offered es) (f ∷ []) more.0) in
          let May : Reading → Type 0 = λ r. MayTake place.rest r.head in
          let may : May f = all_at May (offered es) more.0 f (subst (All May) split (lists.heads place)) in
          record {
            right = record {
              in_order = first_part (offered es ++ (f ∷ [])) more.0 _ of_next;
              balance = k.balance;
              remains = k.remains;
              few = k.few;
              hand = λ x same. let q : f ≡ x = cc in record { still = h.still; may = subst May q may; earlier = offered es; last = ap (λ (r : Reading). offered es ++ (r ∷ [])) q };
            };
            takes = λ n e. absurd (cc);
          }

      holding_keeps : (line : Line) → Keeps (entry line (holding w book d line))
      holding_keeps Next = denied_keeps Next 31
      holding_keeps Reject = reject_keeps _ (sym following)
      holding_keeps Accept = took _ d.head refl h.may (omega arith)
      holding_keeps (Keep n) =
          by_test (KeepsBy (Keep n)) (nat_lt book.kept n && nat_le n (book.kept + d.head)) (takes w (n - book.kept) 0 book) (denied 23 book)
          (λ t.
          let both = and_parts (nat_lt book.kept n) (nat_le n (book.kept + d.head)) t in
          let least = ltb-true book.kept n both.0 in
          let most = leb-true n (book.kept + d.head) both.1 in
          let may : MayTake place.rest (n - book.kept) = record { some = omega arith; most = omega (arith, h.may.most); within = omega (arith, h.may.within) } in
          took _ (n - book.kept) refl may (omega arith))
          (denied_keeps (Keep n) 22)
      holding_keeps Extend =
          by_test (KeepsBy Extend) (nat_le (book.kept + d.head) 3072) (takes w d.head (book.kept + d.head) book) (denied 24 book)
          (λ t. took _ d.head refl h.may (leb-true (book.kept + d.head) 3072 t))
          (denied_keeps Extend 23)
      holding_keeps (Begin c) = denied_keeps (Begin c) 31
      holding_keeps (PutBack x) = denied_keeps (PutBack x) 31

      -- the whole listing was offered exactly if no other reading is left
      none_left : offered es ≡ w.listing (place_of_next supplied es) → others ≡ []
      none_left e =
          let all : offered es ≡ w.listing place = cc (h.still) in
          let long : length (w.listing place) ≤ length (offered es) = omega (arith, ap length all) in
          drop_of_length-le (w.listing place) long

      all_offered : others ≡ [] → offered es ≡ w.listing (place_of_next supplied es)
      all_offered e =
          let all : w.listing place ≡ offered es = whole ∙ ap (λ (xs : List Reading). offered es ++ xs) e ∙ append-nil (offered es) in
          cc (h.still)

      right_by : (o : Option Reading) → first_of others ≡ o → RejectIsRight Given supplied (entry Reject (offers 22 (offered es) o book)) es
      right_by None e = record { denied = λ listing same all. refl; granted = λ listing same some. absurd (some (all_offered (none_is others e) ∙ sym same)) }
      right_by (Some f) e = record {
        denied = λ listing same all. let none : None ≡ Some f = ap first_of (sym (none_left (all ∙ same))) ∙ e in absurd (cc);
        granted = λ listing same some. refl;
      }

    pub turn_keeps : (o : Option Reading) → in_hand es ≡ o → (line : Line) → Keeps (entry line (turn_with o w book line))
    turn_keeps None h line = idle_keeps h line
    turn_keeps (Some d) h line = holding_keeps d (k.hand d h) line

    pub reject_right : (d : Reading) → in_hand es ≡ Some d → RejectIsRight Given supplied (entry Reject (holding w book d Reject)) es
    reject_right d h = right_by d (k.hand d h) _ (sym (following d (k.hand d h)))

  pub opened_right : Right []
  opened_right = record { in_order = refl; balance = omega arith; remains = λ none. refl; few = omega arith; hand = λ d e. absurd (cc) }
