-- Books that list by the rules of a file.
use Rattle.std.proofs.Common.{◌≡◌, ℕ, zero, suc, ◌+◌, ◌-◌, ◌<◌, ◌≤◌, ◌&&◌, List, [], ◌∷◌, length, take, slice_index_or, nat_lt, nat_le, Some, None, Option, refl, sym, ap, subst, ◌∙◌, arith, length-take-le}
use Rattle.std.specs.List.{All}
use Rattle.std.proofs.lemmas.List.Elements.{All-append, All-cons, All-head, All-tail, All-drop}
use Rattle.patterns.specs.Expression.{Expression}
use Rattle.grammar.specs.File.{RuleText}
use Rattle.places.specs.declared.Reading.{Reading}
use Rattle.places.specs.Listing.{Place, Splits, Listed, Listing, IsListing, last_resort}
use Rattle.places.specs.Order.{first_of, next_of}
use Rattle.places.proofs.Following.{listing_follows}
use Rattle.places.proofs.Rows.{listed_readings, listed_are, one_listing}
use Rattle.plain.specs.declared.Line.{Line}
use Rattle.plain.specs.declared.Line.TheVariants.{Next, Reject, Accept, Keep, Extend, Begin, PutBack}
use Rattle.plain.specs.declared.Answer.{Answer}
use Rattle.plain.specs.Book.{World, Plain, Turn, opened, denied, offers, takes, begins, puts_back, idle, holding, turn_with, turn, answers}
use Rattle.plain.specs.Transcript.{Entry, latest_first}
use Rattle.plain.specs.Lawful.{MayTake, Lawful}
use Rattle.plain.specs.Theorems.{IsListedRight, PutsBytes, transcript, RulesBookIsLawful, OneBook, RulesListRight}
use Rattle.plain.proofs.Told.{by_test}
use Rattle.plain.proofs.Whole.{book_is_lawful}

-- a reading of a rule, from 1 on, with a head that may be taken
pub record IsRuled (rest : List ℕ) (d : Reading) : Type 0 where
  pub ruled : 1 ≤ d.rule
  pub may : MayTake rest d.head

single_may : (rest : List ℕ) → All (λ d. MayTake rest d.head) (last_resort rest)
single_may [] k d below = absurd (omega arith)
single_may (b ∷ rest) zero d below = record { some = omega arith; most = omega arith; within = omega arith }
single_may (b ∷ rest) (suc k) d below = absurd (omega arith)

-- what is listed is listed right, whatever is allowed, if all that is allowed is ruled
module _ (allowed : Place → Reading → Type 0) (ruled : (p : Place) (d : Reading) → allowed p d → IsRuled p.rest d) where
  pub listed_right : (listing : Place → List Reading) → ((p : Place) → IsListing (allowed p) p.rest (listing p)) → IsListedRight listing
  listed_right listing l = record {
    in_order = λ p. listing_follows (allowed p) p.rest (listing p) (λ d a. (ruled p d a).ruled) (l p);
    heads = λ p.
        let May : Reading → Type 0 = λ d. MayTake p.rest d.head in
        let all : All May (l p).readings = λ k d below. (ruled p (slice_index_or (l p).readings k d) ((l p).right k d below)).may in
        subst (All May) (sym (l p).whole) (All-append May (l p).readings (last_resort p.rest) all (single_may p.rest));
  }

split_within : (r : Expression) (x : Option Expression) (s : List ℕ) (h : ℕ) → Splits r x s h → h ≤ length s
split_within r None s h k = omega (arith, k.0)
split_within r (Some x) s h k = k.0

listed_ruled : (rules : List RuleText) (p : Place) (d : Reading) → Listed rules p d → IsRuled p.rest d
listed_ruled rules p d l =
    let head = split_within l.rule.expression l.rule.trailing (take d.total p.rest) d.head l.matches.splits in
    let long = length-take-le d.total p.rest l.matches.within in
    record {
      ruled = omega (arith, l.number);
      may = record { some = l.matches.headed; most = omega (arith, l.most); within = omega (arith, l.matches.within) };
    }

pub rules_list_right : RulesListRight
rules_list_right rules listing l = listed_right (Listed rules) (listed_ruled rules) listing l

abbrev Bytes : List ℕ → Type 0
Bytes s = All (λ b. b < 256) s

-- two books that list the same at places of bytes
module _ (conditions capacity : ℕ) (listing other : Place → List Reading) (same : (p : Place) → Bytes p.rest → listing p ≡ other p) where
  abbrev one : World
  one = record { conditions = conditions; capacity = capacity; listing = listing }

  abbrev second : World
  second = record { conditions = conditions; capacity = capacity; listing = other }

  module _ (b : Plain) (bytes : Bytes b.place.rest) where
    same_idle : (line : Line) → idle one b line ≡ idle second b line
    same_idle Next = ap (λ (ds : List Reading). offers 21 [] (first_of ds) b) (same b.place bytes)
    same_idle Reject = refl
    same_idle Accept = refl
    same_idle (Keep n) = refl
    same_idle Extend = refl
    same_idle (Begin c) = refl
    same_idle (PutBack x) = refl

    same_holding : (d : Reading) (line : Line) → holding one b d line ≡ holding second b d line
    same_holding d Next = refl
    same_holding d Reject = ap (λ (ds : List Reading). offers 22 b.offered (next_of d.rule d.total ds) b) (same b.place bytes)
    same_holding d Accept = refl
    same_holding d (Keep n) = refl
    same_holding d Extend = refl
    same_holding d (Begin c) = refl
    same_holding d (PutBack x) = refl

    same_turn_with : (o : Option Reading) (line : Line) → turn_with o one b line ≡ turn_with o second b line
    same_turn_with None line = same_idle line
    same_turn_with (Some d) line = same_holding d line

    -- and what is left is made of bytes
    abbrev Leaves : Turn → Type 0
    Leaves t = Bytes t.book.place.rest

    offered_bytes : (n : ℕ) (earlier : List Reading) (o : Option Reading) → Leaves (offers n earlier o b)
    offered_bytes n earlier None = bytes
    offered_bytes n earlier (Some d) = bytes

    taken_bytes : (n kept : ℕ) → Leaves (takes one n kept b)
    taken_bytes n kept = All-drop (λ x. x < 256) n b.place.rest bytes

    idle_bytes : (line : Line) → PutsBytes line → Leaves (idle one b line)
    idle_bytes Next puts = offered_bytes 21 [] _
    idle_bytes Reject puts = bytes
    idle_bytes Accept puts = bytes
    idle_bytes (Keep n) puts = bytes
    idle_bytes Extend puts = bytes
    idle_bytes (Begin c) puts = by_test Leaves (nat_lt c conditions) (begins c b) (denied 25 b) (λ e. bytes) bytes
    idle_bytes (PutBack x) puts = by_test Leaves (nat_lt 0 b.slack) (puts_back x b) (denied 12 b) (λ e. All-cons (λ y. y < 256) x b.place.rest puts bytes) bytes

    holding_bytes : (d : Reading) (line : Line) → Leaves (holding one b d line)
    holding_bytes d Next = bytes
    holding_bytes d Reject = offered_bytes 22 b.offered _
    holding_bytes d Accept = taken_bytes d.head 0
    holding_bytes d (Keep n) = by_test Leaves (nat_lt b.kept n && nat_le n (b.kept + d.head)) (takes one (n - b.kept) 0 b) (denied 23 b) (λ e. taken_bytes (n - b.kept) 0) bytes
    holding_bytes d Extend = by_test Leaves (nat_le (b.kept + d.head) 3072) (takes one d.head (b.kept + d.head) b) (denied 24 b) (λ e. taken_bytes d.head (b.kept + d.head)) bytes
    holding_bytes d (Begin c) = bytes
    holding_bytes d (PutBack x) = bytes

    turn_bytes : (o : Option Reading) (line : Line) → PutsBytes line → Leaves (turn_with o one b line)
    turn_bytes None line puts = idle_bytes line puts
    turn_bytes (Some d) line puts = holding_bytes d line

  pub same_answers : (b : Plain) (lines : List Line) → Bytes b.place.rest → All PutsBytes lines → answers one b lines ≡ answers second b lines
  same_answers b [] bytes puts = refl
  same_answers b (line ∷ lines) bytes puts =
      let turns : turn one b line ≡ turn second b line = same_turn_with b bytes b.hand line in
      let others = same_answers (turn one b line).book lines (turn_bytes b bytes b.hand line (All-head PutsBytes line lines puts)) (All-tail PutsBytes line lines puts) in
      ap (λ (xs : List Answer). (turn one b line).answer ∷ xs) others ∙ ap (λ (t : Turn). t.answer ∷ answers second t.book lines) turns

pub one_book : OneBook
one_book rules conditions capacity listing other supplied slack lines first second bytes puts =
    same_answers conditions capacity listing other (λ p b. (one_listing rules p).1 (listing p) (other p) (first p b) (second p b)) (opened supplied slack) lines bytes puts

-- the laws by the one listing are the laws by the book's
module _ (IsFirst IsSecond : Place → List Reading → Type 0) (supplied : List ℕ) (first_is : (p : Place) (ds : List Reading) → IsSecond p ds → IsFirst p ds) where
  pub lawful_by : (es : List Entry) → Lawful IsFirst supplied es → Lawful IsSecond supplied es
  lawful_by es l = record {
    holds = λ later before q. let h = l.holds later before q in record {
      in_order = λ ds is. h.in_order ds (first_is _ ds is);
      none_twice = h.none_twice;
      balance = h.balance;
      remains = h.remains;
    };
    right = λ later before e q. let r = l.right later before e q in record {
      next = λ line held. let n = r.next line held in record {
        denied = λ ds is. n.denied ds (first_is _ ds is);
        granted = λ ds is. n.granted ds (first_is _ ds is);
      };
      reject = λ d line held. let n = r.reject d line held in record {
        denied = λ ds is. n.denied ds (first_is _ ds is);
        granted = λ ds is. n.granted ds (first_is _ ds is);
      };
      takes = r.takes;
    };
    all_offered = λ later rejects before d ds q lines held is. l.all_offered later rejects before d ds q lines held (first_is _ ds is);
  }

pub rules_book_is_lawful : RulesBookIsLawful
rules_book_is_lawful rules w supplied slack lines lists bytes puts =
    let listing = listed_readings rules in
    let is = listed_are rules in
    let v : World = record w { listing = listing } in
    let Given : Place → List Reading → Type 0 = λ p ds. ds ≡ listing p in
    let by_one : Lawful Given supplied (transcript v supplied slack lines) = book_is_lawful v supplied slack lines (rules_list_right rules listing is) in
    let by_rules = lawful_by Given (Listing rules) supplied (λ p ds l. (one_listing rules p).1 ds (listing p) l (is p)) (transcript v supplied slack lines) by_one in
    let same : answers v (opened supplied slack) lines ≡ answers w (opened supplied slack) lines = one_book rules w.conditions w.capacity listing w.listing supplied slack lines (λ p b. is p) lists bytes puts in
    subst (λ (xs : List Answer). Lawful (Listing rules) supplied (latest_first lines xs [])) same by_rules
