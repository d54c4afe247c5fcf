-- What each call lays down, and that it leaves what was laid down before.
use Rattle.std.proofs.Common.{◌≡◌, ℕ, ◌+◌, ◌-◌, ◌<◌, ◌≤◌, Bool, true, false, ◌&&◌, ◌||◌, ltb, leb, length, sym, refl, ◌∙◌, inl, inr, arith}
use mathlib.Core.Bool.{or-false, or_assoc}
use Rattle.std.proofs.lemmas.Bool.{cases_lt, le-leb, lt-ltb, le-ltb, and_from}
use Rattle.bits.specs.Set.{has}
use Rattle.patterns.specs.Expression.{Expression, Then, Either}
use Rattle.patterns.specs.Positions.{size, takes, first, last, follows}
use Rattle.patterns.proofs.Ranges.{takes_out, first_out, last_out, follows_out, follows_none}
use Rattle.patterns.proofs.Shifts.{takes_shift, first_shift, last_shift, follows_shift}
use Rattle.positions.specs.declared.Fragment.{Fragment}
use Rattle.positions.specs.declared.Repeat.{Repeat}
use Rattle.positions.specs.declared.Repeat.TheVariants.{Many, Some, Maybe}
use Rattle.positions.specs.Memory.{Work, member, roomy, copiable, goes_round, Linked, Sequence, Choice, Repeats, Copied}
use Rattle.positions.specs.Laid.{Laid, Kept, made}
use Rattle.positions.proofs.Sets.{between_in, between_past}
use Rattle.positions.proofs.Links.{room, linked_order, linked_low, kept_linked}

pub kept_refl : {a : ℕ} {w : Work} → Kept a w w
kept_refl = record { bytes = λ p q h. refl; order = λ p q h. refl; others = λ k q h. refl }

pub kept_trans : {a : ℕ} {u v w : Work} → Kept a u v → Kept a v w → Kept a u w
kept_trans s t = record {
  bytes = λ p q h. t.bytes p q h ∙ s.bytes p q h;
  order = λ p q h. t.order p q h ∙ s.order p q h;
  others = λ k q h. t.others k q h ∙ s.others k q h;
}

pub kept_less : {a b : ℕ} {w w' : Work} → b ≤ a → Kept a w w' → Kept b w w'
kept_less l s = record {
  bytes = λ p q h. s.bytes p q (omega arith);
  order = λ p q h. s.order p q (omega arith);
  others = s.others;
}

pub laid_kept : {w w' : Work} {e : Expression} {a : ℕ} {f : Fragment} → Laid w e a f → Kept (a + size e) w w' → Laid w' e a f
laid_kept l s = record {
  within = l.within;
  empty = l.empty;
  begins = l.begins;
  ends = l.ends;
  bytes = λ p b h t c. s.bytes p b t ∙ l.bytes p b h t c;
  order = λ p q h t. s.order p q t ∙ l.order p q h t;
}

-- where the ends of what is laid down from a on are not
no_ends : {w : Work} {e : Expression} {a : ℕ} {x : Fragment} → Laid w e a x → (p : ℕ) → p < a → has x.last.words p ≡ false
no_ends {e = e} {a = a} l p h = l.ends p ∙ last_out e a p (inl h)

-- x, and then y

pub kept_then : {w w' : Work} {e : Expression} {a : ℕ} {x y f : Fragment} → Laid w e a x → Sequence w w' x y f → Kept a w w'
kept_then {w = w} {w' = w'} {e = e} {a = a} {x = x} {y = y} l s =
    kept_linked w w' x.last.words y.first.words s.memory a (omega (arith, l.within)) (no_ends l)

-- of two parts that lie one after another, each test is that of the part in which p lies
module _ {w : Work} {e g : Expression} {a : ℕ} {x y : Fragment} (l : Laid w e a x) (m : Laid w g (a + size e) y) where
  two_bytes : (p b : ℕ) → a ≤ p → p < a + (size e + size g) → b < 256 → member w p b ≡ (takes e a p b || takes g (a + size e) p b)
  two_bytes p b h t c =
      elim (cases_lt p (a + size e)) [
        | inl less ↦ rw (takes_out g (a + size e) p b (inl less), or-false) (l.bytes p b h less c)
        | inr past ↦ rw (takes_out e a p b (inr past)) (m.bytes p b past (omega arith) c)
      ]

  two_order : (p q : ℕ) → a ≤ p → p < a + (size e + size g) → member w (512 + p) q ≡ (follows e a p q || follows g (a + size e) p q)
  two_order p q h t =
      elim (cases_lt p (a + size e)) [
        | inl less ↦ rw (follows_out g (a + size e) p q (inl less), or-false) (l.order p q h less)
        | inr past ↦ rw (follows_out e a p q (inr past)) (m.order p q past (omega arith))
      ]

pub laid_then : {w w' : Work} {e g : Expression} {a : ℕ} {x y f : Fragment} → Laid w e a x → Laid w g (a + size e) y → 1024 ≤ length w → Sequence w w' x y f → Laid w' (Then e g) a f
laid_then {w = w} {w' = w'} {e = e} {g = g} {a = a} {x = x} {y = y} l m big s =
    let top = m.within in
    record {
      within = omega arith;
      empty = rw (s.nullable, l.empty, m.empty) refl;
      begins = λ q. rw (s.first q, l.empty, l.begins q, m.begins q) refl;
      ends = λ q. rw (s.last q, m.empty, l.ends q, m.ends q) refl;
      bytes = λ p b h t c. linked_low w w' x.last.words y.first.words s.memory p b (omega arith) ∙ two_bytes l m p b h t c;
      order = λ p q h t.
          let linked = linked_order w w' x.last.words y.first.words s.memory p q big (omega arith) in
          rw (linked, two_order l m p q h t, l.ends p, m.begins q) (or_assoc (follows e a p q) (follows g (a + size e) p q) (last e a p && first g (a + size e) q));
    }

-- x or y

pub laid_either : {w : Work} {e g : Expression} {a : ℕ} {x y f : Fragment} → Laid w e a x → Laid w g (a + size e) y → Choice x y f → Laid w (Either e g) a f
laid_either l m s =
    let top = m.within in
    record {
      within = omega arith;
      empty = rw (s.nullable, l.empty, m.empty) refl;
      begins = λ q. rw (s.first q, l.begins q, m.begins q) refl;
      ends = λ q. rw (s.last q, l.ends q, m.ends q) refl;
      bytes = two_bytes l m;
      order = two_order l m;
    }

-- x with a repeat mark

-- a mark that lets x go round links its ends to its beginnings
round : {w w' : Work} {x f : Fragment} (r : Repeat) → goes_round r ≡ true → Repeats r w w' x f → Linked w w' x.last.words x.first.words
round r goes s = λ k q. rw goes at (s.memory k q)

stays : {w w' : Work} {x f : Fragment} → Repeats Maybe w w' x f → (k q : ℕ) → member w' k q ≡ member w k q
stays s k q = s.memory k q ∙ or-false _

pub kept_repeats : {r : Repeat} {w w' : Work} {e : Expression} {a : ℕ} {x f : Fragment} → Laid w e a x → Repeats r w w' x f → Kept a w w'
kept_repeats {r = r} {w = w} {w' = w'} {a = a} {x = x} l s = go r s
  where
    round_kept : Linked w w' x.last.words x.first.words → Kept a w w'
    round_kept linked = kept_linked w w' x.last.words x.first.words linked a (omega (arith, l.within)) (no_ends l)

    go : {f : Fragment} (r : Repeat) → Repeats r w w' x f → Kept a w w'
    go Many s = round_kept (round Many refl s)
    go Some s = round_kept (round Some refl s)
    go Maybe s = record { bytes = λ p q h. stays s p q; order = λ p q h. stays s (512 + p) q; others = λ k q h. stays s k q }

-- memory in which the ends of e were linked to its beginnings
module _ {w : Work} {e : Expression} {a : ℕ} {x : Fragment} (l : Laid w e a x) (big : 1024 ≤ length w) (w' : Work) (linked : Linked w w' x.last.words x.first.words) where
  round_bytes : (p b : ℕ) → a ≤ p → p < a + size e → b < 256 → member w' p b ≡ takes e a p b
  round_bytes p b h t c =
      let top = l.within in
      linked_low w w' x.last.words x.first.words linked p b (omega arith) ∙ l.bytes p b h t c

  round_order : (p q : ℕ) → a ≤ p → p < a + size e → member w' (512 + p) q ≡ (follows e a p q || (last e a p && first e a q))
  round_order p q h t =
      let top = l.within in
      let at = linked_order w w' x.last.words x.first.words linked p q big (omega arith) in
      rw (at, l.order p q h t, l.ends p, l.begins q) refl

pub laid_repeats : {r : Repeat} {w w' : Work} {e : Expression} {a : ℕ} {x f : Fragment} → Laid w e a x → 1024 ≤ length w → Repeats r w w' x f → Laid w' (made r e) a f
laid_repeats {r = r} {w = w} {w' = w'} {e = e} {a = a} {x = x} l big s = go r s
  where
    go : {f : Fragment} (r : Repeat) → Repeats r w w' x f → Laid w' (made r e) a f
    go Many s = record {
      within = l.within;
      empty = s.nullable;
      begins = λ q. s.first q ∙ l.begins q;
      ends = λ q. s.last q ∙ l.ends q;
      bytes = round_bytes l big w' (round Many refl s);
      order = round_order l big w' (round Many refl s);
    }
    go Some s = record {
      within = l.within;
      empty = s.nullable ∙ l.empty;
      begins = λ q. s.first q ∙ l.begins q;
      ends = λ q. s.last q ∙ l.ends q;
      bytes = round_bytes l big w' (round Some refl s);
      order = round_order l big w' (round Some refl s);
    }
    go Maybe s = record {
      within = l.within;
      empty = s.nullable;
      begins = λ q. s.first q ∙ l.begins q;
      ends = λ q. s.last q ∙ l.ends q;
      bytes = λ p b h t c. stays s p b ∙ l.bytes p b h t c;
      order = λ p q h t. stays s (512 + p) q ∙ l.order p q h t;
    }

-- a copy

module _ {w w' : Work} {a n by : ℕ} {x f : Fragment} (big : 1024 ≤ length w) (low : n ≤ by) (top : a + n + by ≤ 512) (s : Copied w w' a n by x f) where
  fits : copiable w a n by ≡ true
  fits = and_from (roomy w) (leb n by && leb (a + n + by) 512) (room w big) (and_from (leb n by) (leb (a + n + by) 512) (le-leb n by low) (le-leb (a + n + by) 512 top))

  copy_bytes : (p q : ℕ) → a + by ≤ p → p < a + by + n → member w' p q ≡ member w (p - by) q
  copy_bytes p q h t =
      let here = between_in (a + by) (a + n + by) p h (omega arith) in
      rw (s.memory p q, fits, here) refl

  copy_order : (p q : ℕ) → a + by ≤ p → p < a + by + n → member w' (512 + p) q ≡ (ltb q 512 && (leb by q && member w (512 + (p - by)) (q - by)))
  copy_order p q h t =
      let bytes = between_past (a + by) (a + n + by) (512 + p) (omega arith) in
      let here = between_in (512 + a + by) (512 + a + n + by) (512 + p) (omega arith) (omega arith) in
      let place : 512 + p - by ≡ 512 + (p - by) = omega arith in
      rw (s.memory (512 + p) q, fits, bytes, here, place) refl

-- a test of numbers that lie below 512 may ask that too
below : (x : Bool) (q : ℕ) → (512 ≤ q → x ≡ false) → (ltb q 512 && x) ≡ x
below x q out =
    elim (cases_lt q 512) [
      | inl less ↦ rw (lt-ltb q 512 less) refl
      | inr past ↦ rw (le-ltb q 512 past) (sym (out past))
    ]

pub laid_copied : {w w' : Work} {e : Expression} {a by : ℕ} {x f : Fragment} → Laid w e a x → 1024 ≤ length w → size e ≤ by → a + size e + by ≤ 512 → Copied w w' a (size e) by x f → Laid w' e (a + by) f
laid_copied {w = w} {e = e} {a = a} {by = by} l big low top s =
    record {
      within = omega arith;
      empty = s.nullable ∙ l.empty;
      begins = λ q.
          rw (s.first q, l.begins (q - by), ← first_shift e a by q)
          (below (first e (a + by) q) q (λ past. first_out e (a + by) q (inr (omega arith))));
      ends = λ q.
          rw (s.last q, l.ends (q - by), ← last_shift e a by q)
          (below (last e (a + by) q) q (λ past. last_out e (a + by) q (inr (omega arith))));
      bytes = λ p b h t c.
          let above = le-leb by p (omega arith) in
          rw (takes_shift e a by p b, above) (copy_bytes big low top s p b h t ∙ l.bytes (p - by) b (omega arith) (omega arith) c);
      order = λ p q h t.
          let above = le-leb by p (omega arith) in
          let shift : follows e (a + by) p q ≡ (leb by q && follows e a (p - by) (q - by)) = rw above at (follows_shift e a by p q) in
          rw (copy_order big low top s p q h t, l.order (p - by) (q - by) (omega arith) (omega arith), ← shift)
          (below (follows e (a + by) p q) q (λ past. follows_none e (a + by) p q (inr (omega arith))));
    }
