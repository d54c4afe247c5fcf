-- What is read moves on, and stays within the text.
use Rattle.std.proofs.Common.{◌≡◌, ℕ, ◌+◌, ◌<◌, ◌≤◌, Bool, true, false, cond, ◌&&◌, ◌||◌, eqb, ltb, ◌⊎◌, List, length, get_or, Some, None, Ok, codes, Option, sym, refl, ap, inl, inr, ⊎_elim, arith, ltb-true}
use Rattle.std.proofs.lemmas.Bool.{and_parts}
use Rattle.patterns.specs.Expression.{Bytes}
use Rattle.classes.specs.declared.Class.{Class}
use Rattle.classes.specs.Posix.{members, class_named}
use Rattle.grammar.specs.declared.Read.{Read}
use Rattle.grammar.specs.declared.Refusal.TheVariants.{Misfit}
use Rattle.grammar.specs.Outcome.{Out, refused, read, then}
use Rattle.grammar.specs.Bytes.{stands, part, name_length, literal}
use Rattle.grammar.specs.Brackets.{escapable, escape_at, element_at, reserved, range_ahead, range_end, ranged, from_element, closed_class, class_at, dash, member_at}
use Rattle.tokens.proofs.Follow.{no_ok, then_ok}
use Rattle.tokens.proofs.Items.{stands_below, name_within, literal_moves}

pub by_cond : {X : Type 0} (b : Bool) (x y z : X) → cond b x y ≡ z → ((b ≡ true) × (x ≡ z)) ⊎ ((b ≡ false) × (y ≡ z))
by_cond true x y z e = inl (refl, e)
by_cond false x y z e = inr (refl, e)

pub ok_same : {X : Type 0} (x y : X) → ◌≡◌ {A = Out X} (Ok x) (Ok y) → x ≡ y
ok_same x y e = cc

pub escape_moves : (s : List ℕ) (n : ℕ) (e : Read ℕ) → escape_at s n ≡ Ok e → (e.next ≡ n + 1) × (n < length s)
escape_moves s n e h =
    ⊎_elim
    (λ p. (sym (ap (λ (x : Read ℕ). x.next) (ok_same _ _ p.1)), ltb-true _ _ (and_parts _ _ p.0).0))
    (λ p. absurd (no_ok _ _ p.1))
    (by_cond (ltb n (length s) && escapable (get_or s n 0)) _ _ _ h)

pub element_moves : (s : List ℕ) (n : ℕ) (e : Read ℕ) → element_at s n ≡ Ok e → (n < e.next) × (e.next ≤ length s)
element_moves s n e h =
    ⊎_elim
    (λ p. let m = escape_moves s (n + 1) e p.1 in (omega (arith, m.0), omega (arith, m.0, m.1)))
    (λ p. plain p.1)
    (by_cond (stands s n 92) _ _ _ h)
  where
    plain : cond (ltb n (length s)) (Ok (record { value = get_or s n 0; next = n + 1 })) (refused Misfit n) ≡ Ok e → (n < e.next) × (e.next ≤ length s)
    plain h =
        ⊎_elim
        (λ p. let q = ap (λ (x : Read ℕ). x.next) (ok_same _ _ p.1) in (omega (arith, q), omega (arith, q, ltb-true _ _ p.0)))
        (λ p. absurd (no_ok _ _ p.1))
        (by_cond (ltb n (length s)) _ _ _ h)

chosen_next : (f : ℕ → Bool) (n : ℕ) (c : Read Bytes) → read f n ≡ Ok c → n ≡ c.next
chosen_next f n c e = ap (λ (x : Read Bytes). x.next) (ok_same _ _ e)

range_end_moves : (s : List ℕ) (n : ℕ) (e : Read ℕ) → range_end s n ≡ Ok e → (n < e.next) × (e.next ≤ length s)
range_end_moves s n e h =
    ⊎_elim (λ p. absurd (no_ok _ _ p.1)) (λ p. element_moves s n e p.1) (by_cond (reserved s n) _ _ _ h)

ranged_next : (n low : ℕ) (high : Read ℕ) (c : Read Bytes) → ranged n low high ≡ Ok c → high.next ≡ c.next
ranged_next n low high c h =
    ⊎_elim (λ p. absurd (no_ok _ _ p.1)) (λ p. chosen_next _ _ c p.1) (by_cond (ltb high.value low) _ _ _ h)

from_moves : (s : List ℕ) (n : ℕ) (e : Read ℕ) (c : Read Bytes) → (n < e.next) × (e.next ≤ length s) → from_element s n e ≡ Ok c → (n < c.next) × (c.next ≤ length s)
from_moves s n e c m h =
    ⊎_elim
    (λ p.
    let t = then_ok (range_end s (e.next + 1)) (ranged n e.value) c p.1 in
    let q = ranged_next n e.value t.0 c t.2 in
    let r = range_end_moves s (e.next + 1) t.0 t.1 in
    (omega (arith, q, r.0, m.0), omega (arith, q, r.1)))
    (λ p. let q = chosen_next _ _ c p.1 in (omega (arith, q, m.0), omega (arith, q, m.1)))
    (by_cond (range_ahead s e.next) _ _ _ h)

closed_moves : (o : Option Class) (s : List ℕ) (n k : ℕ) (c : Read Bytes) → n + k ≤ length s → closed_class o s n k ≡ Ok c → (n ≤ c.next) × (c.next ≤ length s)
closed_moves None s n k c le h = absurd (no_ok _ _ h)
closed_moves (Some o) s n k c le h =
    let t = then_ok (literal (codes ":]") s (n + k)) (read (members o)) c h in
    let m = literal_moves (codes ":]") s (n + k) t.0 t.1 le in
    let q = chosen_next _ _ c t.2 in
    (omega (arith, q, m.1), omega (arith, q, m.0))

class_moves : (s : List ℕ) (n : ℕ) (c : Read Bytes) → n ≤ length s → class_at s n ≡ Ok c → (n ≤ c.next) × (c.next ≤ length s)
class_moves s n c le h =
    ⊎_elim
    (λ p. absurd (no_ok _ _ p.1))
    (λ p. closed_moves (class_named (part s n (name_length s n))) s n (name_length s n) c (name_within s n le) p.1)
    (by_cond (eqb (name_length s n) 0) _ _ _ h)

dash_moves : (s : List ℕ) (first : Bool) (n : ℕ) (c : Read Bytes) → n < length s → dash s first n ≡ Ok c → (n < c.next) × (c.next ≤ length s)
dash_moves s first n c lt h =
    ⊎_elim
    (λ p. let q = chosen_next _ _ c p.1 in (omega (arith, q), omega (arith, q)))
    (λ p. absurd (no_ok _ _ p.1))
    (by_cond (first || stands s (n + 1) 93) _ _ _ h)

-- a member is at least one byte
pub member_moves : (s : List ℕ) (first : Bool) (n : ℕ) (c : Read Bytes) → member_at s first n ≡ Ok c → (n < c.next) × (c.next ≤ length s)
member_moves s first n c h =
    ⊎_elim (λ p. dash_moves s first n c (stands_below s n 45 (sym p.0)) p.1) (λ p. other p.1) (by_cond (stands s n 45) _ _ _ h)
  where
    named : cond (stands s (n + 1) 58) (class_at s (n + 2)) (refused Misfit n) ≡ Ok c → (n < c.next) × (c.next ≤ length s)
    named h =
        ⊎_elim
        (λ p.
        let lt = stands_below s (n + 1) 58 (sym p.0) in
        let m = class_moves s (n + 2) c (omega arith) p.1 in
        (omega (arith, m.0), m.1))
        (λ p. absurd (no_ok _ _ p.1))
        (by_cond (stands s (n + 1) 58) _ _ _ h)

    other : cond (reserved s n) (cond (stands s (n + 1) 58) (class_at s (n + 2)) (refused Misfit n)) (then (element_at s n) (from_element s n)) ≡ Ok c → (n < c.next) × (c.next ≤ length s)
    other h =
        ⊎_elim
        (λ p. named p.1)
        (λ p.
        let t = then_ok (element_at s n) (from_element s n) c p.1 in
        from_moves s n t.0 c (element_moves s n t.0 t.1) t.2)
        (by_cond (reserved s n) _ _ _ h)
