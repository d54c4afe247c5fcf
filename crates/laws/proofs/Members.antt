-- Escapes and brackets: each moves on within the text, and is refused within it.
use Rattle.std.proofs.Common.{◌≡◌, ℕ, ◌+◌, ◌<◌, ◌≤◌, Bool, true, false, not, ◌&&◌, ◌||◌, eqb, ltb, List, length, get_or, Some, None, codes, Option, arith}
use Rattle.std.proofs.lemmas.Bool.{and_parts, ltb-true, not-false}
use Rattle.patterns.specs.Expression.{Bytes}
use Rattle.classes.specs.declared.Class.{Class}
use Rattle.classes.specs.Posix.{members, class_named}
use Rattle.grammar.specs.declared.Read.{Read}
use Rattle.grammar.specs.Outcome.{read, then, many}
use Rattle.grammar.specs.Bytes.{stands, part, name_length}
use Rattle.grammar.specs.Brackets.{escapable, escape_at, element_at, reserved, range_ahead, range_end, ranged, from_element, closed_class, class_at, dash, member_at, in_bracket, joined, member_more, closed_bracket, members_at, bracket_at}
use Rattle.tokens.proofs.Items.{name_within}
use Rattle.laws.proofs.Ends.{Ends, well, ill, map_ends, then_ends, cond_ends, many_ends, Past, standing, literal_ends}

module _ (s : List ℕ) where
  abbrev pub Next : ℕ → Read ℕ → Type 0
  Next n e = Past s n e.next

  abbrev pub Behind : ℕ → Read Bytes → Type 0
  Behind n c = Past s n c.next

  pub escape_ends : (n : ℕ) → n ≤ length s → Ends (Next n) (length s) (escape_at s n)
  escape_ends n h =
      cond_ends (ltb n (length s) && escapable (get_or s n 0))
      (λ t. let lt : n < length s = ltb-true _ _ (and_parts (ltb n (length s)) (escapable (get_or s n 0)) t).0 in well (omega arith, omega arith))
      (λ f. ill h)

  pub element_ends : (n : ℕ) → n ≤ length s → Ends (Next n) (length s) (element_at s n)
  element_ends n h =
      cond_ends (stands s n 92)
      (λ t. map_ends (λ e k. (omega arith, k.1)) (escape_ends (n + 1) (omega (arith, standing s n 92 t))))
      (λ f. cond_ends (ltb n (length s)) (λ t. let lt : n < length s = ltb-true _ _ t in well (omega arith, omega arith)) (λ g. ill h))

  range_ends : (n : ℕ) → n ≤ length s → Ends (Next n) (length s) (range_end s n)
  range_ends n h = cond_ends (reserved s n) (λ t. ill h) (λ f. element_ends n h)

  from_ends : (n : ℕ) (e : Read ℕ) → Next n e → Ends (Behind n) (length s) (from_element s n e)
  from_ends n e h =
      cond_ends (range_ahead s e.next)
      (λ t.
      let lt : e.next < length s = standing s e.next 45 (and_parts (stands s e.next 45) (not (stands s (e.next + 1) 93)) t).0 in
      then_ends (ranged n e.value) (range_ends (e.next + 1) (omega arith))
      (λ high k. cond_ends (ltb high.value e.value) (λ t. ill (omega arith)) (λ f. well (omega arith, k.1))))
      (λ f. well h)

  closed_ends : (o : Option Class) (n k : ℕ) → n + k ≤ length s → Ends (Behind n) (length s) (closed_class o s n k)
  closed_ends None n k h = ill (omega arith)
  closed_ends (Some c) n k h =
      then_ends (read (members c)) (literal_ends (codes ":]") s (n + k) h) (λ m g. well (omega arith, g.1))

  class_ends : (n : ℕ) → n ≤ length s → Ends (Behind n) (length s) (class_at s n)
  class_ends n h =
      cond_ends (eqb (name_length s n) 0) (λ t. ill h)
      (λ f. closed_ends (class_named (part s n (name_length s n))) n (name_length s n) (name_within s n h))

  dash_ends : (first : Bool) (n : ℕ) → n < length s → Ends (Behind n) (length s) (dash s first n)
  dash_ends first n h =
      cond_ends (first || stands s (n + 1) 93) (λ t. well (omega arith, omega arith)) (λ f. ill (omega arith))

  member_ends : (first : Bool) (n : ℕ) → n ≤ length s → Ends (Behind n) (length s) (member_at s first n)
  member_ends first n h =
      cond_ends (stands s n 45) (λ t. dash_ends first n (standing s n 45 t))
      (λ f. cond_ends (reserved s n)
      (λ t. cond_ends (stands s (n + 1) 58)
      (λ u. map_ends (λ c k. (omega arith, k.1)) (class_ends (n + 2) (omega (arith, standing s (n + 1) 58 u))))
      (λ u. ill h))
      (λ g. then_ends (from_element s n) (element_ends n h) (from_ends n)))

  more_ends : (n : ℕ) (c : Read Bytes) → Behind n c → Ends (λ (d : Read Bytes). Behind n d × (c.next < d.next)) (length s) (member_more s c)
  more_ends n c h = then_ends (joined c) (member_ends false c.next h.1) (λ d k. well ((omega arith, k.1), k.0))

  members_ends : (n : ℕ) → n ≤ length s → Ends (λ (c : Read Bytes). Behind n c × (in_bracket s c ≡ false)) (length s) (members_at s n)
  members_ends n h =
      then_ends (many (in_bracket s) (member_more s) (length s)) (member_ends true n h)
      (λ c k. many_ends (λ (d : Read Bytes). d.next) (Behind n) (length s) (in_bracket s) (member_more s) (λ d g. g.1) (λ d g t. more_ends n d g) (length s) c k (omega arith))

  bracket_closed : (m n : ℕ) (complement : Bool) → m ≤ n → n ≤ length s → Ends (Behind m) (length s) (then (members_at s n) (closed_bracket complement))
  bracket_closed m n complement le h =
      then_ends (closed_bracket complement) (members_ends n h)
      (λ c k. let lt : c.next < length s = standing s c.next 93 (not-false (stands s c.next 93) k.1) in well (omega arith, omega arith))

  pub bracket_ends : (n : ℕ) → n ≤ length s → Ends (Behind n) (length s) (bracket_at s n)
  bracket_ends n h =
      cond_ends (stands s n 94)
      (λ t. bracket_closed n (n + 1) true (omega arith) (omega (arith, standing s n 94 t)))
      (λ f. bracket_closed n n false (omega arith) h)
