-- How the code's sets follow the grammar's.
use Rattle.std.proofs.Common.{◌≡◌, ℕ, suc, ◌+◌, ◌-◌, ◌/◌, ◌<◌, ◌≤◌, Bool, true, false, cond, not, ◌&&◌, ◌||◌, eqb, ltb, List, length, Ok, Err, Result, sym, ap, ◌∙◌, arith, le-ltb}
use mathlib.Core.Path.{fun_ext}
use Rattle.std.proofs.lemmas.Bool.Decides.{nat_tests}
use Rattle.bits.specs.Set.{has}
use Rattle.classes.specs.declared.Class.{Class}
use Rattle.classes.specs.declared.Class.TheVariants.{Alnum, Alpha, Blank, Cntrl, Digit, Graph, Lower, Print, Punct, Space, Upper, Xdigit}
use Rattle.classes.specs.Posix.{members}
use Rattle.grammar.specs.declared.Read.{Read}
use Rattle.grammar.specs.declared.Fault.{Fault}
use Rattle.grammar.specs.declared.Refusal.TheVariants.{Misfit, OutOfBounds}
use Rattle.grammar.specs.Outcome.{Out, refused, read, then, many, seen, Moves}
use Rattle.grammar.specs.Bytes.{within, stands}
use Rattle.grammar.specs.Brackets.{element_at, reserved, range_ahead, range_end, ranged, from_element, class_at, dash, member_at, in_bracket, joined, member_more, members_at, sided, closed_bracket, bracket_at}
use Rattle.tokens.proofs.Follow.{Left, starts, turns_on, stops, fails}
use Rattle.bits.specs.declared.Bits.{Bits}
use Rattle.patterns.specs.Expression.{Bytes}
use Rattle.brackets.specs.Sets.{set, chosen}
use Rattle.brackets.proofs.Ahead.{member_moves}

-- a set with the members of f is f
pub same_set : (ws : List ℕ) (f : ℕ → Bool) (n : ℕ) → ((b : ℕ) → has ws b ≡ f b) → read (has ws) n ≡ read f n
same_set ws f n h = ap (λ (g : ℕ → Bool). read g n) (fun_ext h)

-- a class has only bytes
pub class_beyond : (k : Class) (j : ℕ) → 256 ≤ j → members k j ≡ false
class_beyond Alnum j h = grind (arith, nat_tests)
class_beyond Alpha j h = grind (arith, nat_tests)
class_beyond Blank j h = grind (arith, nat_tests)
class_beyond Cntrl j h = grind (arith, nat_tests)
class_beyond Digit j h = grind (arith, nat_tests)
class_beyond Graph j h = grind (arith, nat_tests)
class_beyond Lower j h = grind (arith, nat_tests)
class_beyond Print j h = grind (arith, nat_tests)
class_beyond Punct j h = grind (arith, nat_tests)
class_beyond Space j h = grind (arith, nat_tests)
class_beyond Upper j h = grind (arith, nat_tests)
class_beyond Xdigit j h = grind (arith, nat_tests)

-- an element alone, or as the begin of a range
module _ (s : List ℕ) (n : ℕ) (e : Read ℕ) (ws : List ℕ) where
  pub element_alone : false ≡ range_ahead s e.next → e.value < 256 → ((b : ℕ) → has ws b ≡ (eqb b e.value && ltb (e.value / 64) 4)) → read (has ws) e.next ≡ from_element s n e
  element_alone h lt g =
      let q : e.value / 64 < 4 = omega arith in
      same_set ws (λ b. eqb b e.value) e.next (λ b. let x = g b in grind (arith, nat_tests))
      ∙ ap (λ (b : Bool). cond b (then (range_end s (e.next + 1)) (ranged n e.value)) (read (λ b. eqb b e.value) e.next)) h

  pub element_ranges : (high : Read ℕ) → true ≡ range_ahead s e.next → Ok high ≡ range_end s (e.next + 1) → e.value ≤ high.value → ((b : ℕ) → has ws b ≡ within e.value high.value b) → read (has ws) high.next ≡ from_element s n e
  element_ranges high h r le g =
      same_set ws (within e.value high.value) high.next g
      ∙ ap (λ (b : Bool). cond b (refused OutOfBounds n) (read (within e.value high.value) high.next)) (sym (le-ltb high.value e.value le))
      ∙ ap (λ (o : Out (Read ℕ)). then o (ranged n e.value)) r
      ∙ ap (λ (b : Bool). cond b (then (range_end s (e.next + 1)) (ranged n e.value)) (read (λ b. eqb b e.value) e.next)) h

pub member_element : (s : List ℕ) (first : Bool) (n : ℕ) (e : Read ℕ) → false ≡ stands s n 45 → false ≡ reserved s n → Ok e ≡ element_at s n → from_element s n e ≡ member_at s first n
member_element s first n e a b r =
    ap (λ (o : Out (Read ℕ)). then o (from_element s n)) r
    ∙ ap (λ (t : Bool). cond t (cond (stands s (n + 1) 58) (class_at s (n + 2)) (refused Misfit n)) (then (element_at s n) (from_element s n))) b
    ∙ ap (λ (t : Bool). cond t (dash s first n) (cond (reserved s n) (cond (stands s (n + 1) 58) (class_at s (n + 2)) (refused Misfit n)) (then (element_at s n) (from_element s n)))) a

pub moved : (r : Result (Read (Bits 4)) Fault) (s : List ℕ) (first : Bool) (n : ℕ) → chosen r ≡ member_at s first n → Moves r n (length s)
moved (Ok c) s first n e = member_moves s first n (seen set c) (sym e)
moved (Err f) s first n e = tt

-- the members so far, in a bracket that begins at n: each turn takes at least one byte
abbrev pub room : List ℕ → Read Bytes → ℕ
room s c = suc (length s - c.next)

abbrev pub Bracketed : List ℕ → ℕ → Read Bytes → Type 0
Bracketed s n = Left (in_bracket s) (member_more s) (room s) (members_at s n)

module _ (s : List ℕ) (n : ℕ) where
  pub members_start : (c : Read Bytes) → Ok c ≡ member_at s true n → n < c.next → c.next ≤ length s → Bracketed s n c
  members_start c e lt le =
      starts (in_bracket s) (member_more s) (room s) (members_at s n) c (length s) (omega arith)
      (ap (λ (o : Out (Read Bytes)). then o (many (in_bracket s) (member_more s) (length s))) (sym e))

  pub members_stop : (c : Read Bytes) → Bracketed s n c → true ≡ stands s c.next 93 → Ok c ≡ members_at s n
  members_stop c l e = sym (stops (in_bracket s) (member_more s) (room s) (members_at s n) c l (ap not e))

  pub members_fail : (c : Read Bytes) (f : Fault) → Bracketed s n c → false ≡ stands s c.next 93 → Err f ≡ member_at s false c.next → Err f ≡ members_at s n
  members_fail c f l e r =
      sym (fails (in_bracket s) (member_more s) (room s) (members_at s n) c f l (ap not e) (ap (λ (o : Out (Read Bytes)). then o (joined c)) (sym r)) (omega arith))

  pub members_turn : (c d : Read Bytes) (vs : List ℕ) → Bracketed s n c → false ≡ stands s c.next 93 → Ok d ≡ member_at s false c.next → c.next < d.next → d.next ≤ length s → ((j : ℕ) → has vs j ≡ (c.value j || d.value j)) → Bracketed s n (record { value = has vs; next = d.next })
  members_turn c d vs l e r lt le h =
      turns_on (in_bracket s) (member_more s) (room s) (members_at s n) c (record { value = has vs; next = d.next }) l (ap not e)
      (ap (λ (o : Out (Read Bytes)). then o (joined c)) (sym r) ∙ sym (same_set vs (λ b. c.value b || d.value b) d.next h))
      (omega arith)

-- a closed bracket, whose complement is within the 256 bytes
module _ (s : List ℕ) (n : ℕ) (c : Read Bytes) where
  pub bracket_plain : false ≡ stands s n 94 → Ok c ≡ members_at s n → read c.value (c.next + 1) ≡ bracket_at s n
  bracket_plain h r =
      ap (λ (o : Out (Read Bytes)). then o (closed_bracket false)) r
      ∙ ap (λ (b : Bool). cond b (then (members_at s (n + 1)) (closed_bracket true)) (then (members_at s n) (closed_bracket false))) h

  pub bracket_not : (vs : List ℕ) → true ≡ stands s n 94 → Ok c ≡ members_at s (n + 1) → ((j : ℕ) → has vs j ≡ (ltb (j / 64) 4 && not (c.value j))) → read (has vs) (c.next + 1) ≡ bracket_at s n
  bracket_not vs h r g =
      same_set vs (sided true c.value) (c.next + 1) (λ j. let x = g j in grind (arith, nat_tests))
      ∙ ap (λ (o : Out (Read Bytes)). then o (closed_bracket true)) r
      ∙ ap (λ (b : Bool). cond b (then (members_at s (n + 1)) (closed_bracket true)) (then (members_at s n) (closed_bracket false))) h
