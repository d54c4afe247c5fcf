-- What the functions that lay down a rule's pattern say.
use Rattle.std.specs.Prelude.{◌≡◌, ℕ, ◌+◌, false, Some, None, Ok, Err, Option, Result}
use Rattle.bits.specs.Set.{has}
use Rattle.patterns.specs.Expression.{Expression}
use Rattle.patterns.specs.Positions.{size}
use Rattle.positions.specs.Memory.{Work, member}
use Rattle.positions.specs.Laid.{Laid, Kept}
use Rattle.expressions.specs.declared.Parsed.{Parsed}
use Rattle.grammar.specs.declared.Fault.{Fault}
use Rattle.grammar.specs.declared.Read.{Read}
use Rattle.grammar.specs.Outcome.{Out}
use Rattle.grammar.specs.Expressions as expressions
use Rattle.grammar.specs.File as file
use Rattle.loader.specs.declared.rules.RuleSets.{RuleSets}
use Rattle.automaton.specs.Pattern.{pattern_size}
use Rattle.loader.specs.Laid.{PatternLaid, RulesKept}

-- r is as P says of its value, or the refusal that o is
abbrev pub gives : {X Y : Type 0} → Out X → (Y → Type 0) → Result Y Fault → Type 0
gives o P (Ok y) = P y
gives o P (Err e) = o ≡ Err e

-- a mark at a, and behind it the expression e, which p says how it begins and ends: nothing joins
-- them yet
pub record Unjoined (w : Work) (a : ℕ) (e : Expression) (p : Parsed) : Type 0 where
  pub mark_bytes : (b : ℕ) → member w a b ≡ false
  pub mark_order : (q : ℕ) → member w (512 + a) q ≡ false
  pub laid : Laid w e (a + 1) p.part
  pub counts : p.used ≡ a + 1 + size e

-- the expression that is read at `at`, behind a mark at a
pub record MarkedRead (o : Out expressions.Parsed) (a : ℕ) (w w' : Work) (p : Parsed) : Type 0 where
  pub tree : Expression
  pub is : o ≡ Ok (record { tree = tree; at = p.at; used = p.used })
  pub unjoined : Unjoined w' a tree p
  pub kept : Kept a w w'

abbrev pub MarkedGives : Out expressions.Parsed → ℕ → Work → Work → Result Parsed Fault → Type 0
MarkedGives o a w w' = gives o (MarkedRead o a w w')

-- the sets of rule i are written, and nothing of the positions nor of the rules before it
pub record Keeps (i : ℕ) (w w' : Work) (s : RuleSets) : Type 0 where
  pub starts : (q : ℕ) → member w' (1024 + i) q ≡ has s.firsts.words q
  pub trails : (q : ℕ) → member w' (1088 + i) q ≡ has s.trail.words q
  pub ends : (q : ℕ) → member w' (1152 + i) q ≡ has s.ends.words q
  pub slashes : (q : ℕ) → member w' (1216 + i) q ≡ has s.slashes.words q
  pub kept : RulesKept 512 i w w'

-- r and x, laid down and joined: the pattern of rule i
pub record Joined (a i : ℕ) (w w' : Work) (r : Expression) (x : Option Expression) : Type 0 where
  pub laid : PatternLaid w' r x a i
  pub kept : RulesKept a i w w'

-- x is the trailing part behind r, which is e: a mark and an expression, laid down where r ends
pub record TrailingRead (o : Out file.Pattern) (e : Expression) (r : Parsed) (w w' : Work)
    (x : Parsed) : Type 0 where
  pub tree : Expression
  pub is : o ≡ file.pattern e (Some tree) x.at x.used
  pub unjoined : Unjoined w' r.used tree x
  pub kept : Kept r.used w w'

abbrev pub TrailingGives : Out file.Pattern → Expression → Parsed → Work → Work
    → Result (Option Parsed) Fault → Type 0
TrailingGives o e r w w' (Ok None) = (o ≡ file.pattern e None r.at r.used) × (w' ≡ w)
TrailingGives o e r w w' (Ok (Some x)) = TrailingRead o e r w w' x
TrailingGives o e r w w' (Err f) = o ≡ Err f

-- the pattern is read up to p.next, and laid down from position a on as that of rule i; p.value
-- positions are used then
pub record PatternRead (o : Out file.Pattern) (a i : ℕ) (w w' : Work) (p : Read ℕ) : Type 0 where
  pub pattern : file.Pattern
  pub is : o ≡ Ok pattern
  pub at : p.next ≡ pattern.at
  pub used : p.value ≡ pattern.used
  pub counts : p.value ≡ a + pattern_size pattern.expression pattern.trailing
  pub joined : Joined a i w w' pattern.expression pattern.trailing

abbrev pub PatternGives : Out file.Pattern → ℕ → ℕ → Work → Work → Result (Read ℕ) Fault → Type 0
PatternGives o a i w w' = gives o (PatternRead o a i w w')
