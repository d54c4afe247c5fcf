-- What bytes lead to from the start rows and the trail starts of a file, and what the marks there
-- tell of the bytes.
use Rattle.std.specs.Prelude.{◌≡◌, ℕ, ◌≤◌, Bool, true, ◌↔◌, List, [], ◌∷◌, Some, IsSome, slice_get}
use Rattle.patterns.specs.Expression.{Expression, Has}
use Rattle.patterns.specs.Paths.{Path}
use Rattle.grammar.specs.File.{RuleText, all_positions}
use Rattle.automaton.specs.Sets.{Set}
use Rattle.automaton.specs.Automaton.{takes, after, live, start_set, trail_set, end_mark, slash_mark, leads, meets}
use Rattle.places.specs.Listing.{Splits}

-- where the bytes lead from a set
abbrev pub reached : List RuleText → Set → List ℕ → Set
reached rules s [] = s
reached rules s (b ∷ t) = reached rules (leads rules s b) t

-- t can be come to by the bytes: they are none and it is in s, or a path from a member of s spells
-- them and t may come after its last position
abbrev pub ComesTo : List RuleText → Set → List ℕ → ℕ → Type 0
ComesTo rules s [] t = s t ≡ true
ComesTo rules s (b ∷ u) t = (p : ℕ) × (s p ≡ true)
    × Path (takes rules 0) (after rules 0) (λ p. after rules 0 p t) p (b ∷ u)

-- bytes lead from a set to the set of what can be come to by them
abbrev pub LeadAlongPaths : Type 0
LeadAlongPaths = (rules : List RuleText) → all_positions rules ≤ 512
    → (s : Set) (bytes : List ℕ) (t : ℕ) → (reached rules s bytes t ≡ true)
    ↔ ComesTo rules s bytes t

-- the bytes can be split, with a head of at least one byte
abbrev pub Headed : RuleText → List ℕ → Type 0
Headed q s = (h : ℕ) × (1 ≤ h) × Splits q.expression q.trailing s h

-- they are a string of r, and a trailing part comes behind it
abbrev pub Slashed : RuleText → List ℕ → Type 0
Slashed q s = IsSome q.trailing × Has q.expression s

-- what the marks of q, which is rule i counted from 0, tell
pub record MarksTell (rules : List RuleText) (i : ℕ) (q : RuleText) : Type 0 where
  pub ends : (c : ℕ) (line : Bool) (b : ℕ) (s : List ℕ) →
      (meets (reached rules (start_set rules 0 c line) (b ∷ s)) (end_mark rules 0 i) ≡ true)
      ↔ ((live q c line ≡ true) × Headed q (b ∷ s))
  pub slashes : (c : ℕ) (line : Bool) (b : ℕ) (s : List ℕ) →
      (meets (reached rules (start_set rules 0 c line) (b ∷ s)) (slash_mark rules 0 i) ≡ true)
      ↔ ((live q c line ≡ true) × Slashed q (b ∷ s))
  pub trails : (x : Expression) → q.trailing ≡ Some x → (s : List ℕ) →
      (meets (reached rules (trail_set rules 0 i) s) (end_mark rules 0 i) ≡ true) ↔ Has x s

abbrev pub RowsTell : Type 0
RowsTell = (rules : List RuleText) → all_positions rules ≤ 512 → (i : ℕ) (q : RuleText)
    → slice_get rules i ≡ Some q → MarksTell rules i q
