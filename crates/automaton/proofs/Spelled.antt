-- What the paths of one pattern spell, up to its marks.
use Rattle.std.proofs.Common.{◌≡◌, ℕ, ◌+◌, ◌≤◌, Bool, true, eqb, ◌↔◌, List, [], ◌∷◌, ◌++◌, length, take, drop, Some, None, Option, IsSome, refl, ap, ◌∙◌, subst, inl, inr, arith, length-append, length-take-le, take-append-drop}
use Rattle.std.proofs.Math.Seq.{take-append_seam, drop-append_seam}
use Rattle.std.proofs.lemmas.Bool.{or_cases, or_left, or_right, and_parts, and_from, eqb-true, eq-eqb, false≢true}
use Rattle.patterns.specs.Expression.{Expression, Has}
use Rattle.patterns.specs.Positions.{nullable, first}
use Rattle.patterns.specs.Paths.{Path, Within, Spells}
use Rattle.patterns.proofs.Paths.{begins}
use Rattle.patterns.proofs.Sound.{has_read}
use Rattle.patterns.proofs.Complete.{read_has}
use Rattle.patterns.proofs.Ranges.{first_in}
use Rattle.automaton.specs.Pattern.{slash, pattern_takes, pattern_after, trail_start}
use Rattle.places.specs.Listing.{Splits}
use Rattle.automaton.proofs.Patterns.{d, After, Taken, alone_path, path_alone, slash_path, path_slash, no_byte, trail_path, path_trail, split, joined}

-- a path from a start to the mark m
abbrev pub Spelled : (ℕ → Bool) → (ℕ → ℕ → Bool) → (ℕ → ℕ → Bool) → ℕ → List ℕ → Type 0
Spelled S T F m s = (p : ℕ) × (S p ≡ true) × Path T F (λ p. F p m) p s

-- a path spells a byte at least
long : {T F : ℕ → ℕ → Bool} {E : ℕ → Bool} {p : ℕ} (s : List ℕ) → Path T F E p s → 1 ≤ length s
long [] w = elim w [ ]
long (b ∷ s) w = omega arith

-- a string that is not empty is spelled from a first position on, and the other way
read_path : (r : Expression) (a : ℕ) (s : List ℕ) → 1 ≤ length s → Has r s → (p : ℕ) × (first r a p ≡ true) × Within r a p s
read_path r a s some h = by (read_has r a s h)
  where
    by : Spells r a s → (p : ℕ) × (first r a p ≡ true) × Within r a p s
    by (inl (z, n)) = absurd (omega (arith, ap length z))
    by (inr k) = k

path_read : (r : Expression) (a : ℕ) (s : List ℕ) → ((p : ℕ) × (first r a p ≡ true) × Within r a p s) → Has r s
path_read r a s k = has_read r a s (inr k)

module _ (r : Expression) (a : ℕ) where
  alone_spelled : (s : List ℕ) → Spelled (first r (a + 1)) (pattern_takes r None a) (pattern_after r None a) a s ↔ ((h : ℕ) × (1 ≤ h) × Splits r None s h)
  alone_spelled s = (to, from)
    where
      to : Spelled (first r (a + 1)) (pattern_takes r None a) (pattern_after r None a) a s → (h : ℕ) × (1 ≤ h) × Splits r None s h
      to (p, f, w) = (length s, long s w, (refl, path_read r (a + 1) s (p, f, alone_path r a w)))

      from : ((h : ℕ) × (1 ≤ h) × Splits r None s h) → Spelled (first r (a + 1)) (pattern_takes r None a) (pattern_after r None a) a s
      from (h, some, (e, k)) = let g = read_path r (a + 1) s (omega arith) k in (g.0, g.1, path_alone r a g.2)

module _ (r x : Expression) (a : ℕ) where
  trailed_spelled : (s : List ℕ) → Spelled (first r (a + 1)) (Taken r x a) (After r x a) a s ↔ ((h : ℕ) × (1 ≤ h) × Splits r (Some x) s h)
  trailed_spelled s = (to, from)
    where
      to : Spelled (first r (a + 1)) (Taken r x a) (After r x a) a s → (h : ℕ) × (1 ≤ h) × Splits r (Some x) s h
      to (p, f, w) =
          let g = split r x a (first_in r (a + 1) p f) w in
          let u : List ℕ = g.0 in
          let v : List ℕ = g.1 in
          let fits : length u ≤ length s = omega (arith, ap length g.2, length-append u v) in
          let head : take (length u) s ≡ u = ap (take (length u)) g.2 ∙ take-append_seam u v in
          let tail : drop (length u) s ≡ v = ap (drop (length u)) g.2 ∙ drop-append_seam u v in
          let k : Has r u = path_read r (a + 1) u (p, f, g.3) in
          let j : Has x v = has_read x (d r x a + 1) v g.4 in
          (length u, long u g.3, (fits, rw head k, rw tail j))

      from : ((h : ℕ) × (1 ≤ h) × Splits r (Some x) s h) → Spelled (first r (a + 1)) (Taken r x a) (After r x a) a s
      from (h, some, (fits, k, j)) =
          let many : length (take h s) ≡ h = length-take-le h s fits in
          let g = read_path r (a + 1) (take h s) (omega (arith, many)) k in
          let w : Path (Taken r x a) (After r x a) (λ p. After r x a p a) g.0 (take h s ++ drop h s) = joined r x a g.2 (read_has x (d r x a + 1) (drop h s) j) in
          (g.0, g.1, subst (Path (Taken r x a) (After r x a) (λ p. After r x a p a) g.0) (take-append-drop h s) w)

  slashed_spelled : (b : ℕ) (s : List ℕ) → Spelled (first r (a + 1)) (Taken r x a) (After r x a) (d r x a) (b ∷ s) ↔ Has r (b ∷ s)
  slashed_spelled b s = (
    λ k. path_read r (a + 1) (b ∷ s) (k.0, k.1, slash_path r x a k.2),
    λ h. let g = read_path r (a + 1) (b ∷ s) (omega arith) h in (g.0, g.1, path_slash r x a g.2),
  )

  trailed_empty : (trail_start (Some x) a (d r x a + 1) a ≡ true) ↔ Has x []
  trailed_empty = (to, λ h. from (read_has x (d r x a + 1) [] h))
    where
      to : trail_start (Some x) a (d r x a + 1) a ≡ true → Has x []
      to h = elim (or_cases (first x (d r x a + 1) a) _ h) [
        | inl k ↦ let i = first_in x (d r x a + 1) a k in absurd (omega arith)
        | inr k ↦ has_read x (d r x a + 1) [] (inl (refl, (and_parts (nullable x) (eqb a a) k).0))
      ]

      from : Spells x (d r x a + 1) [] → trail_start (Some x) a (d r x a + 1) a ≡ true
      from (inl (z, n)) = or_right (first x (d r x a + 1) a) _ (and_from (nullable x) _ n (eq-eqb a a refl))
      from (inr (p, f, w)) = let y = long [] w in absurd (omega arith)

  trail_bytes : (b : ℕ) (s : List ℕ) → Spelled (trail_start (Some x) a (d r x a + 1)) (Taken r x a) (After r x a) a (b ∷ s) ↔ Has x (b ∷ s)
  trail_bytes b s = (to, from)
    where
      to : Spelled (trail_start (Some x) a (d r x a + 1)) (Taken r x a) (After r x a) a (b ∷ s) → Has x (b ∷ s)
      to (p, f, w) = elim (or_cases (first x (d r x a + 1) p) _ f) [
        | inl k ↦ path_read x (d r x a + 1) (b ∷ s) (p, k, trail_path r x a (first_in x (d r x a + 1) p k) w)
        | inr k ↦ let j = begins w in absurd (no_byte r x a p j.0 (eqb-true p a (and_parts (nullable x) (eqb p a) k).1) j.1)
      ]

      from : Has x (b ∷ s) → Spelled (trail_start (Some x) a (d r x a + 1)) (Taken r x a) (After r x a) a (b ∷ s)
      from h = let g = read_path x (d r x a + 1) (b ∷ s) (omega arith) h in (g.0, or_left _ _ g.1, path_trail r x a g.2)

-- from a first position to the end mark: a string with a head of at least one byte
pub end_spelled :
    (r : Expression) (x : Option Expression) (a : ℕ) (s : List ℕ)
    → Spelled (first r (a + 1)) (pattern_takes r x a) (pattern_after r x a) a s ↔ ((h : ℕ) × (1 ≤ h) × Splits r x s h)
end_spelled r None a s = alone_spelled r a s
end_spelled r (Some x) a s = trailed_spelled r x a s

-- to the slash mark: a string of r
pub slash_spelled :
    (r : Expression) (x : Option Expression) (a : ℕ) → IsSome x → (b : ℕ) (s : List ℕ)
    → Spelled (first r (a + 1)) (pattern_takes r x a) (pattern_after r x a) (slash r a) (b ∷ s) ↔ Has r (b ∷ s)
slash_spelled r None a some b s = absurd (false≢true some)
slash_spelled r (Some x) a some b s = slashed_spelled r x a b s

-- from the trail start to the end mark: a string of x
module _ (r : Expression) (x : Option Expression) (y : Expression) (a : ℕ) (is : x ≡ Some y) where
  pub trail_empty : (trail_start x a (slash r a + 1) a ≡ true) ↔ Has y []
  trail_empty = rw is (trailed_empty r y a)

  pub trail_spelled : (b : ℕ) (s : List ℕ) → Spelled (trail_start x a (slash r a + 1)) (pattern_takes r x a) (pattern_after r x a) a (b ∷ s) ↔ Has y (b ∷ s)
  trail_spelled b s = rw is (trail_bytes r y a b s)
