-- What the marks of a rule tell of the bytes that lead to them.
use Rattle.std.proofs.Common.{◌≡◌, ℕ, ◌+◌, ◌≤◌, Bool, true, ◌==◌, ◌↔◌, List, [], ◌∷◌, Some, IsSome, sym, refl, ◌∙◌, arith}
use Rattle.std.proofs.lemmas.Bool.{and_parts, and_from, eqb-true, eq-eqb}
use Rattle.patterns.specs.Expression.{Expression, Has}
use Rattle.patterns.specs.Positions.{first}
use Rattle.patterns.specs.Paths.{Path}
use Rattle.patterns.proofs.Paths.{widen}
use Rattle.patterns.proofs.Ranges.{In, first_in}
use Rattle.grammar.specs.File.{RuleText, rule_size, all_positions}
use Rattle.automaton.specs.Pattern.{slash, pattern_takes, pattern_after}
use Rattle.automaton.specs.Sets.{Set}
use Rattle.automaton.specs.Automaton.{after, live, start_set, trail_set, end_mark, slash_mark, meets}
use Rattle.automaton.proofs.Members.{meets_found, meets_from}
use Rattle.automaton.specs.Reached.{reached, RowsTell, Headed, Slashed}
use Rattle.automaton.proofs.Steps.{to_path, from_path}
use Rattle.automaton.proofs.Patterns.{confine, slash_is, slash_some, slash_in, pattern_takes_in, pattern_after_in}
use Rattle.automaton.proofs.Spelled.{Spelled, end_spelled, slash_spelled, trail_empty, trail_spelled}
use Rattle.automaton.proofs.Parts.{Lies, lies, takes_lie}

module _ (rules : List RuleText) (small : all_positions rules ≤ 512) (i : ℕ) (q : RuleText) (e : ℕ) (l : Lies rules 0 i q e) where
  -- rule i's part, and its pattern there
  abbrev Part : ℕ → Type 0
  Part = In e (rule_size q)

  abbrev Taken : ℕ → ℕ → Bool
  Taken = pattern_takes q.expression q.trailing e

  abbrev After : ℕ → ℕ → Bool
  After = pattern_after q.expression q.trailing e

  -- a set that has one member of the part, and no other member
  abbrev Alone : Set → ℕ → Type 0
  Alone mark m = Part m × ((p : ℕ) → mark p ≡ (p == m))

  end_alone : Alone (end_mark rules 0 i) e
  end_alone = ((omega arith, omega arith), l.end_same)

  slash_alone : IsSome q.trailing → Alone (slash_mark rules 0 i) (slash q.expression e)
  slash_alone some = (slash_in q.expression q.trailing e some, λ p. l.slash_same p ∙ slash_is q.trailing (slash q.expression e) some p)

  module _ (mark : Set) (m : ℕ) (one : Alone mark m) where
    -- it is met where it is a member
    met_member : (s : Set) → meets s mark ≡ true → s m ≡ true
    met_member s h = let k = meets_found s mark h in let z : k.0 ≡ m = eqb-true k.0 m (sym (one.1 k.0) ∙ k.2) in rw z at k.1

    member_met : (s : Set) → s m ≡ true → meets s mark ≡ true
    member_met s h = meets_from s mark m (omega (arith, one.0, l.within)) h (one.1 m ∙ eq-eqb m m refl)

    -- what leads to it is spelled by a path of the pattern
    marked_path :
        (s : Set) (b : ℕ) (bytes : List ℕ)
        → meets (reached rules s (b ∷ bytes)) mark ≡ true → (p : ℕ) × Part p × (s p ≡ true) × Path Taken After (λ p. After p m) p (b ∷ bytes)
    marked_path s b bytes h =
        let r = to_path rules m b bytes s (met_member (reached rules s (b ∷ bytes)) h) in
        let j = confine Part (λ p. goes p m one.0) goes (λ p b k t. sym (l.takes_same p b k) ∙ t) r.2 in (r.0, j.0, r.1, j.1)
      where
        goes : (p t : ℕ) → Part t → after rules 0 p t ≡ true → Part p × (After p t ≡ true)
        goes p t k h = let j : After p t ≡ true = sym (l.after_same p t k) ∙ h in ((pattern_after_in q.expression q.trailing e p t j).0, j)

    path_marked :
        (s : Set) (bytes : List ℕ) (p : ℕ)
        → s p ≡ true → Path Taken After (λ p. After p m) p bytes → meets (reached rules s bytes) mark ≡ true
    path_marked s bytes p h w =
        member_met (reached rules s bytes)
        (from_path rules m (λ p b t. let k = takes_lie rules 0 p b t in omega arith) s h
        (widen (λ p b t. l.takes_same p b (pattern_takes_in q.expression q.trailing e p b t) ∙ t) goes (λ p. goes p m) w))
      where
        goes : (p t : ℕ) → After p t ≡ true → after rules 0 p t ≡ true
        goes p t k = l.after_same p t (pattern_after_in q.expression q.trailing e p t k).1 ∙ k

  -- from a start, where the rule is live
  module _ (mark : Set) (m : ℕ) (one : Alone mark m) (c : ℕ) (line : Bool) where
    start_path :
        (b : ℕ) (s : List ℕ)
        → meets (reached rules (start_set rules 0 c line) (b ∷ s)) mark ≡ true → (live q c line ≡ true) × Spelled (first q.expression (e + 1)) Taken After m (b ∷ s)
    start_path b s h =
        let k = marked_path mark m one (start_set rules 0 c line) b s h in
        let j = and_parts (live q c line) (first q.expression (e + 1) k.0) (sym (l.start_same c line k.0 k.1) ∙ k.2) in (j.0, (k.0, j.1, k.3))

    path_start : (s : List ℕ) → live q c line ≡ true → Spelled (first q.expression (e + 1)) Taken After m s → meets (reached rules (start_set rules 0 c line) s) mark ≡ true
    path_start s on k =
        let j = first_in q.expression (e + 1) k.0 k.1 in
        path_marked mark m one (start_set rules 0 c line) s k.0
        (l.start_same c line k.0 (omega arith, omega arith) ∙ and_from (live q c line) (first q.expression (e + 1) k.0) on k.1) k.2

  ends :
      (c : ℕ) (line : Bool) (b : ℕ) (s : List ℕ)
      → (meets (reached rules (start_set rules 0 c line) (b ∷ s)) (end_mark rules 0 i) ≡ true) ↔ ((live q c line ≡ true) × Headed q (b ∷ s))
  ends c line b s =
      let both = end_spelled q.expression q.trailing e (b ∷ s) in (
        λ h. let k = start_path (end_mark rules 0 i) e end_alone c line b s h in (k.0, both.0 k.1),
        λ h. path_start (end_mark rules 0 i) e end_alone c line (b ∷ s) h.0 (both.1 h.1),
      )

  -- a slash mark that is met is there
  slash_there : (t : Set) → meets t (slash_mark rules 0 i) ≡ true → IsSome q.trailing
  slash_there t h =
      let k = meets_found t (slash_mark rules 0 i) h in
      slash_some q.trailing (slash q.expression e) k.0 (sym (l.slash_same k.0) ∙ k.2)

  slashes :
      (c : ℕ) (line : Bool) (b : ℕ) (s : List ℕ)
      → (meets (reached rules (start_set rules 0 c line) (b ∷ s)) (slash_mark rules 0 i) ≡ true) ↔ ((live q c line ≡ true) × Slashed q (b ∷ s))
  slashes c line b s = (
    λ h.
        let some = slash_there (reached rules (start_set rules 0 c line) (b ∷ s)) h in
        let k = start_path (slash_mark rules 0 i) (slash q.expression e) (slash_alone some) c line b s h in
        (k.0, (some, (slash_spelled q.expression q.trailing e some b s).0 k.1)),
    λ h. path_start (slash_mark rules 0 i) (slash q.expression e) (slash_alone h.1.0) c line (b ∷ s) h.0 ((slash_spelled q.expression q.trailing e h.1.0 b s).1 h.1.1),
  )

  trails : (x : Expression) → q.trailing ≡ Some x → (s : List ℕ) → (meets (reached rules (trail_set rules 0 i) s) (end_mark rules 0 i) ≡ true) ↔ Has x s
  trails x is [] =
      let both = trail_empty q.expression q.trailing x e is in (
        λ h. both.0 (sym (l.trail_same e) ∙ met_member (end_mark rules 0 i) e end_alone (trail_set rules 0 i) h),
        λ h. member_met (end_mark rules 0 i) e end_alone (trail_set rules 0 i) (l.trail_same e ∙ both.1 h),
      )
  trails x is (b ∷ s) =
      let both = trail_spelled q.expression q.trailing x e is b s in (
        λ h. let k = marked_path (end_mark rules 0 i) e end_alone (trail_set rules 0 i) b s h in both.0 (k.0, sym (l.trail_same k.0) ∙ k.2, k.3),
        λ h. let k = both.1 h in path_marked (end_mark rules 0 i) e end_alone (trail_set rules 0 i) (b ∷ s) k.0 (l.trail_same k.0 ∙ k.1) k.2,
      )

pub rows_tell : RowsTell
rows_tell rules small i q is =
    let k = lies rules 0 i q is in
    record { ends = ends rules small i q k.0 k.1; slashes = slashes rules small i q k.0 k.1; trails = trails rules small i q k.0 k.1 }
