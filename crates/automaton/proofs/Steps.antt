-- Where bytes lead from a set: to what comes after the last position of a path from one of its members.
use Rattle.std.proofs.Common.{◌≡◌, ℕ, ◌<◌, true, ◌&&◌, List, [], ◌∷◌}
use Rattle.std.proofs.lemmas.Bool.{and_parts, and_from}
use Rattle.patterns.specs.Paths.{Path, stop, go}
use Rattle.grammar.specs.File.{RuleText}
use Rattle.automaton.specs.Sets.{Set}
use Rattle.automaton.specs.Automaton.{takes, after, leads}
use Rattle.automaton.proofs.Members.{some_found, some_from}
use Rattle.automaton.specs.Reached.{reached}

module _ (rules : List RuleText) where
  -- a member of where a byte leads comes after a member that takes it
  leads_true : (s : Set) (b t : ℕ) → leads rules s b t ≡ true → (p : ℕ) × (s p ≡ true) × (takes rules 0 p b ≡ true) × (after rules 0 p t ≡ true)
  unfolding leads
  leads_true s b t h =
      let r = some_found 512 (λ p. s p && (takes rules 0 p b && after rules 0 p t)) h in
      let k = and_parts (s r.0) (takes rules 0 r.0 b && after rules 0 r.0 t) r.1 in
      let j = and_parts (takes rules 0 r.0 b) (after rules 0 r.0 t) k.1 in (r.0, k.0, j.0, j.1)

  leads_from : (s : Set) (b t p : ℕ) → p < 512 → s p ≡ true → takes rules 0 p b ≡ true → after rules 0 p t ≡ true → leads rules s b t ≡ true
  unfolding leads
  leads_from s b t p lt h k j =
      some_from 512 p (λ r. s r && (takes rules 0 r b && after rules 0 r t)) lt
      (and_from (s p) (takes rules 0 p b && after rules 0 p t) h (and_from (takes rules 0 p b) (after rules 0 p t) k j))

  module _ (m : ℕ) where
    -- a member that is reached comes after a path that spells the bytes
    pub to_path :
        (b : ℕ) (bytes : List ℕ) (s : Set) → reached rules s (b ∷ bytes) m ≡ true
        → (p : ℕ) × (s p ≡ true) × Path (takes rules 0) (after rules 0) (λ p. after rules 0 p m) p (b ∷ bytes)
    to_path b [] s h = let k = leads_true s b m h in (k.0, k.1, stop k.2 k.3)
    to_path b (c ∷ bytes) s h =
        let r = to_path c bytes (leads rules s b) h in
        let k = leads_true s b r.0 r.1 in (k.0, k.1, go r.0 k.2 k.3 r.2)

    -- and the other way, where what takes a byte is below 512
    pub from_path :
        ((p b : ℕ) → takes rules 0 p b ≡ true → p < 512) → (s : Set) {p : ℕ} {bytes : List ℕ}
        → s p ≡ true → Path (takes rules 0) (after rules 0) (λ p. after rules 0 p m) p bytes → reached rules s bytes m ≡ true
    from_path below s {p} h (stop {b = b} k j) = leads_from s b m p (below p b k) h k j
    from_path below s {p} h (go {b = b} q k j w) = from_path below (leads rules s b) (leads_from s b q p (below p b k) h k j) w
