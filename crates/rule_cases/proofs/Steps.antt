-- How the loops follow the definitions.
use Rattle.std.proofs.Common.{◌≡◌, ℕ, ◌+◌, ◌-◌, ◌*◌, ◌≤◌, true, leb, List, [], ◌∷◌, ◌++◌, get_or, Some, sym, ap, ◌∙◌, subst, append_assoc, append-nil, add-one, arith}
use Rattle.std.proofs.lemmas.Bool.{and_from, le-leb}
use Rattle.grammar.specs.declared.Read.{Read}
use Rattle.grammar.specs.Bytes.{within}
use Rattle.rule_cases.specs.Escapes.{unit_at}
use Rattle.rule_cases.specs.Runs.{Counts, copies, Added, Means}
use Rattle.rule_cases.specs.Runs as runs

module _ (s : List ℕ) where
  pub added_none : (from : ℕ) (old : List ℕ) → Added s from from old old
  added_none from old = record { bytes = []; spells = runs.nothing; adds = sym (append-nil old) }

  pub added_more : (from at : ℕ) (old now more : List ℕ) (u : Read ℕ) → Added s from at old now → Some u ≡ unit_at s at → more ≡ now ++ (u.value ∷ []) → Added s from u.next old more
  added_more from at old now more u a e h = record {
    bytes = a.bytes ++ (u.value ∷ []);
    spells = runs.one u.next u.value a.spells (sym e);
    adds = h ∙ ap (λ (l : List ℕ). l ++ (u.value ∷ [])) a.adds ∙ append_assoc old a.bytes (u.value ∷ []);
  }

pub copies_none : (old bytes : List ℕ) → old ≡ old ++ copies 0 bytes
unfolding copies
copies_none old bytes = sym (append-nil old)

pub copies_more : (old now more part bytes : List ℕ) (k : ℕ) → now ≡ old ++ copies k bytes → more ≡ now ++ part → part ≡ bytes → more ≡ old ++ copies (k + 1) bytes
unfolding copies
copies_more old now more part bytes k h e p =
    rw (add-one, e, p, h) (append_assoc old (copies k bytes) bytes)

pub means_first : (s : List ℕ) (m : ℕ) (old new : List ℕ) → old ≡ [] → Added s 0 m old new → Means s m new
means_first s m old new e a = runs.units 0 m [] new runs.empty (subst (λ (l : List ℕ). Added s 0 m l new) e a)

-- a digit more behind n of them
pub digit_more : (s : List ℕ) (from n k b : ℕ) → Counts s from (from + n) k → b ≡ get_or s (from + n) 0 → 48 ≤ b → b ≤ 57 → Counts s from (from + (n + 1)) (k * 10 + (b - 48))
digit_more s from n k b c e low high =
    let test : within 48 57 b ≡ true = and_from (leb 48 b) (leb b 57) (le-leb 48 b low) (le-leb b 57 high) in
    let place : from + n + 1 ≡ from + (n + 1) = omega arith in
    subst (λ m. Counts s from m (k * 10 + (b - 48))) place
    (subst (λ x. Counts s from (from + n + 1) (k * 10 + (x - 48))) (sym e) (runs.more c (ap (within 48 57) (sym e) ∙ test)))
