-- Steps of several parts, read one part after the other.
use Rattle.std.proofs.Common.{◌≡◌, ℕ, ◌+◌, ◌<◌, ◌≤◌, Bool, true, false, cond, List, [], ◌∷◌, length, Ok, codes, refl, sym, ap, ◌∙◌, arith}
use Rattle.grammar.specs.declared.Read.{Read}
use Rattle.grammar.specs.declared.Refusal.TheVariants.{Misfit}
use Rattle.grammar.specs.declared.Step.{Step}
use Rattle.grammar.specs.declared.Step.TheVariants.{Mark, More, Less}
use Rattle.grammar.specs.Outcome.{Out, read, refused, then}
use Rattle.grammar.specs.Bytes.{stands, literal}
use Rattle.grammar.specs.Actions.{numeral, mark_at, yield_at, more_or_less_at}
use Rattle.tokens.proofs.Items.{stands_below, literal_moves}

pub mark_from : (s : List ℕ) (n m : ℕ) (o : Out (Read Step)) → Ok m ≡ literal (codes "MARK ") s n → o ≡ numeral s 0 255 Mark (codes ";") m → o ≡ mark_at s n
mark_from s n m o e r = r ∙ ap (λ (p : Out ℕ). then p (numeral s 0 255 Mark (codes ";"))) e

less_yields : (s : List ℕ) (n m : ℕ) (o : Out (Read Step)) → false ≡ stands s n 109 → Ok m ≡ literal (codes "less(") s n → o ≡ numeral s 1 4096 Less (codes ");") m → o ≡ yield_at s n
less_yields s n m o h e r = (r ∙ ap (λ (p : Out ℕ). then p (numeral s 1 4096 Less (codes ");"))) e) ∙ ap (λ (b : Bool). cond b (then (literal (codes "more();") s n) (read More)) (then (literal (codes "less(") s n) (numeral s 1 4096 Less (codes ");")))) h

pub less_from : (s : List ℕ) (n m k : ℕ) (o : Out (Read Step)) → Ok m ≡ literal (codes "yy") s n → false ≡ stands s m 109 → Ok k ≡ literal (codes "less(") s m → o ≡ numeral s 1 4096 Less (codes ");") k → o ≡ more_or_less_at s n
less_from s n m k o e h f r = less_yields s m k o h f r ∙ ap (λ (p : Out ℕ). then p (yield_at s)) e

word_there : (s w : List ℕ) (n m : ℕ) → 0 < length w → Ok m ≡ literal w s n → n < length s
word_there s [] n m h e = absurd (omega arith)
word_there s (b ∷ bs) n m h e = at (stands s n b) refl e
  where
    at : (a : Bool) → a ≡ stands s n b → Ok m ≡ cond a (literal bs s (n + 1)) (refused Misfit n) → n < length s
    at true q e = stands_below s n b q
    at false q e = cc

-- a word that is not empty moves the place on
pub word_moves : (s w : List ℕ) (n m : ℕ) → 0 < length w → Ok m ≡ literal w s n → (n < m) × (m ≤ length s)
word_moves s w n m h e =
    let r = literal_moves w s n m (sym e) (omega (arith, word_there s w n m h e)) in
    (omega (arith, r.1), r.0)
