-- Escaped text: what is meant from place to place.
use Rattle.std.specs.Prelude.{◌≡◌, ℕ, zero, suc, ◌+◌, ◌-◌, ◌*◌, true, List, [], ◌∷◌, ◌++◌, slice_index}
use Rattle.std.specs.Str.{byte}
use Rattle.grammar.specs.Bytes.{digit, stands}
use Rattle.rule_cases.specs.Escapes.{bracket_at, meant, unit_at}

-- from `from` up to a place these bytes are meant, one by one
pub data Spells (s : List ℕ) (from : ℕ) : ℕ → List ℕ → Type 0 where
  nothing : Spells s from from []
  one : {n : ℕ} {bs : List ℕ} (m b : ℕ) → Spells s from n bs → unit_at s n ≡ meant m b
      → Spells s from m (bs ++ (b ∷ []))

-- from `from` up to a place stand the decimal digits of this number
pub data Counts (s : List ℕ) (from : ℕ) : ℕ → ℕ → Type 0 where
  none : Counts s from from 0
  more : {n k : ℕ} → Counts s from n k → digit (slice_index s n) ≡ true
      → Counts s from (n + 1) (k * 10 + (slice_index s n - byte "0"))

-- these bytes k times
unfoldable pub copies : ℕ → List ℕ → List ℕ
copies zero bs = []
copies (suc k) bs = copies k bs ++ bs

-- from `from` up to m stands a run behind its `~[`, and what it means is added to the bytes `old`
pub record Run (s : List ℕ) (from m : ℕ) (old new : List ℕ) : Type 0 where
  pub times : ℕ
  pub bar : ℕ
  pub end : ℕ
  pub bytes : List ℕ
  pub counts : Counts s from bar times
  pub divides : stands s bar (byte "|") ≡ true
  pub spells : Spells s (bar + 1) end bytes
  pub closes : bracket_at s end (byte "]") ≡ true
  pub behind : m ≡ end + 2
  pub adds : new ≡ old ++ copies times bytes

-- from `from` up to m the bytes that are meant one by one are added to the bytes `old`
pub record Added (s : List ℕ) (from m : ℕ) (old new : List ℕ) : Type 0 where
  pub bytes : List ℕ
  pub spells : Spells s from m bytes
  pub adds : new ≡ old ++ bytes

-- up to a place the text means these bytes: what is meant one by one, and runs
pub data Means (s : List ℕ) : ℕ → List ℕ → Type 0 where
  empty : Means s 0 []
  units : (n m : ℕ) (old new : List ℕ) → Means s n old → Added s n m old new → Means s m new
  run : (n m : ℕ) (old new : List ℕ) → Means s n old → bracket_at s n (byte "[") ≡ true
      → Run s (n + 2) m old new → Means s m new
