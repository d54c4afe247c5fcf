-- What each call leaves in the work memory, by membership. Set p holds the bytes that position p
-- takes, and set 512 + p the positions that may follow it.
use Rattle.std.specs.Prelude.{◌≡◌, ℕ, ◌+◌, ◌-◌, Bool, true, false, cond, ◌&&◌, ◌||◌, List, [], length, ◌==◌, nat_le, nat_lt, slice_index_or}
use Rattle.bits.specs.Set.{has}
use Rattle.bits.specs.declared.Bits.{Bits}
use Rattle.positions.specs.declared.Fragment.{Fragment}
use Rattle.positions.specs.declared.Repeat.{Repeat}
use Rattle.positions.specs.declared.Repeat.TheVariants.{Many, Some, Maybe}

abbrev pub Work : Type 0
Work = List (Bits 8)

-- q is in set k
abbrev pub member : Work → ℕ → ℕ → Bool
member w k q = has (slice_index_or w k (record { words = [] })).words q

-- there are sets for 512 positions
abbrev pub roomy : Work → Bool
roomy w = nat_le 1024 (length w)

abbrev pub between : ℕ → ℕ → ℕ → Bool
between low end k = nat_le low k && nat_lt k end

-- the position p, of the bytes b
pub record Leaf (w w' : Work) (p : ℕ) (b : List ℕ) (f : Fragment) : Type 0 where
  pub nullable : f.nullable ≡ false
  pub first : (q : ℕ) → has f.first.words q ≡ (q == p && nat_lt p 512)
  pub last : (q : ℕ) → has f.last.words q ≡ (q == p && nat_lt p 512)
  pub memory : (k q : ℕ) → member w' k q ≡ cond ((roomy w && nat_lt p 512)
      && k == p) (has b q) (cond ((roomy w && nat_lt p 512) && k == 512 + p) false (member w k q))

-- each of the positions `ends` may be followed by each of `starts`
abbrev pub Linked : Work → Work → List ℕ → List ℕ → Type 0
Linked w w' ends starts = (k q : ℕ) → member w' k q ≡ (member w k q
    || ((roomy w && between 512 1024 k) && (has ends (k - 512) && has starts q)))

-- x, and then y
pub record Sequence (w w' : Work) (x y f : Fragment) : Type 0 where
  pub nullable : f.nullable ≡ (x.nullable && y.nullable)
  pub first : (q : ℕ) → has f.first.words q ≡ (has x.first.words q
      || (x.nullable && has y.first.words q))
  pub last : (q : ℕ) → has f.last.words q ≡ ((y.nullable && has x.last.words q)
      || has y.last.words q)
  pub memory : Linked w w' x.last.words y.first.words

-- x or y
pub record Choice (x y f : Fragment) : Type 0 where
  pub nullable : f.nullable ≡ (x.nullable || y.nullable)
  pub first : (q : ℕ) → has f.first.words q ≡ (has x.first.words q || has y.first.words q)
  pub last : (q : ℕ) → has f.last.words q ≡ (has x.last.words q || has y.last.words q)

-- x with a repeat mark is empty by itself, and a string of it may go round
abbrev pub empties : Repeat → Bool
empties Many = true
empties Some = false
empties Maybe = true

abbrev pub goes_round : Repeat → Bool
goes_round Many = true
goes_round Some = true
goes_round Maybe = false

pub record Repeats (r : Repeat) (w w' : Work) (x f : Fragment) : Type 0 where
  pub nullable : f.nullable ≡ (empties r || x.nullable)
  pub first : (q : ℕ) → has f.first.words q ≡ has x.first.words q
  pub last : (q : ℕ) → has f.last.words q ≡ has x.last.words q
  pub memory : (k q : ℕ) → member w' k q ≡ (member w k q || ((goes_round r
      && (roomy w && between 512 1024 k)) && (has x.last.words (k - 512) && has x.first.words q)))

-- the n positions from `from` on, once more, each moved up by `by`; they must not overlap, and stay
-- below 512
abbrev pub copiable : Work → ℕ → ℕ → ℕ → Bool
copiable w from n by = roomy w && (nat_le n by && nat_le (from + n + by) 512)

abbrev pub moved_up : List ℕ → ℕ → ℕ → Bool
moved_up s by q = nat_lt q 512 && (nat_le by q && has s (q - by))

pub record Copied (w w' : Work) (from n by : ℕ) (x f : Fragment) : Type 0 where
  pub nullable : f.nullable ≡ x.nullable
  pub first : (q : ℕ) → has f.first.words q ≡ moved_up x.first.words by q
  pub last : (q : ℕ) → has f.last.words q ≡ moved_up x.last.words by q
  pub memory : (k q : ℕ) → member w' k q ≡
      cond (copiable w from n by && between (from + by) (from + n + by) k) (member w (k - by) q)
      (cond (copiable w from n by && between (512 + from + by) (512 + from + n + by) k)
      (nat_lt q 512 && (nat_le by q && member w (k - by) (q - by)))
      (member w k q))
