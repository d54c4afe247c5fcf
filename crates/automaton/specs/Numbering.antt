-- Sets are numbered from 1 as they first come up. One without members has no row, and its number is
-- 0.
use Rattle.std.specs.Prelude.{ℕ, zero, suc, Bool, true, false, cond, ◌&&◌, ◌||◌, List, [], ◌∷◌, ◌++◌, length, nat_le, nat_lt, slice_index_or}
use Rattle.grammar.specs.File.{RuleText}
use Rattle.automaton.specs.Sets.{Set, empty, same}
use Rattle.automaton.specs.Automaton.{start_set, trail_set, leads}

-- one of these is the same set
abbrev pub stored : List Set → Set → Bool
stored [] s = false
stored (r ∷ rs) s = same r s || stored rs s

-- the number of the first of these that is the same set, counted from 1
abbrev pub place : List Set → Set → ℕ
place [] s = 1
place (r ∷ rs) s = cond (same r s) 1 (suc (place rs s))

-- the row of a set among the rows
abbrev pub number : List Set → Set → ℕ
number rs s = cond (empty s) 0 (place rs s)

-- an equal set keeps its number, a different one gets the next
abbrev pub meet : List Set → Set → List Set
meet rs s = cond (empty s || stored rs s) rs (rs ++ (s ∷ []))

abbrev pub meet_all : List Set → List Set → List Set
meet_all rs [] = rs
meet_all rs (s ∷ ss) = meet_all (meet rs s) ss

-- for each condition its start away from line start, then the one at it
abbrev pub starts : List RuleText → ℕ → ℕ → List Set
starts qs c zero = []
starts qs c (suc n) = start_set qs 0 c false ∷ (start_set qs 0 c true ∷ starts qs (suc c) n)

-- the trail starts by rule
abbrev pub trails : List RuleText → ℕ → ℕ → List Set
trails qs i zero = []
trails qs i (suc n) = trail_set qs 0 i ∷ trails qs (suc i) n

abbrev pub none : Set
none p = false

-- what the bytes lead to from a set, n bytes from b on
unfoldable pub leads_from : List RuleText → Set → ℕ → ℕ → List Set
leads_from qs s b zero = []
leads_from qs s b (suc n) = leads qs s b ∷ leads_from qs s (suc b) n

-- from each row on, from row k on (counted from 0), by bytes 0 to 255; no further once there are
-- more than `most`, in at most n turns
unfoldable pub grown : List RuleText → ℕ → ℕ → ℕ → List Set → List Set
grown qs most zero k rs = rs
grown qs most (suc n) k rs =
    cond (nat_lt k (length rs) && nat_le (length rs) most)
    (grown qs most n (suc k) (meet_all rs (leads_from qs (slice_index_or rs k none) 0 256)))
    rs

-- the rows of a file with this many conditions, up to more than `most`
unfoldable pub row_sets : List RuleText → ℕ → ℕ → List Set
row_sets qs conditions most = grown qs most (suc most) 0 (meet_all [] (starts qs 0 conditions
    ++ trails qs 0 (length qs)))
