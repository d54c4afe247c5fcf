-- A row is written, and all rows one after another.
use Rattle.std.proofs.Common.{◌≡◌, ℕ, zero, suc, ◌+◌, ◌^◌, ◌<◌, ◌≤◌, false, ◌&&◌, ltb, List, [], ◌∷◌, length, Some, None, Option, sym, refl, ap, ◌∙◌, inl, inr, arith}
use Rattle.std.proofs.lemmas.Bool.{cases_lt, and_right, lt-ltb, le-ltb}
use Rattle.bits.specs.Set.{bit}
use Rattle.positions.specs.Memory.{Work}
use Rattle.grammar.specs.File.{RuleText, rule_size}
use Rattle.table.specs.declared.loaded.Row.{Row}
use Rattle.automaton.specs.Sets.{Set}
use Rattle.automaton.specs.Automaton.{end_mark, slash_mark, meets}
use Rattle.automaton.proofs.Members.{meets_false}
use Rattle.loader.specs.Machine.{set_at, Machine}
use Rattle.loader.specs.Building.{rows_of, Entered, Enters, RowWritten, WritesRow}

-- a rule past the last has no marks
pub end_past : (qs : List RuleText) (a i p : ℕ) → length qs ≤ i → end_mark qs a i p ≡ false
end_past [] a i p h = refl
end_past (q ∷ qs) a zero p h = absurd (omega arith)
end_past (q ∷ qs) a (suc i) p h = end_past qs (a + rule_size q) i p (omega arith)

pub slash_past : (qs : List RuleText) (a i p : ℕ) → length qs ≤ i → slash_mark qs a i p ≡ false
slash_past [] a i p h = refl
slash_past (q ∷ qs) a zero p h = absurd (omega arith)
slash_past (q ∷ qs) a (suc i) p h = slash_past qs (a + rule_size q) i p (omega arith)

mark_is : (s : Set) (at mark : ℕ → Set) (n : ℕ) → ((i : ℕ) → i < n → at i ≡ mark i) → ((i p : ℕ) → n ≤ i → mark i p ≡ false) → (i : ℕ) → (ltb i n && meets s (at i)) ≡ meets s (mark i)
mark_is s at mark n f g i = elim (cases_lt i n) [
  | inl lt ↦ rw (lt-ltb i n lt) (ap (meets s) (f i lt))
  | inr past ↦ rw (le-ltb i n past) (sym (meets_false s (mark i) (λ p lt. and_right (s p) (mark i p) (g i p past))))
]

pub row_written : (m : Work) (qs : List RuleText) (n : ℕ) (rs : List Set) (s : Set) (us : List Set) (r : Row) → Machine m n qs → Entered qs rs s 256 us r.next → length r.next ≡ 256
    → ((i : ℕ) → bit r.ends i ≡ (ltb i n && meets s (set_at m (1152 + i)))) → r.ends < 2 ^ n
    → ((i : ℕ) → bit r.slashes i ≡ (ltb i n && meets s (set_at m (1216 + i)))) → r.slashes < 2 ^ n
    → RowWritten qs n rs s us r
row_written m qs n rs s us r a e width ends few-ends slashes few-slashes = record {
  rows = e.rows;
  row = record {
    holds = record {
      width = width;
      next = λ b lt. (e.entries b lt).0;
      ends = λ i. ends i ∙ mark_is s (λ j. set_at m (1152 + j)) (end_mark qs 0) n a.ends (λ j p h. end_past qs 0 j p (omega (arith, a.count))) i;
      slashes = λ i. slashes i ∙ mark_is s (λ j. set_at m (1216 + j)) (slash_mark qs 0) n a.slashes (λ j p h. slash_past qs 0 j p (omega (arith, a.count))) i;
    };
    known = λ b lt. (e.entries b lt).1;
    marked = (few-ends, few-slashes);
  };
}

-- or there is no room
pub writes_row : (m : Work) (qs : List RuleText) (n : ℕ) (rs : List Set) (s : Set) (w' : Work) (r : Row) (o : Option ℕ) → Machine m n qs → Enters qs rs s w' r.next o → length r.next ≡ 256
    → ((i : ℕ) → bit r.ends i ≡ (ltb i n && meets s (set_at m (1152 + i)))) → r.ends < 2 ^ n
    → ((i : ℕ) → bit r.slashes i ≡ (ltb i n && meets s (set_at m (1216 + i)))) → r.slashes < 2 ^ n
    → WritesRow qs n rs s w' r o
writes_row m qs n rs s w' r None a e width ends few-ends slashes few-slashes = e
writes_row m qs n rs s w' r (Some k) a e width ends few-ends slashes few-slashes = row_written m qs n rs s (rows_of w' k) r a e width ends few-ends slashes few-slashes
