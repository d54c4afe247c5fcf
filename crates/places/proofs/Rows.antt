-- There is a listing at each place, and only one: the readings of each total in a row, the greatest total first.
use Rattle.std.proofs.Common.{◌≡◌, ℕ, zero, suc, ◌+◌, ◌≤◌, min, ◌⊎◌, List, [], ◌∷◌, ◌++◌, length, slice_get, Option, Some, None, refl, sym, subst, ◌∙◌, inl, inr, arith}
use Rattle.std.proofs.lemmas.Bool.{cases_eq}
use Rattle.std.proofs.lemmas.Option.{none-some, same_Some}
use Rattle.grammar.specs.File.{RuleText}
use Rattle.places.specs.declared.Reading.{Reading}
use Rattle.places.specs.Listing.{Place, Listed, last_resort, Listing, OneListing}
use Rattle.places.proofs.Ordered.{Exactly, exactly_none, exactly_one, exactly_join, listing_of, listing_unique, listing_as}
use Rattle.places.proofs.Found.{Reads, head_at, head_reads, reads_head}

abbrev pub reading : ℕ → ℕ → ℕ → Reading
reading i t h = record { rule = i; total = t; head = h }

abbrev pub one_with : ℕ → ℕ → Option ℕ → List Reading
one_with i t None = []
one_with i t (Some h) = reading i t h ∷ []

-- the readings of total t of these rules, which count from n + 1
abbrev pub row : ℕ → List RuleText → Place → ℕ → List Reading
row n [] p t = []
row n (q ∷ qs) p t = one_with (suc n) t (head_at q p t) ++ row (suc n) qs p t

-- the readings of total t and less
abbrev pub rows : List RuleText → Place → ℕ → List Reading
rows qs p zero = []
rows qs p (suc t) = row 0 qs p (suc t) ++ rows qs p t

abbrev pub listed_readings : List RuleText → Place → List Reading
listed_readings qs p = rows qs p (min 1024 (length p.rest)) ++ last_resort p.rest

-- what each of these has: the reading of one rule, of total t
record One (n : ℕ) (q : RuleText) (p : Place) (t : ℕ) (d : Reading) : Type 0 where
  rule : d.rule ≡ suc n
  total : d.total ≡ t
  reads : Reads q p t d.head

-- one of the rules that count from n + 1, of total t
record Row (n : ℕ) (qs : List RuleText) (p : Place) (t : ℕ) (d : Reading) : Type 0 where
  before : ℕ
  text : RuleText
  rule : d.rule ≡ suc (n + before)
  of : slice_get qs before ≡ Some text
  total : d.total ≡ t
  reads : Reads text p t d.head

abbrev Rows : List RuleText → Place → ℕ → Reading → Type 0
Rows qs p t d = Row 0 qs p d.total d × (d.total ≤ t)

same_reading : (d : Reading) (i t h : ℕ) → d.rule ≡ i → d.total ≡ t → d.head ≡ h → d ≡ reading i t h
same_reading d i t h a b c = λ j. record { rule = a j; total = b j; head = c j }

-- the reading of one rule, by what is found
one_exactly : (n : ℕ) (q : RuleText) (p : Place) (t : ℕ) (o : Option ℕ) → head_at q p t ≡ o → Exactly (One n q p t) (one_with (suc n) t o)
one_exactly n q p t None e = exactly_none (One n q p t) (λ d k. none-some d.head (sym e ∙ reads_head q p t d.head k.reads))
one_exactly n q p t (Some h) e =
    exactly_one (One n q p t) (reading (suc n) t h) (record { rule = refl; total = refl; reads = head_reads q p t h e })
    (λ d k. same_reading d (suc n) t h k.rule k.total (same_Some d.head h (sym (reads_head q p t d.head k.reads) ∙ e)))

module _ (n : ℕ) (q : RuleText) (qs : List RuleText) (p : Place) (t : ℕ) (d : Reading) where
  -- a reading of a row is of the first rule or of the others
  row_cases : (i : ℕ) (x : RuleText) → d.rule ≡ suc (n + i) → slice_get (q ∷ qs) i ≡ Some x → d.total ≡ t → Reads x p t d.head → One n q p t d ⊎ Row (suc n) qs p t d
  row_cases zero x r o s h =
      let same : x ≡ q = sym (same_Some q x o) in
      inl (record { rule = omega arith; total = s; reads = subst (λ (y : RuleText). Reads y p t d.head) same h })
  row_cases (suc i) x r o s h = inr (record { before = i; text = x; rule = omega arith; of = o; total = s; reads = h })

  row_first : One n q p t d → Row n (q ∷ qs) p t d
  row_first a = record { before = zero; text = q; rule = omega (arith, a.rule); of = refl; total = a.total; reads = a.reads }

  row_later : Row (suc n) qs p t d → Row n (q ∷ qs) p t d
  row_later a = record { before = suc a.before; text = a.text; rule = omega (arith, a.rule); of = a.of; total = a.total; reads = a.reads }

row_exactly : (n : ℕ) (qs : List RuleText) (p : Place) (t : ℕ) → Exactly (Row n qs p t) (row n qs p t)
row_exactly n [] p t = exactly_none (Row n [] p t) (λ d r. none-some r.text r.of)
row_exactly n (q ∷ qs) p t =
    exactly_join (One n q p t) (Row (suc n) qs p t) (Row n (q ∷ qs) p t)
    (λ d e a r. inr (a.total ∙ sym r.total, omega (arith, a.rule, r.rule)))
    (λ d a. row_first n q qs p t d a)
    (λ d a. row_later n q qs p t d a)
    (λ d r. row_cases n q qs p t d r.before r.text r.rule r.of r.total r.reads)
    (one_with (suc n) t (head_at q p t)) (row (suc n) qs p t)
    (one_exactly n q p t (head_at q p t) refl) (row_exactly (suc n) qs p t)

module _ (qs : List RuleText) (p : Place) where
  -- a row's readings have its total
  row_total : (t : ℕ) (d : Reading) → Row 0 qs p t d → Row 0 qs p d.total d
  row_total t d r = subst (λ (x : ℕ). Row 0 qs p x d) (sym r.total) r

  rows_exactly : (t : ℕ) → Exactly (Rows qs p t) (rows qs p t)
  rows_exactly zero = exactly_none (Rows qs p 0) (λ d r. omega (arith, r.0.reads.0.some, r.1))
  rows_exactly (suc t) =
      exactly_join (Row 0 qs p (suc t)) (Rows qs p t) (Rows qs p (suc t))
      (λ d e a r. inl (omega (arith, a.total, r.1)))
      (λ d a. (row_total (suc t) d a, omega (arith, a.total)))
      (λ d r. (r.0, omega (arith, r.1)))
      (λ d r. elim (cases_eq d.total (suc t)) [
        | inl e ↦ inl (subst (λ (x : ℕ). Row 0 qs p x d) e r.0)
        | inr e ↦ inr (r.0, omega (arith, r.1))
      ])
      (row 0 qs p (suc t)) (rows qs p t) (row_exactly 0 qs p (suc t)) (rows_exactly t)

  listed_row : (d : Reading) → Rows qs p (min 1024 (length p.rest)) d → Listed qs p d
  listed_row d r = record { before = r.0.before; rule = r.0.text; number = omega (arith, r.0.rule); of = r.0.of; matches = r.0.reads.0; most = r.0.reads.1 }

  row_listed : (d : Reading) → Listed qs p d → Rows qs p (min 1024 (length p.rest)) d
  row_listed d l = (
    record { before = l.before; text = l.rule; rule = omega (arith, l.number); of = l.of; total = refl; reads = (l.matches, l.most) },
    omega (arith, l.most, l.matches.within),
  )

  pub listed_are : Listing qs p (listed_readings qs p)
  listed_are =
      let n : ℕ = min 1024 (length p.rest) in
      listing_as (Rows qs p n) (Listed qs p) p.rest (listed_readings qs p) (λ d. (listed_row d, row_listed d))
      (listing_of (Rows qs p n) p.rest (rows qs p n) (rows_exactly n))

pub one_listing : OneListing
one_listing qs p = ((listed_readings qs p, listed_are qs p), listing_unique (Listed qs p) p.rest)
