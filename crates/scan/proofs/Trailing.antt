-- Trails of one rule, byte by byte, and the head that they tell.
use Rattle.std.proofs.Common.{◌≡◌, ℕ, suc, ◌+◌, ◌<◌, ◌≤◌, Bool, true, false, ◌&&◌, List, [], ◌∷◌, ◌++◌, length, get_or, get_or-set_other, get_or-set_same, set, length-set, take, drop, sym, refl, ap, ◌∙◌, subst, ◌⊎◌, inl, inr, arith, length-take}
use Rattle.std.proofs.lemmas.Bool.{cases_eq, cases_lt, cases_Bool, both_ways}
use Rattle.std.proofs.lemmas.List.{take_more, drop-append-le, drop_all}
use Rattle.bits.specs.Set.{bit}
use Rattle.bits.proofs.Words.{bit_zero}
use Rattle.table.specs.Memory.{Memory}
use Rattle.places.specs.Listing.{Place}
use Rattle.table.specs.Readings.{next_row, end_marks, trail_row}
use Rattle.scan.specs.Listed.{row_after, fits}
use Rattle.scan.specs.Listing.{head_of}
use Rattle.scan.proofs.Steps.{row_append}
use Rattle.scan.proofs.Greatest.{greatest_is, none_fits}
use Rattle.table.specs.Readings.{IsStored}
use Rattle.scan.specs.Trails.{slashed, trail_met, Stands, Covers, AreTrails, AreMoving, Added}

and_true : (a b : Bool) → (a && b) ≡ true → (a ≡ true) × (b ≡ true)
and_true true true e = (refl, refl)
and_true true false e = absurd (both_ways false refl e)
and_true false b e = absurd (both_ways false refl e)

module _ (mem : Memory) (p : Place) (i : ℕ) where
  -- a trail begins where the trailing part starts
  trail_begins : (n : ℕ) → trail_met mem p i n n ≡ trail_row mem (suc i)
  trail_begins n = ap (row_after mem (trail_row mem (suc i))) (drop_all n (take n p.rest) (omega (arith, length-take n p.rest)))

  -- one byte more
  trail_more : (n h b : ℕ) → h ≤ n → n < length p.rest → b ≡ get_or p.rest n 0 → trail_met mem p i (n + 1) h ≡ next_row mem (trail_met mem p i n h) b
  trail_more n h b most short e =
      let q = trail_row mem (suc i) in
      let old : List ℕ = take n p.rest in
      let more : drop h (take (n + 1) p.rest) ≡ drop h old ++ (get_or p.rest n 0 ∷ []) =
      ap (drop h) (take_more p.rest n 0 short) ∙ drop-append-le h old (get_or p.rest n 0 ∷ []) (omega (arith, length-take n p.rest)) in
      ap (row_after mem q) more ∙ row_append mem q (drop h old) (get_or p.rest n 0 ∷ []) ∙ ap (next_row mem (trail_met mem p i n h)) (sym e)

  -- a trail goes on where its place in the lists is left as it is
  stands_same : (n x : ℕ) (rs hs rs' hs' : List ℕ) → get_or rs' x 0 ≡ get_or rs x 0 → get_or hs' x 0 ≡ get_or hs x 0 → Stands mem p i n rs hs x → Stands mem p i n rs' hs' x
  stands_same n x rs hs rs' hs' r h s = record {
    some = omega (arith, s.some, h);
    most = omega (arith, s.most, h);
    slash = ap (slashed mem p i) h ∙ s.slash;
    at = r ∙ s.at ∙ ap (trail_met mem p i n) (sym h);
    stored = subst (IsStored mem) (sym r) s.stored;
  }

  covers_same : (n from to h : ℕ) (rs hs rs' hs' : List ℕ) → ((x : ℕ) → from ≤ x → x < to → get_or rs' x 0 ≡ get_or rs x 0) → ((x : ℕ) → from ≤ x → x < to → get_or hs' x 0 ≡ get_or hs x 0)
      → Covers mem p i n from to rs hs h → Covers mem p i n from to rs' hs' h
  covers_same n from to h rs hs rs' hs' r s c =
      let x = c.0 in (x, c.1, c.2, r x c.1 c.2 ∙ c.3, omega (arith, s x c.1 c.2, c.4))

  -- row 0 has no end mark
  ended_some : (n h : ℕ) → bit (end_marks mem (trail_met mem p i n h)) i ≡ true → 1 ≤ trail_met mem p i n h
  ended_some n h e = elim (cases_lt 0 (trail_met mem p i n h)) [
    | inl lt ↦ lt
    | inr ge ↦ let z : trail_met mem p i n h ≡ 0 = omega arith in absurd (both_ways (bit (end_marks mem (trail_met mem p i n h)) i) (ap (λ r. bit (end_marks mem r) i) z ∙ bit_zero i) e)
  ]

  -- ---- before a byte
  module _ (n from to : ℕ) (rs hs : List ℕ) (t : AreTrails mem p i n from to rs hs) (short : n < length p.rest) where
    -- a trail that goes on stood in a row before
    stood : (h : ℕ) → h ≤ n → 1 ≤ trail_met mem p i (n + 1) h → 1 ≤ trail_met mem p i n h
    stood h most some = elim (cases_lt 0 (trail_met mem p i n h)) [
      | inl lt ↦ lt
      | inr ge ↦
          let z : trail_met mem p i n h ≡ 0 = omega arith in
          let dead : trail_met mem p i (n + 1) h ≡ 0 = trail_more n h (get_or p.rest n 0) most short refl ∙ ap (λ r. next_row mem r (get_or p.rest n 0)) z in
          absurd (omega arith)
    ]

    pub none_begins : slashed mem p i (n + 1) ≡ false → AreMoving mem p i n from from from to rs hs
    none_begins off = record {
      moved = λ x a b. absurd (omega arith);
      left = t.each;
      moved_fall = λ x y a b c. absurd (omega arith);
      across_fall = λ x y a b c d. absurd (omega arith);
      left_fall = t.falling;
      all = λ h some most slash goes. elim (cases_lt n h) [
        | inl lt ↦ let e : h ≡ n + 1 = omega arith in absurd (both_ways (slashed mem p i h) (ap (slashed mem p i) e ∙ off) slash)
        | inr ge ↦ inr (ge, t.all h some ge slash (stood h ge goes))
      ];
    }

    -- one begins, and stands in front of the others
    pub one_begins : (at : ℕ) (rs' hs' : List ℕ) → at + 1 ≡ from → slashed mem p i (n + 1) ≡ true → IsStored mem (trail_row mem (suc i))
        → get_or rs' at 0 ≡ trail_row mem (suc i) → get_or hs' at 0 ≡ n + 1
        → ((x : ℕ) → from ≤ x → get_or rs' x 0 ≡ get_or rs x 0) → ((x : ℕ) → from ≤ x → get_or hs' x 0 ≡ get_or hs x 0) → AreMoving mem p i n at from from to rs' hs'
    one_begins at rs' hs' next on stored r h rest_r rest_h = record {
      moved = λ x a b. let e : x ≡ at = omega arith in subst (Stands mem p i (n + 1) rs' hs') (sym e) here;
      left = λ x a b. stands_same n x rs hs rs' hs' (rest_r x a) (rest_h x a) (t.each x a b);
      moved_fall = λ x y a b c. let e : x ≡ y = omega arith in omega (arith, ap (λ z. get_or hs' z 0) e);
      across_fall = λ x y a b c d. let e : x ≡ at = omega arith in omega (arith, ap (λ z. get_or hs' z 0) e, h, rest_h y c, (t.each y c d).most);
      left_fall = λ x y a b c. omega (arith, rest_h x a, rest_h y (omega arith), t.falling x y a b c);
      all = λ k some most slash goes. elim (cases_lt n k) [
        | inl lt ↦
            let e : n + 1 ≡ k = omega arith in
            inl (at, omega arith, omega arith, r ∙ sym (trail_begins (n + 1)) ∙ ap (trail_met mem p i (n + 1)) e, omega (arith, h))
        | inr ge ↦ inr (ge, covers_same n from to k rs hs rs' hs' (λ x a b. rest_r x a) (λ x a b. rest_h x a) (t.all k some ge slash (stood k ge goes)))
      ];
    }
      where
        here : Stands mem p i (n + 1) rs' hs' at
        here = record {
          some = omega (arith, h);
          most = omega (arith, h);
          slash = ap (slashed mem p i) h ∙ on;
          at = r ∙ sym (trail_begins (n + 1)) ∙ ap (trail_met mem p i (n + 1)) (sym h);
          stored = subst (IsStored mem) (sym r) stored;
        }

  -- ---- at a byte
  module _ (n from at j to b : ℕ) (rs hs : List ℕ) (m : AreMoving mem p i n from at j to rs hs) (short : n < length p.rest) (byte : b ≡ get_or p.rest n 0) (some_left : j < to) where
    -- where the trail at j goes
    goes_to : (h : ℕ) → h ≤ n → get_or rs j 0 ≡ trail_met mem p i n h → trail_met mem p i (n + 1) h ≡ next_row mem (get_or rs j 0) b
    goes_to h most e = trail_more n h b most short byte ∙ ap (λ r. next_row mem r b) (sym e)

    -- it is dropped, where a trail that has moved covers what it covered
    dropped : ((h : ℕ) → h ≤ n → h ≤ get_or hs j 0 → 1 ≤ trail_met mem p i (n + 1) h → trail_met mem p i (n + 1) h ≡ next_row mem (get_or rs j 0) b → Covers mem p i (n + 1) from at rs hs h)
        → AreMoving mem p i n from at (j + 1) to rs hs
    dropped covered = record {
      moved = m.moved;
      left = λ x a c. m.left x (omega arith) c;
      moved_fall = m.moved_fall;
      across_fall = λ x y a c d e. m.across_fall x y a c (omega arith) e;
      left_fall = λ x y a c d. m.left_fall x y (omega arith) c d;
      all = λ h some most slash goes. elim (m.all h some most slash goes) [
        | inl c ↦ inl c
        | inr w ↦
            let c : Covers mem p i n j to rs hs h = w.1 in
            elim (cases_eq c.0 j) [
              | inl same ↦
                  let row : get_or rs j 0 ≡ trail_met mem p i n h = ap (λ x. get_or rs x 0) (sym same) ∙ c.3 in
                  inl (covered h w.0 (omega (arith, c.4, ap (λ x. get_or hs x 0) same)) goes (goes_to h w.0 row))
              | inr ne ↦ let beyond : j + 1 ≤ c.0 = omega (arith, c.1, ne) in inr (w.0, (c.0, beyond, c.2, c.3, c.4))
            ]
      ];
    }

    pub gone : 0 ≡ next_row mem (get_or rs j 0) b → AreMoving mem p i n from at (j + 1) to rs hs
    gone z = dropped (λ h most less some e. absurd (omega arith))

    pub met_again : (x : ℕ) → from ≤ x → x < at → get_or rs x 0 ≡ next_row mem (get_or rs j 0) b → AreMoving mem p i n from at (j + 1) to rs hs
    met_again x low high e = dropped (λ h most less some r. (x, low, high, e ∙ sym r, omega (arith, m.across_fall x j low high (omega arith) some_left)))

    -- it is put at the next place of those that have moved
    pub goes_on : (rs' hs' : List ℕ) → from ≤ at → at ≤ j → IsStored mem (next_row mem (get_or rs j 0) b) → get_or rs' at 0 ≡ next_row mem (get_or rs j 0) b → get_or hs' at 0 ≡ get_or hs j 0
        → ((x : ℕ) → x < at ⊎ at < x → get_or rs' x 0 ≡ get_or rs x 0) → ((x : ℕ) → x < at ⊎ at < x → get_or hs' x 0 ≡ get_or hs x 0)
        → AreMoving mem p i n from (at + 1) (j + 1) to rs' hs'
    goes_on rs' hs' low before stored r h rest_r rest_h = record {
      moved = λ x a c. elim (cases_eq x at) [
        | inl e ↦ subst (Stands mem p i (n + 1) rs' hs') (sym e) here
        | inr ne ↦ let lt : x < at = omega (arith, ne) in stands_same (n + 1) x rs hs rs' hs' (rest_r x (inl lt)) (rest_h x (inl lt)) (m.moved x a lt)
      ];
      left = λ x a c. stands_same n x rs hs rs' hs' (rest_r x (inr (omega arith))) (rest_h x (inr (omega arith))) (m.left x (omega arith) c);
      moved_fall = λ x y a c d. elim (cases_eq y at) [
        | inl e ↦ elim (cases_eq x at) [
          | inl f ↦ omega (arith, ap (λ z. get_or hs' z 0) e, ap (λ z. get_or hs' z 0) f)
          | inr ne ↦ let lt : x < at = omega (arith, ne) in omega (arith, ap (λ z. get_or hs' z 0) e, h, rest_h x (inl lt), m.across_fall x j a lt (omega arith) some_left)
        ]
        | inr ne ↦ let lt : y < at = omega (arith, ne) in omega (arith, rest_h x (inl (omega arith)), rest_h y (inl lt), m.moved_fall x y a c lt)
      ];
      across_fall = λ x y a c d e. elim (cases_eq x at) [
        | inl f ↦ omega (arith, ap (λ z. get_or hs' z 0) f, h, rest_h y (inr (omega arith)), m.left_fall j y (omega arith) (omega arith) e)
        | inr ne ↦ let lt : x < at = omega (arith, ne) in omega (arith, rest_h x (inl lt), rest_h y (inr (omega arith)), m.across_fall x y a lt (omega arith) e)
      ];
      left_fall = λ x y a c d. omega (arith, rest_h x (inr (omega arith)), rest_h y (inr (omega arith)), m.left_fall x y (omega arith) c d);
      all = λ k some most slash goes. elim (m.all k some most slash goes) [
        | inl c ↦
            let same : Covers mem p i (n + 1) from at rs' hs' k = covers_same (n + 1) from at k rs hs rs' hs' (λ x a lt. rest_r x (inl lt)) (λ x a lt. rest_h x (inl lt)) c in
            inl (same.0, same.1, omega (arith, same.2), same.3, same.4)
        | inr w ↦
            let c : Covers mem p i n j to rs hs k = w.1 in
            elim (cases_eq c.0 j) [
              | inl same ↦
                  let row : get_or rs j 0 ≡ trail_met mem p i n k = ap (λ x. get_or rs x 0) (sym same) ∙ c.3 in
                  inl (at, low, omega arith, r ∙ sym (goes_to k w.0 row), omega (arith, h, c.4, ap (λ x. get_or hs x 0) same))
              | inr ne ↦
                  let beyond : j + 1 ≤ c.0 = omega (arith, c.1, ne) in
                  let far : at < c.0 = omega arith in
                  inr (w.0, (c.0, beyond, c.2, rest_r c.0 (inr far) ∙ c.3, omega (arith, rest_h c.0 (inr far), c.4)))
            ]
      ];
    }
      where
        stood : Stands mem p i n rs hs j
        stood = m.left j (omega arith) some_left

        here : Stands mem p i (n + 1) rs' hs' at
        here = record {
          some = omega (arith, h, stood.some);
          most = omega (arith, h, stood.most);
          slash = ap (slashed mem p i) h ∙ stood.slash;
          at = r ∙ sym (goes_to (get_or hs j 0) stood.most stood.at) ∙ ap (trail_met mem p i (n + 1)) (sym h);
          stored = subst (IsStored mem) (sym r) stored;
        }

    -- what is so once the trail at j has been read
    pub record Went (rs' hs' : List ℕ) (end : ℕ) : Type 0 where
      pub moving : AreMoving mem p i n from end (j + 1) to rs' hs'
      pub low : at ≤ end
      pub high : end ≤ j + 1
      pub rows_kept : length rs' ≡ length rs
      pub heads_kept : length hs' ≡ length hs

    pub went_nowhere : at ≤ j → 0 ≡ next_row mem (get_or rs j 0) b → Went rs hs at
    went_nowhere before z = record { moving = gone z; low = omega arith; high = omega arith; rows_kept = refl; heads_kept = refl }

    pub went_on : (r : ℕ) (rs' hs' : List ℕ) (end : ℕ) → from ≤ at → at ≤ j → j < length rs → j < length hs → r ≡ next_row mem (get_or rs j 0) b → IsStored mem r
        → Added from at r (get_or hs j 0) rs hs rs' hs' end → Went rs' hs' end
    went_on r rs' hs' end low before few_rows few_heads e stored (inl w) =
        let x = w.3 in
        rw (w.0, w.1, w.2) (let again : Went rs hs at = record { moving = met_again x.0 x.1 x.2 (x.3 ∙ e); low = omega arith; high = omega arith; rows_kept = refl; heads_kept = refl } in again)
    went_on r rs' hs' end low before few_rows few_heads e stored (inr w) = rw (w.0, w.1, w.2) put
      where
        h : ℕ
        h = get_or hs j 0

        other : (xs : List ℕ) (v x : ℕ) → x < at ⊎ at < x → get_or (set xs at v) x 0 ≡ get_or xs x 0
        other xs v x (inl lt) = get_or-set_other xs at x v 0 (λ f. omega arith)
        other xs v x (inr gt) = get_or-set_other xs at x v 0 (λ f. omega arith)

        put : Went (set rs at r) (set hs at h) (at + 1)
        put = record {
          moving =
              goes_on (set rs at r) (set hs at h) low before (subst (IsStored mem) e stored) (get_or-set_same rs at r 0 (omega arith) ∙ e) (get_or-set_same hs at h 0 (omega arith))
              (λ x. other rs r x) (λ x. other hs h x);
          low = omega arith;
          high = omega arith;
          rows_kept = length-set rs at r;
          heads_kept = length-set hs at h;
        }

  -- ---- behind a byte
  pub all_moved : (n from at to : ℕ) (rs hs : List ℕ) → AreMoving mem p i n from at to to rs hs → AreTrails mem p i (n + 1) from at rs hs
  all_moved n from at to rs hs m = record {
    each = m.moved;
    falling = m.moved_fall;
    all = λ h some most slash goes. elim (m.all h some most slash goes) [
      | inl c ↦ c
      | inr w ↦ absurd (omega (arith, w.1.1, w.1.2))
    ];
  }

  -- ---- the head that they tell
  module _ (n from to : ℕ) (rs hs : List ℕ) (t : AreTrails mem p i n from to rs hs) where
    -- where no trail of those up to x has the end mark, none of a longer head than at x fits
    unfit : (x h : ℕ) → ((y : ℕ) → from ≤ y → y < x → bit (end_marks mem (get_or rs y 0)) i ≡ false) → ((y : ℕ) → from ≤ y → x ≤ y → y < to → get_or hs y 0 < h) → 1 ≤ h → h ≤ n → fits mem p n i h ≡ false
    unfit x h off shorter some most = elim (cases_Bool (fits mem p n i h)) [
      | inr unset ↦ unset
      | inl fit ↦
          let both = and_true (slashed mem p i h) (bit (end_marks mem (trail_met mem p i n h)) i) fit in
          let c : Covers mem p i n from to rs hs h = t.all h some most both.0 (ended_some n h both.1) in
          absurd (elim (cases_lt c.0 x) [
            | inl lt ↦ both_ways (bit (end_marks mem (get_or rs c.0 0)) i) (off c.0 c.1 lt) (ap (λ r. bit (end_marks mem r) i) c.3 ∙ both.1)
            | inr ge ↦ omega (arith, shorter c.0 c.1 ge c.2, c.4)
          ])
    ]

    pub head_at : (x : ℕ) → from ≤ x → x < to → ((y : ℕ) → from ≤ y → y < x → bit (end_marks mem (get_or rs y 0)) i ≡ false) → bit (end_marks mem (get_or rs x 0)) i ≡ true → get_or hs x 0 ≡ head_of mem p n i
    head_at x low high off on =
        let s : Stands mem p i n rs hs x = t.each x low high in
        let h = get_or hs x 0 in
        let ends : bit (end_marks mem (trail_met mem p i n h)) i ≡ true = ap (λ r. bit (end_marks mem r) i) (sym s.at) ∙ on in
        let fit : fits mem p n i h ≡ true = rw s.slash ends in
        sym (greatest_is (fits mem p n i) n n h s.some s.most fit (λ k longer most. unfit x k off (λ y a b c. omega (arith, t.falling x y low b c)) (omega arith) most))

    pub head_none : ((y : ℕ) → from ≤ y → y < to → bit (end_marks mem (get_or rs y 0)) i ≡ false) → n ≡ head_of mem p n i
    head_none off = none_fits mem p n i (λ h some most. unfit to h off (λ y a b c. absurd (omega arith)) some most)
