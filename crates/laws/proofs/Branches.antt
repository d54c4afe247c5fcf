-- How a branch is read, and what an interval in it covers.
use Rattle.std.proofs.Common.{◌≡◌, ℕ, zero, suc, ◌+◌, ◌-◌, ◌*◌, ◌<◌, ◌≤◌, Bool, true, false, cond, leb, List, length, Ok, Err, Option, sym, refl, ◌∙◌, subst, inl, inr, arith}
use Rattle.std.proofs.lemmas.Bool.{or_cases, or_left, le-leb, leb-true}
use Rattle.patterns.specs.Positions.{size}
use Rattle.grammar.specs.declared.Fault.{Fault}
use Rattle.grammar.specs.Outcome.{Out, then, many}
use Rattle.grammar.specs.Bytes.{passes, stands}
use Rattle.grammar.specs.Expressions.{Parsed, Parser, starts_atom, atom_by, marked, repeated_more, piece_by, bounds_at, extra, repeated, repeated_over, branch_goes_on, branch_more, branch_by, inside}
use Rattle.tokens.proofs.Follow.{no_ok, then_ok, Left, starts, turns_on, stops}
use Rattle.laws.specs.Branches.{Reads, first, further, BranchesEnd, Covers, IntervalCovers, IntervalRead}
use Rattle.laws.proofs.Intervals.{interval_strings}
use Rattle.laws.proofs.Ends.{well_at, passing, standing}
use Rattle.laws.proofs.Growth.{Grown, Further, Inner, piece_ends, branch_more_ends, inside_ends, Ordered, bounds_ends}

-- a piece begins in the text
module _ (s : List ℕ) (n : ℕ) (p : Parsed) where
  begins : (x y z : Bool) (q r : Out Parsed) (g h : Out Parsed) → (x ≡ true → n < length s) → (y ≡ true → n < length s) → (z ≡ true → n < length s) → (f : Fault) → g ≡ Err f →
      cond x q (cond y r (cond z h g)) ≡ Ok p → n < length s
  begins true y z q r g h a b c f w e = a refl
  begins false true z q r g h a b c f w e = b refl
  begins false false true q r g h a b c f w e = c refl
  begins false false false q r g h a b c f w e = absurd (no_ok f p (sym w ∙ e))

atom_begins : (inner : Option Parser) (s : List ℕ) (n u : ℕ) (p : Parsed) → atom_by inner s n u ≡ Ok p → n < length s
unfolding atom_by
atom_begins inner s n u p e =
    begins s n p (stands s n 34) (stands s n 40) (passes starts_atom s n) _ _ _ _ (standing s n 34) (standing s n 40) (passing starts_atom s n) _ refl e

piece_begins : (inner : Option Parser) (s : List ℕ) (n u : ℕ) (p : Parsed) → piece_by inner s n u ≡ Ok p → n < length s
unfolding piece_by
piece_begins inner s n u p e =
    let (q, a, b) = then_ok (atom_by inner s n u) (many (marked s) (repeated_more s) (length s)) p e in atom_begins inner s n u q a

module _ (inner : Option Parser) (s : List ℕ) (i : Inner s inner) (n u : ℕ) where
  reads_grown : (p : Parsed) → Reads inner s n u p → Grown s n u p
  reads_grown p (first e) = let lt : n < length s = piece_begins inner s n u p e in well_at (piece_by inner s n u) p (piece_ends s inner i n u (omega arith)) e
  reads_grown p (further q r t e) = (well_at (branch_more inner s q) p (branch_more_ends s inner i n u q (reads_grown q r)) e).grown

  -- what is read by turns
  to_reads : (k : ℕ) (p q : Parsed) → Reads inner s n u p → length s < k + p.at → many (branch_goes_on s) (branch_more inner s) k p ≡ Ok q → Reads inner s n u q × (branch_goes_on s q ≡ false)
  unfolding many
  to_reads zero p q r room e = let g = reads_grown p r in absurd (omega (arith, g.inside))
  to_reads (suc k) p q r room e = again (branch_goes_on s p) refl (branch_more inner s p) refl e (to_reads k)
    where
      again : (b : Bool) → branch_goes_on s p ≡ b → (o : Out Parsed) → branch_more inner s p ≡ o → cond b (then o (many (branch_goes_on s) (branch_more inner s) k)) (Ok p) ≡ Ok q →
          ((x y : Parsed) → Reads inner s n u x → length s < k + x.at → many (branch_goes_on s) (branch_more inner s) k x ≡ Ok y → Reads inner s n u y × (branch_goes_on s y ≡ false)) →
          Reads inner s n u q × (branch_goes_on s q ≡ false)
      again true t (Ok x) m e more =
          let f : Further s n u p x = well_at (branch_more inner s p) x (branch_more_ends s inner i n u p (reads_grown p r)) m in
          more x q (further p r t m) (omega (arith, f.behind)) e
      again true t (Err f) m e more = absurd (no_ok f q e)
      again false t o m e more =
          let same : p ≡ q = cc in
          let P : Parsed → Type 0 = λ x. Reads inner s n u x × (branch_goes_on s x ≡ false) in subst P same (r, t)

  pub branch_reads : (q : Parsed) → branch_by inner s n u ≡ Ok q → Reads inner s n u q × (branch_goes_on s q ≡ false)
  unfolding branch_by
  branch_reads q e =
      let (p, a, b) = then_ok (piece_by inner s n u) (many (branch_goes_on s) (branch_more inner s) (length s)) q e in
      let g = reads_grown p (first a) in
      to_reads (length s) p q (first a) (omega (arith, g.on)) b

  -- and the turns suffice
  left : Parsed → ℕ
  left p = length s - p.at

  goes_below : (p : Parsed) → branch_goes_on s p ≡ true → p.at < length s
  goes_below p t = elim (or_cases (stands s p.at 123) (passes starts_atom s p.at) t) [ inl h ↦ standing s p.at 123 h | inr h ↦ passing starts_atom s p.at h ]

  from_reads : (p : Parsed) → Reads inner s n u p → Left (branch_goes_on s) (branch_more inner s) left (branch_by inner s n u) p
  unfolding branch_by left
  from_reads p (first e) = starts (branch_goes_on s) (branch_more inner s) left (branch_by inner s n u) p (length s) (omega arith) (rw e)
  from_reads p (further q r t e) =
      let f : Further s n u q p = well_at (branch_more inner s q) p (branch_more_ends s inner i n u q (reads_grown q r)) e in
      let lt : q.at < length s = goes_below q t in
      turns_on (branch_goes_on s) (branch_more inner s) left (branch_by inner s n u) q p (from_reads q r) (sym t) e (omega (arith, f.behind))

  pub reads_branch : (q : Parsed) → Reads inner s n u q → branch_goes_on s q ≡ false → branch_by inner s n u ≡ Ok q
  reads_branch q r f = stops (branch_goes_on s) (branch_more inner s) left (branch_by inner s n u) q (from_reads q r) (sym f)

pub branches_end : BranchesEnd
branches_end d s n u q = (branch_reads (inside d s) s (inside_ends s d) n u q, λ h. reads_branch (inside d s) s (inside_ends s d) n u q h.0 h.1)

pub interval_covers : IntervalCovers
interval_covers d s n u p b r t e room =
    let g = reads_grown (inside d s) s (inside_ends s d) n u p r in
    let q : Parsed = record { tree = repeated b.value p.tree; at = b.next; used = p.used + extra b.value * size p.tree } in
    let m : branch_more (inside d s) s p ≡ Ok q = rw (t, e, le-leb _ _ room) in
    let o : Ordered s (p.at + 1) b = well_at (bounds_at s (p.at + 1)) b (bounds_ends s (p.at + 1) (omega (arith, standing s p.at 123 t))) e in (
      q,
      record {
        is_next = m;
        is_read = further p r (or_left (stands s p.at 123) (passes starts_atom s p.at) t) m;
        behind = refl;
        copies = refl;
        strings = interval_strings b.value o.sound p.tree;
      },
    )

-- a test that must have held
held : (b : Bool) (f : Fault) (x y : Parsed) → cond b (Ok x) (Err f) ≡ Ok y → b ≡ true
held true f x y e = refl
held false f x y e = absurd (no_ok f y e)

pub interval_read : IntervalRead
interval_read d s n u p q r t e =
    let more : then (bounds_at s (p.at + 1)) (repeated_over p) ≡ Ok q = rw t at e in
    let (b, a, o) = then_ok (bounds_at s (p.at + 1)) (repeated_over p) q more in
    let room : p.used + extra b.value * size p.tree ≤ 512 = leb-true _ _ (held (leb (p.used + extra b.value * size p.tree) 512) _ _ q o) in
    let (x, c) = interval_covers d s n u p b r t a room in
    let i : branch_more (inside d s) s p ≡ Ok x = c.is_next in
    let same : x ≡ q = cc in
    (b, a, subst (λ (y : Parsed). Covers d s n u p b y) same c)
