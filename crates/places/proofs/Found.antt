-- The head that a rule reads with a given total at a place, by a search.
use Rattle.std.proofs.Common.{◌≡◌, ℕ, zero, suc, ◌≤◌, Bool, true, false, cond, not, ◌&&◌, ◌||◌, nat_eq, nat_le, List, length, take, drop, Option, Some, None, refl, sym, ap, subst, ◌∙◌, inl, inr, arith, length-take-le}
use Rattle.std.proofs.lemmas.Bool.{false≢true, cases_Bool, cases_eq, and_from, and_parts, cond-true, cond-false, eqb-true, eq-eqb, leb-true, le-leb, false_from_ne_true}
use Rattle.std.proofs.lemmas.Option.{none-some}
use Rattle.patterns.specs.Expression.{Expression}
use Rattle.grammar.specs.File.{RuleText}
use Rattle.places.specs.Listing.{Place, Splits, Matches}
use Rattle.places.proofs.Matches.{matches, matches_has, matches_at}

abbrev pub splits_test : Expression → Option Expression → List ℕ → ℕ → Bool
splits_test r None s h = nat_eq h (length s) && matches r s
splits_test r (Some x) s h = nat_le h (length s) && (matches r (take h s) && matches x (drop h s))

-- the greatest number from n down to 1 of which f holds
abbrev pub greatest_to : (ℕ → Bool) → ℕ → Option ℕ
greatest_to f zero = None
greatest_to f (suc n) = cond (f (suc n)) (Some (suc n)) (greatest_to f n)

-- whether the rule q may have a reading of total t at the place p
abbrev pub may_read : RuleText → Place → ℕ → Bool
may_read q p t =
    q.active p.condition && ((not q.anchored || p.at_line_start) && (nat_le 1 t && (nat_le t 1024 && nat_le t (length p.rest))))

abbrev pub head_at : RuleText → Place → ℕ → Option ℕ
head_at q p t = cond (may_read q p t) (greatest_to (splits_test q.expression q.trailing (take t p.rest)) t) None

splits_of : (r : Expression) (x : Option Expression) (s : List ℕ) (h : ℕ) → splits_test r x s h ≡ true → Splits r x s h
splits_of r None s h e = let k = and_parts (nat_eq h (length s)) (matches r s) e in (eqb-true h (length s) k.0, matches_has r s k.1)
splits_of r (Some x) s h e =
    let k = and_parts (nat_le h (length s)) (matches r (take h s) && matches x (drop h s)) e in
    let m = and_parts (matches r (take h s)) (matches x (drop h s)) k.1 in
    (leb-true h (length s) k.0, matches_has r (take h s) m.0, matches_has x (drop h s) m.1)

splits_at : (r : Expression) (x : Option Expression) (s : List ℕ) (h : ℕ) → Splits r x s h → splits_test r x s h ≡ true
splits_at r None s h m = and_from (nat_eq h (length s)) (matches r s) (eq-eqb h (length s) m.0) (matches_at r s m.1)
splits_at r (Some x) s h m =
    and_from (nat_le h (length s)) (matches r (take h s) && matches x (drop h s)) (le-leb h (length s) m.0)
    (and_from (matches r (take h s)) (matches x (drop h s)) (matches_at r (take h s) m.1) (matches_at x (drop h s) m.2))

splits_within : (r : Expression) (x : Option Expression) (s : List ℕ) (h : ℕ) → Splits r x s h → h ≤ length s
splits_within r None s h m = omega (arith, m.0)
splits_within r (Some x) s h m = m.0

-- what a search finds, and that it finds it
record Greatest (f : ℕ → Bool) (n h : ℕ) : Type 0 where
  some : 1 ≤ h
  within : h ≤ n
  holds : f h ≡ true
  above : (k : ℕ) → k ≤ n → f k ≡ true → k ≤ h

module _ (f : ℕ → Bool) where
  greatest_is : (n h : ℕ) → greatest_to f n ≡ Some h → Greatest f n h
  greatest_is zero h e = absurd (cc)
  greatest_is (suc n) h e =
      elim (cases_Bool (f (suc n))) [
        | inl t ↦
            let k : Some (suc n) ≡ Some h = sym (cond-true (f (suc n)) (Some (suc n)) (greatest_to f n) t) ∙ e in
            let same : suc n ≡ h = cc in
            record { some = omega arith; within = omega arith; holds = subst (λ (x : ℕ). f x ≡ true) same t; above = λ k less m. omega arith }
        | inr t ↦
            let g = greatest_is n h (sym (cond-false (f (suc n)) (Some (suc n)) (greatest_to f n) t) ∙ e) in
            record {
              some = g.some;
              within = omega (arith, g.within);
              holds = g.holds;
              above = λ k less m. elim (cases_eq k (suc n)) [
                | inl s ↦ absurd (false≢true (sym t ∙ ap f (sym s) ∙ m))
                | inr s ↦ g.above k (omega arith) m
              ];
            }
      ]

  greatest_at : (n h : ℕ) → Greatest f n h → greatest_to f n ≡ Some h
  greatest_at zero h g = absurd (omega (arith, g.some, g.within))
  greatest_at (suc n) h g =
      elim (cases_eq h (suc n)) [
        | inl s ↦ cond-true (f (suc n)) (Some (suc n)) (greatest_to f n) (ap f (sym s) ∙ g.holds) ∙ ap (λ (x : ℕ). Some x) (sym s)
        | inr s ↦
            let out : f (suc n) ≡ false = false_from_ne_true (f (suc n)) (λ m. let k : suc n ≤ h = g.above (suc n) (omega arith) m in omega (arith, g.within)) in
            cond-false (f (suc n)) (Some (suc n)) (greatest_to f n) out ∙
            greatest_at n h (record { some = g.some; within = omega (arith, g.within); holds = g.holds; above = λ k less m. g.above k (omega arith) m })
      ]

-- where the rule q may have a reading of total t at the place p
record MayRead (q : RuleText) (p : Place) (t : ℕ) : Type 0 where
  active : q.active p.condition ≡ true
  anchor : q.anchored ≡ true → p.at_line_start ≡ true
  some : 1 ≤ t
  most : t ≤ 1024
  within : t ≤ length p.rest

implied : (a b : Bool) → (not a || b) ≡ true → a ≡ true → b ≡ true
implied true b h e = h
implied false b h e = absurd (false≢true e)

implies : (a b : Bool) → (a ≡ true → b ≡ true) → (not a || b) ≡ true
implies true b f = f refl
implies false b f = refl

may_of : (q : RuleText) (p : Place) (t : ℕ) → may_read q p t ≡ true → MayRead q p t
may_of q p t h =
    let d = and_parts (nat_le t 1024) (nat_le t (length p.rest)) in
    let a = and_parts (q.active p.condition) _ h in
    let b = and_parts (not q.anchored || p.at_line_start) _ a.1 in
    let c = and_parts (nat_le 1 t) _ b.1 in
    let e = and_parts (nat_le t 1024) (nat_le t (length p.rest)) c.1 in
    record {
      active = a.0;
      anchor = implied q.anchored p.at_line_start b.0;
      some = leb-true 1 t c.0;
      most = leb-true t 1024 e.0;
      within = leb-true t (length p.rest) e.1;
    }

may_at : (q : RuleText) (p : Place) (t : ℕ) → MayRead q p t → may_read q p t ≡ true
may_at q p t m =
    and_from (q.active p.condition) _ m.active
    (and_from (not q.anchored || p.at_line_start) _ (implies q.anchored p.at_line_start m.anchor)
    (and_from (nat_le 1 t) _ (le-leb 1 t m.some)
    (and_from (nat_le t 1024) (nat_le t (length p.rest)) (le-leb t 1024 m.most) (le-leb t (length p.rest) m.within))))

-- q has a reading there: a match of at most 1,024 bytes
abbrev pub Reads : RuleText → Place → ℕ → ℕ → Type 0
Reads q p t h = Matches q p t h × (t ≤ 1024)

module _ (q : RuleText) (p : Place) (t : ℕ) where
  abbrev test : ℕ → Bool
  test = splits_test q.expression q.trailing (take t p.rest)

  reads_of : (h : ℕ) → MayRead q p t → Greatest test t h → Reads q p t h
  reads_of h m g =
      let s : List ℕ = take t p.rest in
      let long : length s ≡ t = length-take-le t p.rest m.within in (
        record {
          active = m.active;
          anchor = m.anchor;
          some = m.some;
          within = m.within;
          headed = g.some;
          splits = splits_of q.expression q.trailing s h g.holds;
          greatest = λ k x. let w : k ≤ length s = splits_within q.expression q.trailing s k x in g.above k (omega arith) (splits_at q.expression q.trailing s k x);
        },
        m.most,
      )

  -- the head is found exactly if there is a reading with it
  pub head_reads : (h : ℕ) → head_at q p t ≡ Some h → Reads q p t h
  head_reads h e =
      let f : Option ℕ = greatest_to test t in
      elim (cases_Bool (may_read q p t)) [
        | inl m ↦ reads_of h (may_of q p t m) (greatest_is test t h (sym (cond-true (may_read q p t) f None m) ∙ e))
        | inr m ↦ absurd (none-some h (sym (cond-false (may_read q p t) f None m) ∙ e))
      ]

  pub reads_head : (h : ℕ) → Reads q p t h → head_at q p t ≡ Some h
  reads_head h (r, most) =
      let s : List ℕ = take t p.rest in
      let may : may_read q p t ≡ true = may_at q p t (record { active = r.active; anchor = r.anchor; some = r.some; most = most; within = r.within }) in
      let long : length s ≡ t = length-take-le t p.rest r.within in
      let within : h ≤ length s = splits_within q.expression q.trailing s h r.splits in
      cond-true (may_read q p t) (greatest_to test t) None may ∙
      greatest_at test t h (record {
        some = r.headed;
        within = omega arith;
        holds = splits_at q.expression q.trailing s h r.splits;
        above = λ k less m. r.greatest k (splits_of q.expression q.trailing s k m);
      })
