-- The copies of an interval, laid down from the last to the first.
use Rattle.std.proofs.Common.{◌≡◌, ℕ, zero, suc, ◌+◌, ◌-◌, ◌*◌, ◌<◌, ◌≤◌, Bool, true, false, cond, ◌&&◌, ◌||◌, ltb, leb, ◌⊎◌, List, length, sym, refl, ◌∙◌, subst, inl, inr, mul-le-mul_right, suc-mul, zero-mul, arith}
use Rattle.std.proofs.lemmas.Bool.{cases_Bool, false_from_ne_true, ltb-false, le-leb}
use Rattle.bits.specs.Set.{has}
use Rattle.patterns.specs.Expression.{Expression, Takes, Then, Either}
use Rattle.patterns.specs.Expression as expression
use Rattle.patterns.proofs.Ranges.{first_in, last_in}
use Rattle.patterns.specs.Positions.{size, first, last}
use Rattle.positions.specs.declared.Fragment.{Fragment}
use Rattle.positions.specs.Memory.{Work, member, roomy, between, goes_round, Sequence, Repeats, Copied, copiable, moved_up}
use Rattle.positions.specs.declared.Repeat.{Repeat}
use Rattle.positions.specs.declared.Repeat.TheVariants.{Many, Some, Maybe}
use Rattle.positions.specs.Laid.{Laid, made}
use Rattle.positions.proofs.Sets.{between_below, between_past, copiable_parts}
use Rattle.positions.proofs.Lays.{laid_then, laid_repeats, laid_copied}
use Rattle.grammar.specs.declared.Interval.{Interval}
use Rattle.grammar.specs.Expressions.{copy_of, side_by_side, extra}
use Rattle.grammar.proofs.Sizes.{copy_size, side_size}
use Rattle.expressions.specs.Frames.{Outside, Marked, Forms, Placed, Copies}
use Rattle.expressions.proofs.Frames.{outside_refl, outside_trans, outside_wider, laid_outside, outside_linked}

pub size_made : (r : Repeat) (e : Expression) → size (made r e) ≡ size e
size_made Many e = refl
size_made Some e = refl
size_made Maybe e = refl

pub placed_marked : (i : Interval) (k : ℕ) (r : Repeat) (w w' : Work) (x f : Fragment) → Marked i k r → 1024 ≤ length w → Repeats r w w' x f → Forms i k w w' x f
placed_marked i k r w w' x f h room s e a l =
    let o : Outside a (a + size e) w w' = outside_linked e a w x l w' (goes_round r && roomy w) x.first.words (λ n q. s.memory n q ∙ regroup (member w n q) (goes_round r) (roomy w) _ _) in
    let b : a + size e ≤ a + size (copy_of i k e) = omega (arith, copy_size i k e) in
    record {
      laid = subst (λ (g : Expression). Laid w' g a f) (sym (h e)) (laid_repeats l room s);
      outside = outside_wider _ _ _ _ w w' (omega arith) b o;
    }
  where
    regroup : (m x y z v : Bool) → (m || ((x && (y && z)) && v)) ≡ (m || (((x && y) && z) && v))
    regroup m true y z v = refl
    regroup m false y z v = refl

pub size_pos : (e : Expression) → 0 < size e
size_pos (Takes f) = omega arith
size_pos (Then e f) = omega (arith, size_pos e)
size_pos (Either e f) = omega (arith, size_pos e)
size_pos (expression.Many e) = size_pos e
size_pos (expression.Some e) = size_pos e
size_pos (expression.Maybe e) = size_pos e

-- only the copied positions change
module _ (w w' : Work) (from n by : ℕ) (x f : Fragment) (s : Copied w w' from n by x f) where
  here : (b c d : Bool) (y z v : Bool) → c ≡ false → d ≡ false → cond (b && c) y (cond (b && d) z v) ≡ v
  here true c d y z v p q = rw (p, q)
  here false c d y z v p q = refl

  nowhere : (b c d : Bool) (y z v : Bool) → b ≡ false → cond (b && c) y (cond (b && d) z v) ≡ v
  nowhere b c d y z v p = rw p

  unchanged : (k q : ℕ) → (copiable w from n by ≡ true → (between (from + by) (from + n + by) k ≡ false) × (between (512 + from + by) (512 + from + n + by) k ≡ false)) → member w' k q ≡ member w k q
  unchanged k q h =
      s.memory k q
      ∙ elim (cases_Bool (copiable w from n by)) [
        | inl t ↦ here _ _ _ _ _ _ (h t).0 (h t).1
        | inr t ↦ nowhere _ _ _ _ _ _ t
      ]

  off : (low end k : ℕ) → (k < low) ⊎ (end ≤ k) → between low end k ≡ false
  off low end k (inl h) = between_below low end k h
  off low end k (inr h) = between_past low end k h

  pub outside_copied : Outside (from + by) (from + by + n) w w'
  outside_copied = record {
    bytes = λ p q h o. unchanged p q (λ t. (off _ _ p (elim o [ inl l ↦ inl l | inr g ↦ inr (omega arith) ]), off _ _ p (inl (omega arith))));
    order = λ p q h o. unchanged (512 + p) q (λ t.
        let c = copiable_parts w from n by t in
        (off _ _ (512 + p) (inr (omega (arith, c.2))), off _ _ (512 + p) (elim o [ inl l ↦ inl (omega arith) | inr g ↦ inr (omega arith) ])));
    others = λ k q h. unchanged k q (λ t.
        let c = copiable_parts w from n by t in
        (off _ _ k (inr (omega (arith, c.2))), off _ _ k (inr (omega (arith, c.2)))));
  }

  pub same_copied : by < n → (k q : ℕ) → member w' k q ≡ member w k q
  same_copied lt k q = unchanged k q (λ t. absurd (omega (arith, (copiable_parts w from n by t).1)))

-- copy k of e, in its own place
pub placed_copied : (e : Expression) (base k : ℕ) (w w' : Work) (x f : Fragment) → Laid w e base x → 1024 ≤ length w → base + suc k * size e ≤ 512
    → Copied w w' base (size e) (k * size e) x f → Placed e (base + k * size e) w w' f
placed_copied e base zero w w' x f l room h s =
    let z : 0 * size e ≡ 0 = zero-mul (size e) in
    let p = size_pos e in
    let same = same_copied w w' base (size e) (0 * size e) x f s (omega (arith, z, p)) in
    let b : base + 0 * size e ≡ base = omega (arith, z) in
    record { laid = subst (λ (a : ℕ). Laid w' e a f) (sym b) (back same); outside = outside_copied w w' base (size e) (0 * size e) x f s }
  where
    up : (t : List ℕ) (q : ℕ) → (512 ≤ q → has t q ≡ false) → moved_up t (0 * size e) q ≡ has t q
    up t q g = rw (zero-mul (size e)) (at (cases_Bool (ltb q 512)))
      where
        at : (ltb q 512 ≡ true) ⊎ (ltb q 512 ≡ false) → (ltb q 512 && (leb 0 q && has t (q - 0))) ≡ has t q
        at (inl y) = let z : q - 0 ≡ q = omega arith in let n : leb 0 q ≡ true = le-leb 0 q (omega arith) in rw (y, z, n)
        at (inr y) = rw y (sym (g (ltb-false q 512 y)))

    past_first : (q : ℕ) → 512 ≤ q → has x.first.words q ≡ false
    past_first q g = l.begins q ∙ false_from_ne_true (first e base q) (λ t. omega (arith, (first_in e base q t).1, l.within))

    past_last : (q : ℕ) → 512 ≤ q → has x.last.words q ≡ false
    past_last q g = l.ends q ∙ false_from_ne_true (last e base q) (λ t. omega (arith, (last_in e base q t).1, l.within))

    back : ((k q : ℕ) → member w' k q ≡ member w k q) → Laid w' e base f
    back same = record {
      within = l.within;
      empty = s.nullable ∙ l.empty;
      begins = λ q. s.first q ∙ up x.first.words q (past_first q) ∙ l.begins q;
      ends = λ q. s.last q ∙ up x.last.words q (past_last q) ∙ l.ends q;
      bytes = λ p b c d t. same p b ∙ l.bytes p b c d t;
      order = λ p q c d. same (512 + p) q ∙ l.order p q c d;
    }
placed_copied e base (suc k) w w' x f l room h s =
    let step = suc-mul k (size e) in
    let next = suc-mul (suc k) (size e) in
    record {
      laid = laid_copied l room (omega (arith, step)) (omega (arith, next)) s;
      outside = outside_copied w w' base (size e) (suc k * size e) x f s;
    }

-- before the turn for copy k - 1: the copies from k on are laid down, and e itself is as it was
pub record Turn (i : Interval) (e : Expression) (base last : ℕ) (x : Fragment) (w₀ w : Work) (k : ℕ) (all : Fragment) : Type 0 where
  pub below : k ≤ last
  pub copies : Laid w (side_by_side i e k (last - k)) (base + k * size e) all
  pub original : 0 < k → Laid w e base x
  pub outside : Outside base (base + suc last * size e) w₀ w

-- one more copy in front
module _ (i : Interval) (e : Expression) (base last : ℕ) (x : Fragment) (w₀ w w₁ w₂ w₃ : Work) (k : ℕ) (all copy next more : Fragment) where
  pub turn : Turn i e base last x w₀ w (suc k) all → 1024 ≤ length w₂
      → Outside (base + k * size e) (base + k * size e + size e) w w₁ → Laid w₁ e (base + k * size e) copy
      → Outside (base + k * size e) (base + k * size e + size e) w₁ w₂ → Laid w₂ (copy_of i k e) (base + k * size e) next
      → Sequence w₂ w₃ next all more → Turn i e base last x w₀ w₃ k more
  turn t room o₁ c₁ o₂ c₂ s =
      let n = size e in
      let m = k * n in
      let step : suc k * n ≡ m + n = suc-mul k n in
      let c = copy_size i k e in
      let kl : suc k ≤ last = t.below in
      let rest : last - k ≡ suc (last - suc k) = omega arith in
      let at : base + suc k * n ≡ base + m + size (copy_of i k e) = omega (arith, step, c) in
      let high : Laid w₂ (side_by_side i e (suc k) (last - suc k)) (base + suc k * n) all =
      laid_outside _ _ _ _ w₁ w₂ all (laid_outside _ _ _ _ w w₁ all t.copies o₁ (inr (omega (arith, step)))) o₂ (inr (omega (arith, step))) in
      let high' : Laid w₂ (side_by_side i e (suc k) (last - suc k)) (base + m + size (copy_of i k e)) all = subst (λ (a : ℕ). Laid w₂ (side_by_side i e (suc k) (last - suc k)) a all) at high in
      let joined : Laid w₃ (Then (copy_of i k e) (side_by_side i e (suc k) (last - suc k))) (base + m) more = laid_then c₂ high' room s in
      let o₃ : Outside (base + m) (base + m + size (copy_of i k e)) w₂ w₃ = outside_linked (copy_of i k e) (base + m) w₂ next c₂ w₃ _ _ s.memory in
      let o₃' : Outside (base + m) (base + m + n) w₂ w₃ = outside_wider _ _ _ _ w₂ w₃ (omega arith) (omega (arith, c)) o₃ in
      let o : Outside (base + m) (base + m + n) w w₃ = outside_trans _ _ w w₁ w₃ o₁ (outside_trans _ _ w₁ w₂ w₃ o₂ o₃') in
      let bound : base + m + n ≤ base + suc last * n = bounded k last n base kl in
      record {
        below = omega arith;
        copies = subst (λ (j : ℕ). Laid w₃ (side_by_side i e k j) (base + m) more) (sym rest) joined;
        original = λ h. laid_outside e base _ _ w w₃ x (t.original (omega arith)) o (inl (apart k n h));
        outside = outside_trans _ _ w₀ w w₃ t.outside (outside_wider _ _ _ _ w w₃ (omega arith) bound o);
      }
    where
      bounded : (k last n base : ℕ) → suc k ≤ last → base + k * n + n ≤ base + suc last * n
      bounded k last n base h = omega (arith, suc-mul k n, mul-le-mul_right {m = suc k} {n = suc last} n (omega arith))

      apart : (k n : ℕ) → 0 < k → base + n ≤ base + k * n
      apart k n h = omega (arith, suc-mul 0 n, zero-mul n, mul-le-mul_right {m = 1} {n = k} n h)

-- the same turn, as the code makes it
pub again : (i : Interval) (e : Expression) (base last n : ℕ) (x : Fragment) (w₀ w w₁ w₂ w₃ : Work) (k m : ℕ) (all copy next more : Fragment)
    → suc m ≡ k → size e ≡ n → base + suc last * n ≤ 512 → 1024 ≤ length w → 1024 ≤ length w₂
    → Turn i e base last x w₀ w k all → Copied w w₁ base n (m * n) x copy → Forms i m w₁ w₂ copy next → Sequence w₂ w₃ next all more
    → Turn i e base last x w₀ w₃ m more
again i e base last n x w₀ w w₁ w₂ w₃ k m all copy next more km se bound room room₂ t s f j =
    let t' : Turn i e base last x w₀ w (suc m) all = subst (λ (h : ℕ). Turn i e base last x w₀ w h all) (sym km) t in
    let s' : Copied w w₁ base (size e) (m * size e) x copy = subst (λ (h : ℕ). Copied w w₁ base h (m * h) x copy) (sym se) s in
    let fits : suc m * size e ≤ suc last * n = subst (λ (h : ℕ). suc m * h ≤ suc last * n) (sym se) (mul-le-mul_right n (omega (arith, t'.below))) in
    let c : Placed e (base + m * size e) w w₁ copy = placed_copied e base m w w₁ x copy (t'.original (omega arith)) room (omega arith) s' in
    let g : Placed (copy_of i m e) (base + m * size e) w₁ w₂ next = f e (base + m * size e) c.laid in
    let o : Outside (base + m * size e) (base + m * size e + size e) w₁ w₂ = outside_wider _ _ _ _ w₁ w₂ (omega arith) (omega (arith, copy_size i m e)) g.outside in
    turn i e base last x w₀ w w₁ w₂ w₃ m all copy next more t' room₂ c.outside c.laid o g.laid j

-- the last copy, before the turns; and all copies, after them
pub all_copies : (i : Interval) (base last n k : ℕ) (x : Fragment) (w w₁ w₂ w₃ : Work) (copy start all : Fragment)
    → last ≡ extra i → k ≤ 0 → 1024 ≤ length w → Copied w w₁ base n (last * n) x copy → Forms i last w₁ w₂ copy start
    → ((e : Expression) → size e ≡ n → Turn i e base last x w₂ w₂ last start → Turn i e base last x w₂ w₃ k all)
    → Copies i base n w w₃ x all
all_copies i base last n k x w w₁ w₂ w₃ copy start all le kz room s f turns e l se bound =
    let s' : Copied w w₁ base (size e) (last * size e) x copy = subst (λ (h : ℕ). Copied w w₁ base h (last * h) x copy) (sym se) s in
    let b : base + suc last * size e ≤ 512 = subst (λ (h : ℕ). base + suc last * h ≤ 512) (sym se) (subst (λ (h : ℕ). base + suc h * n ≤ 512) (sym le) bound) in
    let c : Placed e (base + last * size e) w w₁ copy = placed_copied e base last w w₁ x copy l room b s' in
    let g : Placed (copy_of i last e) (base + last * size e) w₁ w₂ start = f e (base + last * size e) c.laid in
    let o : Outside (base + last * size e) (base + last * size e + size e) w w₂ =
    outside_trans _ _ w w₁ w₂ c.outside (outside_wider _ _ _ _ w₁ w₂ (omega arith) (omega (arith, copy_size i last e)) g.outside) in
    let z : last - last ≡ 0 = omega arith in
    let first : Turn i e base last x w₂ w₂ last start = record {
      below = omega arith;
      copies = subst (λ (j : ℕ). Laid w₂ (side_by_side i e last j) (base + last * size e) start) (sym z) g.laid;
      original = λ h. laid_outside e base _ _ w w₂ x l o (inl (omega (arith, suc-mul 0 (size e), zero-mul (size e), mul-le-mul_right {m = 1} {n = last} (size e) h)));
      outside = outside_refl _ _ w₂;
    } in
    let done : Turn i e base last x w₂ w₃ 0 all = subst (λ (h : ℕ). Turn i e base last x w₂ w₃ h all) (omega arith) (turns e se first) in
    let at : base + 0 * size e ≡ base = omega (arith, zero-mul (size e)) in
    let whole : Laid w₃ (side_by_side i e 0 last) base all =
    subst (λ (a : ℕ). Laid w₃ (side_by_side i e 0 last) a all) at (subst (λ (j : ℕ). Laid w₃ (side_by_side i e 0 j) (base + 0 * size e) all) (omega arith) done.copies) in
    let size_is : size (side_by_side i e 0 last) ≡ suc last * size e = omega (arith, side_size i e last 0, suc-mul last (size e)) in
    let wide : Outside base (base + suc last * size e) w w₂ = outside_wider _ _ _ _ w w₂ (omega arith) (omega (arith, suc-mul last (size e))) o in
    let all-out : Outside base (base + size (side_by_side i e 0 last)) w w₃ =
    subst (λ (m : ℕ). Outside base (base + m) w w₃) (sym size_is) (outside_trans _ _ w w₂ w₃ wide done.outside) in
    subst (λ (j : ℕ). Placed (side_by_side i e 0 j) base w w₃ all) le record { laid = whole; outside = all-out }
