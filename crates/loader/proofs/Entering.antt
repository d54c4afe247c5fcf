-- The entries of a row, byte after byte.
use Rattle.std.proofs.Common.{◌≡◌, ℕ, ◌+◌, ◌-◌, ◌<◌, ◌≤◌, false, ◌&&◌, ◌≢◌, List, [], ◌∷◌, ◌++◌, length, get_or, set, sym, refl, ap, ◌∙◌, subst, inl, inr, zero-add, arith, get_or-set_other, get_or-set_same}
use mathlib.Core.Path.{fun_ext}
use Rattle.std.proofs.lemmas.Bool.{cases_eq}
use Rattle.positions.specs.Memory.{Work, member}
use Rattle.grammar.specs.File.{RuleText}
use Rattle.automaton.specs.Sets.{Set}
use Rattle.automaton.specs.Automaton.{leads}
use Rattle.automaton.specs.Numbering.{number, meet, meet_all, leads_from}
use Rattle.automaton.specs.Theorems.{Known}
use Rattle.automaton.proofs.Meeting.{Front, front_length, front_known, number_append, meet_old, meet_front, meet_all_append, meet_all_front, leads_from_append}
use Rattle.loader.specs.declared.Lead.{Lead}
use Rattle.loader.specs.Machine.{members, behind_of, leads_in, Machine}
use Rattle.loader.specs.Building.{rows_of, Stored, Led, LeadsOn, Entered}
use Rattle.loader.proofs.Leading.{led_nowhere}

-- a number that is known stays as rows are added
pub front_number : (rs us : List Set) → Front rs us → (s : Set) → Known rs s → number us s ≡ number rs s
front_number rs us h s k = ap (λ (xs : List Set). number xs s) h.1 ∙ number_append rs h.0 s k

module _ (qs : List RuleText) (s : Set) where
  pub leads_from_none : (b : ℕ) → leads_from qs s b 0 ≡ []
  unfolding leads_from
  leads_from_none b = refl

  leads_from_one : (b : ℕ) → leads_from qs s b 1 ≡ leads qs s b ∷ []
  unfolding leads_from
  leads_from_one b = refl

  pub leads_from_last : (n : ℕ) → leads_from qs s 0 (n + 1) ≡ leads_from qs s 0 n ++ (leads qs s n ∷ [])
  leads_from_last n = leads_from_append qs s 0 n 1 ∙ ap (λ (ts : List Set). leads_from qs s 0 n ++ ts) (ap (λ (c : ℕ). leads_from qs s c 1) (zero-add n) ∙ leads_from_one n)

  pub met_last : (rs : List Set) (n : ℕ) → meet_all rs (leads_from qs s 0 (n + 1)) ≡ meet (meet_all rs (leads_from qs s 0 n)) (leads qs s n)
  met_last rs n = ap (meet_all rs) (leads_from_last n) ∙ meet_all_append rs (leads_from qs s 0 n) (leads qs s n ∷ [])

  -- those met of some bytes are at the front of those met of all
  pub met_front : (rs : List Set) (n m : ℕ) → n ≤ m → Front (meet_all rs (leads_from qs s 0 n)) (meet_all rs (leads_from qs s 0 m))
  met_front rs n m le =
      let d : ℕ = m - n in
      let e : leads_from qs s 0 m ≡ leads_from qs s 0 n ++ leads_from qs s (0 + n) d = ap (leads_from qs s 0) (omega arith) ∙ leads_from_append qs s 0 n d in
      subst (Front (meet_all rs (leads_from qs s 0 n))) (sym (ap (meet_all rs) e ∙ meet_all_append rs (leads_from qs s 0 n) (leads_from qs s (0 + n) d)))
      (meet_all_front (meet_all rs (leads_from qs s 0 n)) (leads_from qs s (0 + n) d))

-- the first b bytes of a row are entered
pub record Entering (m : Work) (rs : List Set) (s : Set) (w : Work) (l : Lead) (next : List ℕ) (b : ℕ) : Type 0 where
  pub stored : Stored w l.count
  pub led : Led m (rows_of w l.count) l
  pub entered : (qs : List RuleText) (n : ℕ) → Machine m n qs → Entered qs rs s b (rows_of w l.count) next

pub entering_start : (m : Work) (s : Set) (w : Work) (n : ℕ) (l : Lead) (next : List ℕ) → Stored w n → l.count ≡ n → l.number ≡ 0 → ((p : ℕ) → members l.live p ≡ false)
    → Entering m (rows_of w n) s w l next 0
entering_start m s w n l next h count-is number-is none =
    record {
      stored = subst (Stored w) (sym count-is) h;
      led = led_nowhere m (rows_of w l.count) l number-is none;
      entered = λ qs k a. record {
        rows = ap (rows_of w) count-is ∙ sym (ap (meet_all (rows_of w n)) (leads_from_none qs s 0));
        entries = λ b lt. absurd (omega arith);
      };
    }

-- one byte further
module _ (m : Work) (rs : List Set) (s : Set) (w : Work) (l : Lead) (next : List ℕ) (b : ℕ) (e : Entering m rs s w l next b) (w' : Work) (small : b < 256) where
  module _ (qs : List RuleText) (n : ℕ) (a : Machine m n qs) where
    met_is : meet (rows_of w l.count) (leads_in m s b) ≡ meet_all rs (leads_from qs s 0 (b + 1))
    met_is =
        ap (meet (rows_of w l.count)) (a.leading s b small)
        ∙ ap (λ (us : List Set). meet us (leads qs s b)) (e.entered qs n a).rows
        ∙ sym (met_last qs s rs b)

    pub entering_full : length w' < length (meet (rows_of w l.count) (leads_in m s b)) → length w' < length (meet_all rs (leads_from qs s 0 256))
    entering_full h = omega (arith, ap length met_is, front_length (meet_all rs (leads_from qs s 0 (b + 1))) (meet_all rs (leads_from qs s 0 256)) (met_front qs s rs (b + 1) 256 (omega arith)))

    module _ (l' : Lead) (h : LeadsOn m (rows_of w l.count) s b w' l') (room : b < length next) where
      abbrev us : List Set
      us = rows_of w' l'.count

      front : Front (rows_of w l.count) us
      front = subst (Front (rows_of w l.count)) (sym h.rows) (meet_front (rows_of w l.count) (leads_in m s b))

      leads_is : behind_of m (members l'.live) ≡ leads qs s b
      leads_is = ap (behind_of m) (fun_ext h.live) ∙ a.leading s b small

      entry : (c : ℕ) → c < b + 1 → (get_or (set next b l'.number) c 0 ≡ number us (leads qs s c)) × Known us (leads qs s c)
      entry c lt = elim (cases_eq c b) [
        | inl same ↦
            let at : get_or (set next b l'.number) b 0 ≡ l'.number = get_or-set_same next b l'.number 0 room in
            subst (λ (d : ℕ). (get_or (set next b l'.number) d 0 ≡ number us (leads qs s d)) × Known us (leads qs s d)) (sym same)
            (at ∙ h.led.number ∙ ap (number us) leads_is, subst (Known us) leads_is h.led.known)
        | inr other ↦
            let q = (e.entered qs n a).entries c (omega arith) in
            let ne : c ≢ b = other in
            (rw get_or-set_other (q.0 ∙ sym (front_number (rows_of w l.count) us front (leads qs s c) q.1)), front_known (rows_of w l.count) us front (leads qs s c) q.1)
      ]

      entered_more : Entered qs rs s (b + 1) us (set next b l'.number)
      entered_more = record { rows = h.rows ∙ met_is; entries = entry }

  pub entering_more : (l' : Lead) → LeadsOn m (rows_of w l.count) s b w' l' → b < length next → Entering m rs s w' l' (set next b l'.number) (b + 1)
  entering_more l' h room = record { stored = h.stored; led = h.led; entered = λ qs n a. entered_more qs n a l' h room }

-- a byte that leads where an earlier one does
module _ (m : Work) (rs : List Set) (s : Set) (w : Work) (l : Lead) (next : List ℕ) (b : ℕ) (e : Entering m rs s w l next b) (small : b < 256) (room : b < length next)
    (c : ℕ) (before : c < b) (takers : (p : ℕ) → member m (1280 + c) p ≡ member m (1280 + b) p)
  where
    leads_there : leads_in m s c ≡ leads_in m s b
    leads_there = ap (behind_of m) (fun_ext (λ p. ap (λ x. s p && x) (takers p)))

    module _ (qs : List RuleText) (n : ℕ) (a : Machine m n qs) where
      same_leads : leads qs s c ≡ leads qs s b
      same_leads = sym (a.leading s c (omega arith)) ∙ leads_there ∙ a.leading s b small

      known : Known (rows_of w l.count) (leads qs s b)
      known = subst (Known (rows_of w l.count)) same_leads ((e.entered qs n a).entries c before).1

      copied : (d : ℕ) → d < b + 1 → (get_or (set next b (get_or next c 0)) d 0 ≡ number (rows_of w l.count) (leads qs s d)) × Known (rows_of w l.count) (leads qs s d)
      copied d lt = elim (cases_eq d b) [
        | inl same ↦
            let at : get_or (set next b (get_or next c 0)) b 0 ≡ get_or next c 0 = get_or-set_same next b (get_or next c 0) 0 room in
            subst (λ (i : ℕ). (get_or (set next b (get_or next c 0)) i 0 ≡ number (rows_of w l.count) (leads qs s i)) × Known (rows_of w l.count) (leads qs s i)) (sym same)
            (at ∙ ((e.entered qs n a).entries c before).0 ∙ ap (number (rows_of w l.count)) same_leads, known)
        | inr other ↦ let ne : d ≢ b = other in rw get_or-set_other ((e.entered qs n a).entries d (omega arith))
      ]

      entered_copied : Entered qs rs s (b + 1) (rows_of w l.count) (set next b (get_or next c 0))
      entered_copied = record {
        rows = sym (meet_old (rows_of w l.count) (leads qs s b) known) ∙ ap (λ (us : List Set). meet us (leads qs s b)) (e.entered qs n a).rows ∙ sym (met_last qs s rs b);
        entries = copied;
      }

    pub entering_copied : Entering m rs s w l (set next b (get_or next c 0)) (b + 1)
    entering_copied = record { stored = e.stored; led = e.led; entered = λ qs n a. entered_copied qs n a }
