-- The starts of conditions are met and written.
use Rattle.std.proofs.Common.{◌≡◌, ℕ, ◌+◌, ◌-◌, ◌<◌, ◌≤◌, ◌≢◌, Bool, true, false, List, [], ◌++◌, length, set, sym, refl, ap, ◌∙◌, subst, inl, inr, zero-add, arith, get_or-set_other, get_or-set_same, length-set}
use Rattle.std.proofs.lemmas.Bool.{cases_eq}
use Rattle.positions.specs.Memory.{Work}
use Rattle.grammar.specs.File.{RuleText}
use Rattle.table.specs.declared.loaded.Loaded.{Loaded}
use Rattle.loader.specs.Held.{RulesHold}
use Rattle.automaton.specs.Sets.{Set}
use Rattle.automaton.specs.Automaton.{start_set}
use Rattle.automaton.specs.Numbering.{number, meet, meet_all, starts}
use Rattle.automaton.specs.Theorems.{Known}
use Rattle.automaton.proofs.Meeting.{Front, front_trans, front_length, front_known, meet_front, meet_known, meet_all_append, meet_all_front, starts_append}
use Rattle.table.specs.Memory.{start_at}
use Rattle.loader.specs.declared.Met.{Met}
use Rattle.loader.specs.declared.MetStart.{MetStart}
use Rattle.loader.specs.Load.{start_of}
use Rattle.loader.specs.Machine.{Machine}
use Rattle.loader.specs.Building.{rows_of, Stored, MetAs, StartMet, OnlyStarts, StartsWritten}
use Rattle.loader.proofs.Entering.{front_number}

-- both starts of a condition
module _ (qs : List RuleText) (rs : List Set) (c : ℕ) (f t : Set) (f-is : f ≡ start_set qs 0 c false) (t-is : t ≡ start_set qs 0 c true) where
  both_is : meet (meet rs f) t ≡ meet (meet rs (start_set qs 0 c false)) (start_set qs 0 c true)
  both_is = ap (λ (x : Set). meet (meet rs x) t) f-is ∙ ap (meet (meet rs (start_set qs 0 c false))) t-is

  pub first_full : (n : ℕ) → n < length (meet rs f) → n < length (meet (meet rs (start_set qs 0 c false)) (start_set qs 0 c true))
  first_full n h = omega (arith, ap length both_is, front_length (meet rs f) (meet (meet rs f) t) (meet_front (meet rs f) t))

  module _ (w w' : Work) (x : Met) (a : MetAs rs f w x) where
    second_is : meet (rows_of w x.count) t ≡ meet (meet rs (start_set qs 0 c false)) (start_set qs 0 c true)
    second_is = ap (λ (us : List Set). meet us t) a.rows ∙ both_is

    pub second_full : (n : ℕ) → n < length (meet (rows_of w x.count) t) → n < length (meet (meet rs (start_set qs 0 c false)) (start_set qs 0 c true))
    second_full n h = omega (arith, ap length second_is)

    pub start_met : (y : Met) → MetAs (rows_of w x.count) t w' y → StartMet qs rs c (rows_of w' y.count) (record { inside = x.number; at_line_start = y.number })
    start_met y b = record {
      rows = b.rows ∙ second_is;
      start = start_is;
      known = known;
    }
      where
        us : List Set
        us = rows_of w' y.count

        front : Front (rows_of w x.count) us
        front = subst (Front (rows_of w x.count)) (sym b.rows) (meet_front (rows_of w x.count) t)

        f-known : Known (rows_of w x.count) f
        f-known = subst (λ (vs : List Set). Known vs f) (sym a.rows) (meet_known rs f)

        t-known : Known us t
        t-known = subst (λ (vs : List Set). Known vs t) (sym b.rows) (meet_known (rows_of w x.count) t)

        inside_is : x.number ≡ number us (start_set qs 0 c false)
        inside_is = a.number ∙ ap (λ (vs : List Set). number vs f) (sym a.rows) ∙ sym (front_number (rows_of w x.count) us front f f-known) ∙ ap (number us) f-is

        line_is : y.number ≡ number us (start_set qs 0 c true)
        line_is = b.number ∙ ap (λ (vs : List Set). number vs t) (sym b.rows) ∙ ap (number us) t-is

        start_is : record { inside = x.number; at_line_start = y.number } ≡ start_of qs us c
        start_is = ap (λ (i : ℕ). record { inside = i; at_line_start = y.number }) inside_is ∙ ap (λ (j : ℕ). record { inside = number us (start_set qs 0 c false); at_line_start = j }) line_is

        known : (line : Bool) → Known us (start_set qs 0 c line)
        known false = subst (Known us) f-is (front_known (rows_of w x.count) us front f f-known)
        known true = subst (Known us) t-is t-known

-- the starts of the first c conditions are written
pub record Starting (m : Work) (w : Work) (count c : ℕ) (l₀ l : Loaded) : Type 0 where
  pub stored : Stored w count
  pub only : OnlyStarts l₀ l
  pub so_far : (qs : List RuleText) → Machine m l₀.rule_count qs → RulesHold l₀.rules qs → StartsWritten qs c (rows_of w count) l₀ l

starts_none : (qs : List RuleText) → starts qs 0 0 ≡ []
starts_none qs = refl

pub starting_start : (m w : Work) (l : Loaded) → length w ≤ 1024 → Starting m w 0 0 l l
starting_start m w l h = record {
  stored = record { room = omega arith; most = h; whole = λ k lt. absurd (omega arith); filled = λ k lt. absurd (omega arith); apart = λ j k less lt. absurd (omega arith) };
  only = record { as_many = refl; rules = refl; rule_count = refl; condition_count = refl; row_count = refl };
  so_far = λ qs a b. record {
    rows = refl;
    each = λ c lt. absurd (omega arith);
    known = λ c line lt. absurd (omega arith);
    behind = λ c le. refl;
  };
}

pub start_of_more : (qs : List RuleText) (us vs : List Set) (c : ℕ) → Front us vs → ((line : Bool) → Known us (start_set qs 0 c line)) → start_of qs us c ≡ start_of qs vs c
start_of_more qs us vs c f k =
    ap (λ (i : ℕ). record { inside = i; at_line_start = number us (start_set qs 0 c true) }) (sym (front_number us vs f (start_set qs 0 c false) (k false)))
    ∙ ap (λ (j : ℕ). record { inside = number vs (start_set qs 0 c false); at_line_start = j }) (sym (front_number us vs f (start_set qs 0 c true) (k true)))

module _ (m w : Work) (count c : ℕ) (l₀ l : Loaded) (g : Starting m w count c l₀ l) where
  -- the rules are as they were
  pub machine_then : (qs : List RuleText) → Machine m l₀.rule_count qs → Machine m l.rule_count qs
  machine_then qs a = subst (λ (n : ℕ). Machine m n qs) (sym g.only.rule_count) a

  pub rules_then : (qs : List RuleText) → RulesHold l₀.rules qs → RulesHold l.rules qs
  rules_then qs h = subst (λ rs. RulesHold rs qs) (sym g.only.rules) h

  module _ (qs : List RuleText) (a : Machine m l₀.rule_count qs) (b : RulesHold l₀.rules qs) where
    abbrev before : List Set
    before = rows_of w count

    both : meet (meet before (start_set qs 0 c false)) (start_set qs 0 c true) ≡ meet_all [] (starts qs 0 (c + 1))
    both =
        ap (λ (us : List Set). meet (meet us (start_set qs 0 c false)) (start_set qs 0 c true)) (g.so_far qs a b).rows
        ∙ sym (ap (meet_all []) (starts_append qs 0 c 1 ∙ ap (λ (d : ℕ). starts qs 0 c ++ starts qs d 1) (zero-add c)) ∙ meet_all_append [] (starts qs 0 c) (starts qs c 1))

    pub starting_full : (n all : ℕ) → c < all → n < length (meet (meet before (start_set qs 0 c false)) (start_set qs 0 c true)) → n < length (meet_all [] (starts qs 0 all))
    starting_full n all lt h =
        let d : ℕ = all - (c + 1) in
        let e : starts qs 0 all ≡ starts qs 0 (c + 1) ++ starts qs (0 + (c + 1)) d = ap (starts qs 0) (omega arith) ∙ starts_append qs 0 (c + 1) d in
        omega (
          arith,
          ap length both,
          ap (λ (ts : List Set). length (meet_all [] ts)) e,
          ap length (meet_all_append [] (starts qs 0 (c + 1)) (starts qs (0 + (c + 1)) d)),
          front_length (meet_all [] (starts qs 0 (c + 1))) (meet_all (meet_all [] (starts qs 0 (c + 1))) (starts qs (0 + (c + 1)) d)) (meet_all_front (meet_all [] (starts qs 0 (c + 1))) (starts qs (0 + (c + 1)) d)),
        )

    module _ (w' : Work) (x : MetStart) (h : StartMet qs before c (rows_of w' x.count) x.start) (room : c < length l.starts) where
      abbrev us : List Set
      us = rows_of w' x.count

      front : Front before us
      front = subst (Front before) (sym h.rows) (front_trans before (meet before (start_set qs 0 c false)) (meet (meet before (start_set qs 0 c false)) (start_set qs 0 c true)) (meet_front before (start_set qs 0 c false)) (meet_front (meet before (start_set qs 0 c false)) (start_set qs 0 c true)))

      abbrev l' : Loaded
      l' = record l { starts = set l.starts c x.start }

      each : (d : ℕ) → d < c + 1 → start_at l' d ≡ start_of qs us d
      each d lt = elim (cases_eq d c) [
        | inl e ↦ subst (λ (i : ℕ). start_at l' i ≡ start_of qs us i) (sym e) (get_or-set_same l.starts c x.start _ room ∙ h.start)
        | inr ne ↦
            let other : d ≢ c = ne in
            get_or-set_other l.starts c d x.start _ other
            ∙ (g.so_far qs a b).each d (omega arith)
            ∙ start_of_more qs before us d front (λ line. (g.so_far qs a b).known d line (omega arith))
      ]

      known : (d : ℕ) (line : Bool) → d < c + 1 → Known us (start_set qs 0 d line)
      known d line lt = elim (cases_eq d c) [
        | inl e ↦ subst (λ (i : ℕ). Known us (start_set qs 0 i line)) (sym e) (h.known line)
        | inr ne ↦ front_known before us front (start_set qs 0 d line) ((g.so_far qs a b).known d line (omega arith))
      ]

      starts_more : StartsWritten qs (c + 1) us l₀ l'
      starts_more = record {
        rows = h.rows ∙ both;
        each = each;
        known = known;
        behind = λ d le. let other : d ≢ c = omega arith in get_or-set_other l.starts c d x.start _ other ∙ (g.so_far qs a b).behind d (omega arith);
      }

  pub starting_more : (w' : Work) (x : MetStart) → c < length l.starts → Stored w' x.count → ((qs : List RuleText) → Machine m l.rule_count qs → RulesHold l.rules qs → StartMet qs (rows_of w count) c (rows_of w' x.count) x.start)
      → Starting m w' x.count (c + 1) l₀ (record l { starts = set l.starts c x.start })
  starting_more w' x room s f = record {
    stored = s;
    only = record { as_many = length-set l.starts c x.start ∙ g.only.as_many; rules = g.only.rules; rule_count = g.only.rule_count; condition_count = g.only.condition_count; row_count = g.only.row_count };
    so_far = λ qs a b. starts_more qs a b w' x (f qs (machine_then qs a) (rules_then qs b)) room;
  }
