-- The trail starts of rules are met and written.
use Rattle.std.proofs.Common.{◌≡◌, ℕ, zero, suc, ◌+◌, ◌-◌, ◌<◌, ◌≢◌, List, [], ◌∷◌, ◌++◌, length, get_or, set, sym, refl, ap, ◌∙◌, subst, inl, inr, zero-add, arith, get_or-set_other, get_or-set_same, length-set}
use Rattle.std.proofs.lemmas.Bool.{cases_eq}
use Rattle.positions.specs.Memory.{Work}
use Rattle.grammar.specs.File.{RuleText}
use Rattle.table.specs.declared.loaded.Rule.{Rule}
use Rattle.table.specs.declared.loaded.Loaded.{Loaded}
use Rattle.loader.specs.Held.{RulesHold}
use Rattle.automaton.specs.Sets.{Set}
use Rattle.automaton.specs.Automaton.{trail_set}
use Rattle.automaton.specs.Numbering.{number, meet, meet_all, trails}
use Rattle.automaton.specs.Theorems.{Known}
use Rattle.automaton.proofs.Meeting.{Front, front_length, front_known, meet_front, meet_known, meet_all_append, meet_all_front, trails_append}
use Rattle.table.specs.Memory.{rule_at}
use Rattle.loader.specs.declared.Met.{Met}
use Rattle.loader.specs.Load.{trail_of}
use Rattle.loader.specs.Machine.{set_at, Machine}
use Rattle.loader.specs.Building.{rows_of, Stored, MetAs, OnlyTrails, TrailsWritten}
use Rattle.loader.proofs.Entering.{front_number}

-- a rule with its trail start
abbrev pub with_trail : Rule → ℕ → Rule
with_trail r t = record { conditions = r.conditions; anchored = r.anchored; trail = t; steps = r.steps }

-- a rule is held whatever its trail start is
trail_held : (rs : List Rule) (qs : List RuleText) (i t : ℕ) (d : Rule) → RulesHold rs qs → i < length qs → RulesHold (set rs i (with_trail (get_or rs i d) t)) qs
trail_held rs [] i t d h lt = absurd (omega arith)
trail_held [] (q ∷ qs) i t d h lt = absurd h
trail_held (r ∷ rs) (q ∷ qs) zero t d h lt = (record { active = h.0.active; whole = h.0.whole; anchored = h.0.anchored; steps = h.0.steps }, h.1)
trail_held (r ∷ rs) (q ∷ qs) (suc i) t d h lt = (h.0, trail_held rs qs i t d h.1 (omega arith))

-- the trail starts of the first i rules are written
pub record Trailing (m : Work) (rs : List Set) (w : Work) (count i : ℕ) (l₀ l : Loaded) : Type 0 where
  pub stored : Stored w count
  pub only : OnlyTrails l₀ l
  pub so_far : (qs : List RuleText) → Machine m l₀.rule_count qs → RulesHold l₀.rules qs → TrailsWritten qs rs i (rows_of w count) l₀ l

pub trailing_start : (m w : Work) (count : ℕ) (l : Loaded) → Stored w count → Trailing m (rows_of w count) w count 0 l l
trailing_start m w count l h = record {
  stored = h;
  only = record { as_many = refl; starts = refl; rule_count = refl; condition_count = refl; row_count = refl };
  so_far = λ qs a b. record {
    rows = refl;
    each = λ i lt. absurd (omega arith);
    known = λ i lt. absurd (omega arith);
    behind = λ i le. refl;
    rules = b;
  };
}

module _ (m : Work) (rs : List Set) (w : Work) (count i : ℕ) (l₀ l : Loaded) (g : Trailing m rs w count i l₀ l) (lt : i < l₀.rule_count) where
  abbrev s : Set
  s = set_at m (1088 + i)

  abbrev before : List Set
  before = rows_of w count

  module _ (qs : List RuleText) (a : Machine m l₀.rule_count qs) (b : RulesHold l₀.rules qs) where
    met_is : meet before s ≡ meet_all rs (trails qs 0 (i + 1))
    met_is =
        ap (meet before) (a.trails i lt)
        ∙ ap (λ (us : List Set). meet us (trail_set qs 0 i)) (g.so_far qs a b).rows
        ∙ sym (ap (meet_all rs) (trails_append qs 0 i 1 ∙ ap (λ (d : ℕ). trails qs 0 i ++ trails qs d 1) (zero-add i)) ∙ meet_all_append rs (trails qs 0 i) (trails qs i 1))

    pub trailing_full : (n : ℕ) → n < length (meet before s) → n < length (meet_all rs (trails qs 0 (length qs)))
    trailing_full n h =
        let d : ℕ = length qs - (i + 1) in
        let e : trails qs 0 (length qs) ≡ trails qs 0 (i + 1) ++ trails qs (0 + (i + 1)) d = ap (trails qs 0) (omega (arith, a.count)) ∙ trails_append qs 0 (i + 1) d in
        omega (
          arith,
          ap length met_is,
          ap (λ (ts : List Set). length (meet_all rs ts)) e,
          ap length (meet_all_append rs (trails qs 0 (i + 1)) (trails qs (0 + (i + 1)) d)),
          front_length (meet_all rs (trails qs 0 (i + 1))) (meet_all (meet_all rs (trails qs 0 (i + 1))) (trails qs (0 + (i + 1)) d)) (meet_all_front (meet_all rs (trails qs 0 (i + 1))) (trails qs (0 + (i + 1)) d)),
        )

    module _ (w' : Work) (x : Met) (h : MetAs before s w' x) (room : i < length l.rules) (d : Rule) where
      abbrev us : List Set
      us = rows_of w' x.count

      front : Front before us
      front = subst (Front before) (sym h.rows) (meet_front before s)

      abbrev l' : Loaded
      l' = record l { rules = set l.rules i (with_trail (get_or l.rules i d) x.number) }

      s_known : Known us (trail_set qs 0 i)
      s_known = subst (Known us) (a.trails i lt) (subst (λ (vs : List Set). Known vs s) (sym h.rows) (meet_known before s))

      number_is : x.number ≡ trail_of qs us i
      number_is = h.number ∙ ap (λ (vs : List Set). number vs s) (sym h.rows) ∙ ap (number us) (a.trails i lt)

      each : (j : ℕ) → j < i + 1 → (rule_at l' j).trail ≡ trail_of qs us j
      each j less = elim (cases_eq j i) [
        | inl e ↦ subst (λ (k : ℕ). (rule_at l' k).trail ≡ trail_of qs us k) (sym e) (ap (λ (r : Rule). r.trail) (get_or-set_same l.rules i (with_trail (get_or l.rules i d) x.number) _ room) ∙ number_is)
        | inr ne ↦
            let other : j ≢ i = ne in
            ap (λ (r : Rule). r.trail) (get_or-set_other l.rules i j (with_trail (get_or l.rules i d) x.number) _ other)
            ∙ (g.so_far qs a b).each j (omega arith)
            ∙ sym (front_number before us front (trail_set qs 0 j) ((g.so_far qs a b).known j (omega arith)))
      ]

      known : (j : ℕ) → j < i + 1 → Known us (trail_set qs 0 j)
      known j less = elim (cases_eq j i) [
        | inl e ↦ subst (λ (k : ℕ). Known us (trail_set qs 0 k)) (sym e) s_known
        | inr ne ↦ front_known before us front (trail_set qs 0 j) ((g.so_far qs a b).known j (omega arith))
      ]

      trails_more : TrailsWritten qs rs (i + 1) us l₀ l'
      trails_more = record {
        rows = h.rows ∙ met_is;
        each = each;
        known = known;
        behind = λ j le. let other : j ≢ i = omega arith in ap (λ (r : Rule). r.trail) (get_or-set_other l.rules i j (with_trail (get_or l.rules i d) x.number) _ other) ∙ (g.so_far qs a b).behind j (omega arith);
        rules = trail_held l.rules qs i x.number d (g.so_far qs a b).rules (omega (arith, a.count));
      }

  pub trailing_more : (w' : Work) (x : Met) (d : Rule) → i < length l.rules → MetAs before s w' x
      → Trailing m rs w' x.count (i + 1) l₀ (record l { rules = set l.rules i (with_trail (get_or l.rules i d) x.number) })
  trailing_more w' x d room h = record {
    stored = h.stored;
    only = record { as_many = length-set l.rules i (with_trail (get_or l.rules i d) x.number) ∙ g.only.as_many; starts = g.only.starts; rule_count = g.only.rule_count; condition_count = g.only.condition_count; row_count = g.only.row_count };
    so_far = λ qs a b. trails_more qs a b w' x h room d;
  }
