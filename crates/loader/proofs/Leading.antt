-- Where one byte leads, and where the byte behind it leads.
use Rattle.std.proofs.Common.{◌≡◌, ℕ, ◌+◌, ◌<◌, true, false, ◌&&◌, List, length, sym, ap, ◌∙◌, subst}
use mathlib.Core.Path.{fun_ext}
use Rattle.std.proofs.lemmas.Bool.{or_left}
use Rattle.bits.specs.declared.Bits.{Bits}
use Rattle.bits.specs.Set.{has}
use Rattle.positions.specs.Memory.{Work, member}
use Rattle.automaton.specs.Sets.{Set, empty}
use Rattle.automaton.specs.Numbering.{stored, number, meet}
use Rattle.automaton.specs.Theorems.{Known}
use Rattle.automaton.proofs.Members.{some_false, empty_from}
use Rattle.automaton.proofs.Meeting.{meet_known, meet_old, number_empty}
use Rattle.loader.specs.declared.Met.{Met}
use Rattle.loader.specs.declared.Lead.{Lead}
use Rattle.loader.specs.Machine.{members, behind_of, live_in, leads_in}
use Rattle.loader.specs.Building.{rows_of, Stored, MetAs, Led, LeadsOn}

module _ (m : Work) (rs : List Set) (s : Set) (b : ℕ) (w' : Work) (live : Bits 8) (now : (p : ℕ) → has live.words p ≡ live_in m s b p) where
  live_is : members live ≡ live_in m s b
  live_is = fun_ext now

  module _ (follow : Bits 8) (then : (t : ℕ) → has follow.words t ≡ behind_of m (members live) t) where
    follow_is : members follow ≡ behind_of m (members live)
    follow_is = fun_ext then

    leads_is : members follow ≡ leads_in m s b
    leads_is = follow_is ∙ ap (behind_of m) live_is

    pub leads_further : (x : Met) → MetAs rs (members follow) w' x → LeadsOn m rs s b w' (record { live = live; number = x.number; count = x.count })
    leads_further x h = record {
      rows = h.rows ∙ ap (meet rs) leads_is;
      led = record {
        known = subst (λ (t : Set). Known (rows_of w' x.count) t) follow_is (subst (λ (us : List Set). Known us (members follow)) (sym h.rows) (meet_known rs (members follow)));
        number = h.number ∙ ap (λ (us : List Set). number us (members follow)) (sym h.rows) ∙ ap (number (rows_of w' x.count)) follow_is;
      };
      live = now;
      stored = h.stored;
    }

    pub leads_full : length w' < length (meet rs (members follow)) → length w' < length (meet rs (leads_in m s b))
    leads_full h = subst (λ (t : Set). length w' < length (meet rs t)) leads_is h

nowhere_empty : (m : Work) (live : Set) → ((p : ℕ) → live p ≡ false) → empty (behind_of m live) ≡ true
unfolding behind_of
nowhere_empty m live h = empty_from (behind_of m live) (λ t lt. some_false 512 (λ p. live p && member m (512 + p) t) (λ p small. rw (h p)))

-- nothing comes behind no positions
pub led_nowhere : (m : Work) (rs : List Set) (l : Lead) → l.number ≡ 0 → ((p : ℕ) → members l.live p ≡ false) → Led m rs l
led_nowhere m rs l number-is none =
    let e = nowhere_empty m (members l.live) none in
    record {
      known = or_left (empty (behind_of m (members l.live))) (stored rs (behind_of m (members l.live))) e;
      number = number-is ∙ sym (number_empty rs (behind_of m (members l.live)) e);
    }

-- the same positions as for the byte before
pub leads_same : (m : Work) (w : Work) (s : Set) (b : ℕ) (l : Lead) → Stored w l.count → Led m (rows_of w l.count) l → ((p : ℕ) → has l.live.words p ≡ live_in m s b p)
    → LeadsOn m (rows_of w l.count) s b w l
leads_same m w s b l h k f =
    let e : behind_of m (members l.live) ≡ leads_in m s b = ap (behind_of m) (fun_ext f) in
    record {
      rows = sym (meet_old (rows_of w l.count) (leads_in m s b) (subst (λ (t : Set). Known (rows_of w l.count) t) e k.known));
      led = k;
      live = f;
      stored = h;
    }

-- no position takes the byte
pub leads_nowhere : (m : Work) (w : Work) (n : ℕ) (s : Set) (b : ℕ) (l : Lead) → Stored w n → l.count ≡ n → l.number ≡ 0 → ((p : ℕ) → members l.live p ≡ false) → ((p : ℕ) → live_in m s b p ≡ false)
    → LeadsOn m (rows_of w n) s b w l
leads_nowhere m w n s b l h count-is number-is none dead =
    subst (λ (i : ℕ). LeadsOn m (rows_of w i) s b w l) count-is
    (leads_same m w s b l (subst (Stored w) (sym count-is) h) (led_nowhere m (rows_of w l.count) l number-is none) (λ p. none p ∙ sym (dead p)))
