-- Rows that fit are the same in more room.
use Rattle.std.proofs.Common.{◌≡◌, ℕ, zero, suc, ◌+◌, ◌<◌, ◌≤◌, List, ◌++◌, length, get_or, sym, subst, ◌∙◌, inl, inr, arith}
use Rattle.std.proofs.lemmas.Bool.{cases_lt}
use Rattle.grammar.specs.File.{RuleText}
use Rattle.automaton.specs.Sets.{Set}
use Rattle.automaton.specs.Numbering.{meet_all, none, leads_from, grown, starts, trails, row_sets}
use Rattle.automaton.specs.Theorems.{RoomChangesNothing}
use Rattle.automaton.proofs.Meeting.{meet_all_length, grown_stop, grown_step, grown_keeps}

module _ (qs : List RuleText) (most more : ℕ) (le : most ≤ more) where
  no_shorter : (n k : ℕ) (rs : List Set) → length rs ≤ length (grown qs most n k rs)
  no_shorter n k rs = grown_keeps qs most (λ us. length rs ≤ length us) (λ us ss h. omega (arith, h, meet_all_length us ss)) n k rs (omega arith)

  alike : (a b k : ℕ) (rs : List Set) → most < k + a → more < k + b → length (grown qs most a k rs) ≤ most → grown qs more b k rs ≡ grown qs most a k rs
  alike zero b k rs few fewer fits =
      let done : length rs ≤ k = omega (arith, no_shorter zero k rs, few, fits) in
      grown_stop qs more b k rs (inl done) ∙ sym (grown_stop qs most zero k rs (inl done))
  alike (suc a) zero k rs few fewer fits =
      let done : length rs ≤ k = omega (arith, no_shorter (suc a) k rs, le, fewer, fits) in
      grown_stop qs more zero k rs (inl done) ∙ sym (grown_stop qs most (suc a) k rs (inl done))
  alike (suc a) (suc b) k rs few fewer fits = elim (cases_lt k (length rs)) [
    | inl here ↦
        let room : length rs ≤ most = omega (arith, fits, no_shorter (suc a) k rs) in
        let ts : List Set = meet_all rs (leads_from qs (get_or rs k none) 0 256) in
        let step : grown qs most (suc a) k rs ≡ grown qs most a (suc k) ts = grown_step qs most a k rs here room in
        grown_step qs more b k rs here (omega (arith, le, room))
        ∙ alike a b (suc k) ts (omega (arith, few)) (omega (arith, fewer)) (subst (λ (us : List Set). length us ≤ most) step fits)
        ∙ sym step
    | inr done ↦ grown_stop qs more (suc b) k rs (inl done) ∙ sym (grown_stop qs most (suc a) k rs (inl done))
  ]

pub room_changes_nothing : RoomChangesNothing
unfolding row_sets
room_changes_nothing qs conditions most more fits le =
    alike qs most more le (suc most) (suc more) 0 (meet_all _ (starts qs 0 conditions ++ trails qs 0 (length qs))) (omega arith) (omega arith) fits
