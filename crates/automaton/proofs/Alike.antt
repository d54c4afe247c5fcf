-- Rows that are the same sets, place by place, are not told apart.
use Rattle.std.proofs.Common.{◌≡◌, ℕ, zero, suc, Bool, true, false, cond, ◌||◌, List, [], ◌∷◌, ◌++◌, length, get_or, refl, ap, inl, inr, arith}
use Rattle.std.proofs.lemmas.Bool.{cases_lt}
use Rattle.grammar.specs.File.{RuleText}
use Rattle.automaton.specs.Sets.{Set, empty, same}
use Rattle.automaton.specs.Automaton.{leads}
use Rattle.automaton.specs.Numbering.{stored, place, number, meet, meet_all, none, leads_from, grown}
use Rattle.automaton.specs.Theorems.{Alike}
use Rattle.automaton.proofs.Members.{same_refl, same_both, same_empty, same_leads}
use Rattle.automaton.proofs.Meeting.{grown_end, grown_stop, grown_step}

pub alike_same : (rs : List Set) → Alike rs rs
alike_same rs = record { as_many = refl; at_places = λ k. same_refl (get_or rs k none) }

pub alike_cons : (s t : Set) (ss ts : List Set) → same s t ≡ true → Alike ss ts → Alike (s ∷ ss) (t ∷ ts)
alike_cons s t ss ts h k = record { as_many = ap suc k.as_many; at_places = at }
  where
    at : (i : ℕ) → same (get_or (s ∷ ss) i none) (get_or (t ∷ ts) i none) ≡ true
    at zero = h
    at (suc i) = k.at_places i

-- by recursion on both
pub alike_all : (P : List Set → List Set → Type 0) → P [] [] → ((s t : Set) (ss ts : List Set) → same s t ≡ true → P ss ts → P (s ∷ ss) (t ∷ ts)) → (ss ts : List Set) → Alike ss ts → P ss ts
alike_all P base more [] [] k = base
alike_all P base more [] (t ∷ ts) k = absurd (omega (arith, k.as_many))
alike_all P base more (s ∷ ss) [] k = absurd (omega (arith, k.as_many))
alike_all P base more (s ∷ ss) (t ∷ ts) k =
    more s t ss ts (k.at_places 0)
    (alike_all P base more ss ts (record { as_many = omega (arith, k.as_many); at_places = λ i. k.at_places (suc i) }))

module _ (rs us : List Set) (s t : Set) (k : Alike rs us) (h : same s t ≡ true) where
  pub alike_stored : stored rs s ≡ stored us t
  alike_stored = alike_all (λ xs ys. stored xs s ≡ stored ys t) refl (λ x y xs ys e ih. rw (same_both x y s t e h, ih)) rs us k

  pub alike_place : place rs s ≡ place us t
  alike_place = alike_all (λ xs ys. place xs s ≡ place ys t) refl (λ x y xs ys e ih. rw (same_both x y s t e h, ih)) rs us k

  pub alike_number : number rs s ≡ number us t
  alike_number = rw (same_empty s t h, alike_place)

  alike_last : Alike (rs ++ (s ∷ [])) (us ++ (t ∷ []))
  alike_last =
      alike_all (λ xs ys. Alike (xs ++ (s ∷ [])) (ys ++ (t ∷ []))) (alike_cons s t [] [] h (alike_same []))
      (λ x y xs ys e ih. alike_cons x y (xs ++ (s ∷ [])) (ys ++ (t ∷ [])) e ih) rs us k

  pub alike_meet : Alike (meet rs s) (meet us t)
  alike_meet = rw (same_empty s t h, alike_stored) (at (empty t || stored us t))
    where
      at : (b : Bool) → Alike (cond b rs (rs ++ (s ∷ []))) (cond b us (us ++ (t ∷ [])))
      at true = k
      at false = alike_last

pub alike_meet_all : (rs us ss ts : List Set) → Alike rs us → Alike ss ts → Alike (meet_all rs ss) (meet_all us ts)
alike_meet_all rs us ss ts k h =
    alike_all (λ xs ys. (ps qs : List Set) → Alike ps qs → Alike (meet_all ps xs) (meet_all qs ys)) (λ ps qs m. m)
    (λ s t xs ys e ih ps qs m. ih (meet ps s) (meet qs t) (alike_meet ps qs s t m e)) ss ts h rs us k

module _ (qs : List RuleText) where
  pub alike_leads_from : (s t : Set) (b n : ℕ) → same s t ≡ true → Alike (leads_from qs s b n) (leads_from qs t b n)
  unfolding leads_from
  alike_leads_from s t b zero h = alike_same []
  alike_leads_from s t b (suc n) h =
      alike_cons (leads qs s b) (leads qs t b) (leads_from qs s (suc b) n) (leads_from qs t (suc b) n) (same_leads qs s t b h) (alike_leads_from s t (suc b) n h)

  pub alike_grown : (most n k : ℕ) (rs us : List Set) → Alike rs us → Alike (grown qs most n k rs) (grown qs most n k us)
  alike_grown most zero k rs us h = rw (grown_end qs most k rs, grown_end qs most k us) h
  alike_grown most (suc n) k rs us h = elim (cases_lt k (length rs)) [
    | inr past ↦ rw (grown_stop qs most (suc n) k rs (inl past), grown_stop qs most (suc n) k us (inl (omega (arith, h.as_many)))) h
    | inl here ↦ elim (cases_lt most (length rs)) [
      | inl many ↦ rw (grown_stop qs most (suc n) k rs (inr many), grown_stop qs most (suc n) k us (inr (omega (arith, h.as_many)))) h
      | inr few ↦
          let ss : List Set = leads_from qs (get_or rs k none) 0 256 in
          let ts : List Set = leads_from qs (get_or us k none) 0 256 in
          rw (grown_step qs most n k rs here few, grown_step qs most n k us (omega (arith, h.as_many)) (omega (arith, h.as_many)))
          (alike_grown most n (suc k) (meet_all rs ss) (meet_all us ts) (alike_meet_all rs us ss ts h (alike_leads_from (get_or rs k none) (get_or us k none) 0 256 (h.at_places k))))
    ]
  ]
