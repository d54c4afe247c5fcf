-- A rule line, and the rules one behind another.
use Rattle.std.proofs.Common.{◌≡◌, ℕ, zero, suc, ◌+◌, ◌<◌, ◌≤◌, Bool, true, false, cond, ◌||◌, List, [], ◌∷◌, ◌++◌, length, replicate, set, Ok, sym, refl, ap, ◌∙◌, subst, arith}
use Rattle.std.proofs.lemmas.List.{length-map, length-replicate}
use Rattle.std.proofs.lemmas.Grind.{common_steps}
use Rattle.bits.specs.Set.{has, Whole}
use Rattle.bits.specs.declared.Bits.{Bits}
use Rattle.positions.specs.Memory.{Work}
use Rattle.grammar.specs.declared.Read.{Read}
use Rattle.grammar.specs.declared.Step.{Step}
use Rattle.grammar.specs.Outcome.{Out, then}
use Rattle.grammar.specs.Bytes.{stands}
use Rattle.grammar.specs.Conditions.{Conditions}
use Rattle.grammar.specs.File as file
use Rattle.grammar.specs.File.{RuleText, rule_size, all_positions, pattern_at, behind_pattern, behind_active, rule_of}
use Rattle.conditions.specs.Known.{picked}
use Rattle.actions.specs.declared.steps.Steps.{Steps}
use Rattle.actions.specs.Steps.{taken}
use Rattle.table.specs.declared.loaded.Loaded.{Loaded}
use Rattle.table.specs.declared.loaded.Rule.{Rule}
use Rattle.loader.specs.Laid.{PatternLaid, RulesLaid, RulesKept}
use Rattle.loader.specs.Marks.{PatternRead}
use Rattle.loader.specs.Held.{RuleHolds, RulesHold, trails_of}
use Rattle.loader.specs.Sections.{steps_behind, LineRead}

abbrev pub started : List ℕ → ℕ → ℕ
started s n = cond (stands s n 94) (n + 1) n

pub body_is : (s : List ℕ) (c : Conditions) (u : ℕ) (a : Read (ℕ → Bool)) → behind_active s c u a ≡ then (pattern_at s (started s a.next) (u + 1)) (behind_pattern s c a (stands s a.next 94))
body_is s c u a = grind (arith, common_steps)

behind_is : (s : List ℕ) (c : Conditions) (a : Read (ℕ → Bool)) (b : Bool) (p : file.Pattern) → behind_pattern s c a b p ≡ then (steps_behind s c p.at) (rule_of a b p)
behind_is s c a b p = grind (arith, common_steps)

twice : (b : Bool) → (b || b) ≡ b
twice true = refl
twice false = refl

-- a pattern and an action make a rule
module _ (s : List ℕ) (c : Conditions) (u k : ℕ) (w w' : Work) (a : Read (Bits 1)) (p : Read ℕ) (q : PatternRead (pattern_at s (started s a.next) (u + 1)) u k w w' p) where
  -- as the pattern is read
  body_so_far : behind_active s c u (picked a) ≡ then (steps_behind s c p.next) (rule_of (picked a) (stands s a.next 94) q.pattern)
  body_so_far =
      body_is s c u (picked a)
      ∙ ap (λ (o : Out file.Pattern). then o (behind_pattern s c (picked a) (stands s a.next 94))) q.is
      ∙ behind_is s c (picked a) (stands s a.next 94) q.pattern
      ∙ ap (λ (n : ℕ). then (steps_behind s c n) (rule_of (picked a) (stands s a.next 94) q.pattern)) (sym q.at)

  pub body_reads : (t : Steps) (b : Bool) (v : Bits 1) → k < 64 → b ≡ stands s a.next 94 → Ok (taken t) ≡ steps_behind s c p.next
      → ((n : ℕ) → has v.words n ≡ (has a.value.words n || has a.value.words n)) → Whole 1 v.words
      → LineRead (behind_active s c u (picked a)) u k w w' (record { rule = record { conditions = v; anchored = b; trail = 0; steps = t.list }; used = p.value })
  body_reads t b v few b-is e members whole =
      let made : RuleText = record { active = has a.value.words; anchored = stands s a.next 94; expression = q.pattern.expression; trailing = q.pattern.trailing; steps = taken t } in
      record {
        rule = made;
        is =
            body_so_far
            ∙ ap (λ (o : Out (List Step)). then o (rule_of (picked a) (stands s a.next 94) q.pattern)) (sym e)
            ∙ ap (λ (n : ℕ). Ok (record { rule = made; used = n })) (sym q.used);
        few = few;
        holds = record { active = λ n. members n ∙ twice (has a.value.words n); whole = whole; anchored = b-is; steps = t.padded };
        trail = refl;
        counts = q.counts;
        laid = q.joined.laid;
        kept = q.joined.kept;
      }

-- the rules so far are left as they were
pattern_kept : (w w' : Work) (a i b j : ℕ) (q : RuleText) → PatternLaid w q.expression q.trailing a i → RulesKept b j w w' → a + rule_size q ≤ b → i < j → PatternLaid w' q.expression q.trailing a i
pattern_kept w w' a i b j q l k h lt = record {
  within = l.within;
  bytes = λ p n c d e. k.bytes p n (omega arith) ∙ l.bytes p n c d e;
  order = λ p n c d. k.order p n (omega arith) ∙ l.order p n c d;
  starts = λ n. k.starts i n lt ∙ l.starts n;
  trails = λ n. k.trails i n lt ∙ l.trails n;
  ends = λ n. k.ends i n lt ∙ l.ends n;
  slashes = λ n. k.slashes i n lt ∙ l.slashes n;
}

-- all of them, in memory that goes on past them
pub laid_kept : (w w' : Work) (i a : ℕ) (qs : List RuleText) → RulesLaid w i a qs → RulesKept 512 64 w w' → i + length qs ≤ 64 → RulesLaid w' i a qs
laid_kept w w' i a [] l k h = tt
laid_kept w w' i a (q ∷ qs) l k h =
    let top = l.0.within in
    (pattern_kept w w' a i 512 64 q l.0 k (omega arith) (omega arith), laid_kept w w' (suc i) (a + rule_size q) qs l.1 k (omega arith))

-- and one more is laid down behind them, as rule j from position b on
pub laid_more : (w w' : Work) (i a b j : ℕ) (qs : List RuleText) (q : RuleText) → b ≡ a + all_positions qs → j ≡ i + length qs
    → RulesLaid w i a qs → RulesKept b j w w' → PatternLaid w' q.expression q.trailing b j → RulesLaid w' i a (qs ++ (q ∷ []))
laid_more w w' i a b j [] q b-is j-is l k p =
    let x : b ≡ a = omega arith in
    let y : j ≡ i = omega arith in
    (subst (PatternLaid w' q.expression q.trailing a) y (subst (λ (m : ℕ). PatternLaid w' q.expression q.trailing m j) x p), tt)
laid_more w w' i a b j (h ∷ qs) q b-is j-is l k p =
    (pattern_kept w w' a i b j h l.0 k (omega arith) (omega arith), laid_more w w' (suc i) (a + rule_size h) b j qs q (omega arith) (omega arith) l.1 k p)

-- in the loaded memory
pub holds_more : (rs : List Rule) (qs : List RuleText) (j : ℕ) (r : Rule) (q : RuleText) → j ≡ length qs → RulesHold rs qs → j < length rs → RuleHolds r q → RulesHold (set rs j r) (qs ++ (q ∷ []))
holds_more [] qs j r q e h lt k = absurd (omega arith)
holds_more (x ∷ rs) [] zero r q e h lt k = (k, (cc))
holds_more (x ∷ rs) [] (suc j) r q e h lt k = absurd (omega arith)
holds_more (x ∷ rs) (y ∷ qs) zero r q e h lt k = absurd (omega arith)
holds_more (x ∷ rs) (y ∷ qs) (suc j) r q e h lt k = (h.0, holds_more rs qs j r q (omega arith) h.1 (omega arith) k)

-- there are 64 places for rules
pub places : (l : Loaded) → trails_of l ≡ replicate 64 0 → length l.rules ≡ 64
places l e = sym (length-map l.rules (λ (r : Rule). r.trail)) ∙ ap length e ∙ length-replicate {A = ℕ} 64 0

pub held_few : (rs : List Rule) (qs : List RuleText) → RulesHold rs qs → length qs ≤ length rs
held_few [] [] h = omega arith
held_few (r ∷ rs) [] h = omega arith
held_few [] (q ∷ qs) h = absurd h
held_few (r ∷ rs) (q ∷ qs) h = omega (arith, held_few rs qs h.1)
