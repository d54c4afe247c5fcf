-- A mark with an expression behind it, and such parts joined to the pattern of a rule.
use Rattle.std.proofs.Common.{◌≡◌, ℕ, ◌+◌, ◌/◌, ◌<◌, ◌≤◌, Bool, false, ◌&&◌, ◌||◌, eqb, ltb, List, length, Some, None, Ok, Option, sym, refl, ap, ◌∙◌, subst, inl, inr, arith}
use mathlib.Core.Bool.{or-false, and-true}
use Rattle.std.proofs.lemmas.Bool.{cases_lt, lt-ltb}
use Rattle.std.proofs.lemmas.Grind.{common_steps}
use Rattle.bits.specs.Set.{has}
use Rattle.bits.specs.declared.Bits.{Bits}
use Rattle.patterns.specs.Expression.{Expression}
use Rattle.patterns.specs.Positions.{size, nullable, takes, first, last, follows}
use Rattle.patterns.proofs.Ranges.{takes_out, last_out, follows_out}
use Rattle.positions.specs.Memory.{Work, member, Linked}
use Rattle.positions.specs.Laid.{Kept}
use Rattle.positions.proofs.Sets.{word_room}
use Rattle.positions.proofs.Links.{linked_order, linked_low, kept_linked}
use Rattle.positions.proofs.Lays.{kept_trans, kept_less, laid_kept}
use Rattle.expressions.specs.declared.Parsed.{Parsed}
use Rattle.expressions.specs.Lays.{parsed_as}
use Rattle.grammar.specs.Outcome.{Out, then}
use Rattle.grammar.specs.Expressions as grammar
use Rattle.grammar.specs.Expressions.{alternation_at}
use Rattle.grammar.specs.File.{trailing_at, pattern_at}
use Rattle.loader.specs.declared.rules.RuleSets.{RuleSets}
use Rattle.automaton.specs.Pattern.{pattern_size, pattern_takes, pattern_after, slash}
use Rattle.loader.specs.Marks.{Unjoined, MarkedRead, Keeps, Joined, TrailingGives, PatternRead}
use Rattle.loader.proofs.Sets.{rules_kept, rules_kept_less}

module _ {w : Work} {a : ℕ} {e : Expression} {r : Parsed} (u : Unjoined w a e r) where
  -- the mark takes no byte, and nothing comes after it: what e says of it, too
  unjoined_bytes : (p b : ℕ) → a ≤ p → p < a + 1 + size e → b < 256 → member w p b ≡ takes e (a + 1) p b
  unjoined_bytes p b h t c =
      elim (cases_lt a p) [
        | inl past ↦ u.laid.bytes p b (omega arith) t c
        | inr at ↦ let here : p ≡ a = omega arith in rw (here, takes_out e (a + 1) a b (inl (omega arith))) (u.mark_bytes b)
      ]

  unjoined_order : (p q : ℕ) → a ≤ p → p < a + 1 + size e → member w (512 + p) q ≡ follows e (a + 1) p q
  unjoined_order p q h t =
      elim (cases_lt a p) [
        | inl past ↦ u.laid.order p q (omega arith) t
        | inr at ↦ let here : p ≡ a = omega arith in rw (here, follows_out e (a + 1) a q (inl (omega arith))) (u.mark_order q)
      ]

  no_last : (p : ℕ) → p < a + 1 → has r.part.last.words p ≡ false
  no_last p h = u.laid.ends p ∙ last_out e (a + 1) p (inl h)

  -- what is written behind it leaves it as it is
  unjoined_kept : {w' : Work} → Kept r.used w w' → Unjoined w' a e r
  unjoined_kept k =
      let n = u.counts in
      record {
        mark_bytes = λ b. k.bytes a b (omega arith) ∙ u.mark_bytes b;
        mark_order = λ q. k.order a q (omega arith) ∙ u.mark_order q;
        laid = laid_kept u.laid (kept_less (omega arith) k);
        counts = n;
      }

-- what was kept before the pattern was joined is kept still
pub joined_kept : {a i : ℕ} {w v w' : Work} {r : Expression} {x : Option Expression} → Kept a w v → Joined a i v w' r x → Joined a i w w' r x
joined_kept k j = record { laid = j.laid; kept = rules_kept k j.kept }

-- the marks of positions have room
alone : (ws : List ℕ) (n : ℕ) → n < 512 → ((q : ℕ) → has ws q ≡ (eqb q n && ltb (n / 64) 8)) → (q : ℕ) → has ws q ≡ eqb q n
alone ws n h is q = let room = word_room n ∙ lt-ltb n 512 h in rw (is q, room, and-true) refl

-- r alone, its last positions linked to the end mark
module _ (w v w' : Work) (a k : ℕ) (e : Expression) (r : Parsed) (s : RuleSets) (low : a < 512) (big : 1024 ≤ length w)
    (linked : Linked w v r.part.last.words s.ends.words) (keeps : Keeps k v w' s) (u : Unjoined w a e r)
    (starts : s.firsts ≡ r.part.first) (put : (q : ℕ) → has s.ends.words q ≡ (eqb q a && ltb (a / 64) 8))
    (no-trail : (q : ℕ) → has s.trail.words q ≡ false) (no-slash : (q : ℕ) → has s.slashes.words q ≡ false) where
  end_mark : (q : ℕ) → has s.ends.words q ≡ eqb q a
  end_mark = alone s.ends.words a low put

  alone_order : (p q : ℕ) → a ≤ p → p < a + 1 + size e → member v (512 + p) q ≡ (follows e (a + 1) p q || (last e (a + 1) p && eqb q a))
  alone_order p q h l =
      let top = u.laid.within in
      let after = linked_order w v r.part.last.words s.ends.words linked p q big (omega arith) in
      rw (after, unjoined_order u p q h l, u.laid.ends p, end_mark q) refl

  pub joined_alone : Joined a k w w' e None
  joined_alone =
      let top = u.laid.within in
      let linked-kept = kept_linked w v r.part.last.words s.ends.words linked (a + 1) (omega (arith, u.laid.within)) (no_last u) in
      record {
        laid = record {
          within = omega arith;
          bytes = λ p b h l c.
              keeps.kept.bytes p b (omega arith)
              ∙ linked_low w v r.part.last.words s.ends.words linked p b (omega arith)
              ∙ unjoined_bytes u p b h (omega arith) c
              ∙ sym (or-false (takes e (a + 1) p b));
          order = λ p q h l.
              keeps.kept.order p q (omega arith)
              ∙ alone_order p q h (omega arith)
              ∙ ap (λ (z : Bool). follows e (a + 1) p q || z) (sym (or-false (last e (a + 1) p && eqb q a)));
          starts = λ q. keeps.starts q ∙ ap (λ (f : Bits 8). has f.words q) starts ∙ u.laid.begins q;
          trails = λ q. keeps.trails q ∙ no-trail q;
          ends = λ q. keeps.ends q ∙ end_mark q;
          slashes = λ q. keeps.slashes q ∙ no-slash q;
        };
        kept = rules_kept (kept_less (omega arith) linked-kept) (rules_kept_less (omega arith) keeps.kept);
      }

-- r with a trailing part x, both still by themselves in w
module _ {w : Work} {a : ℕ} {e g : Expression} {r x : Parsed} (m : Unjoined w a e r) (y : Unjoined w (slash e a) g x) where
  two_bytes : (p b : ℕ) → a ≤ p → p < a + pattern_size e (Some g) → b < 256 → member w p b ≡ pattern_takes e (Some g) a p b
  two_bytes p b h l c =
      elim (cases_lt p (slash e a)) [
        | inl less ↦ rw (takes_out g (slash e a + 1) p b (inl (omega arith)), or-false) (unjoined_bytes m p b h less c)
        | inr past ↦ rw (takes_out e (a + 1) p b (inr past)) (unjoined_bytes y p b past (omega arith) c)
      ]

  two_order : (p q : ℕ) → a ≤ p → p < a + pattern_size e (Some g) → member w (512 + p) q ≡ (follows e (a + 1) p q || follows g (slash e a + 1) p q)
  two_order p q h l =
      elim (cases_lt p (slash e a)) [
        | inl less ↦ rw (follows_out g (slash e a + 1) p q (inl (omega arith)), or-false) (unjoined_order m p q h less)
        | inr past ↦ rw (follows_out e (a + 1) p q (inr past)) (unjoined_order y p q past (omega arith))
      ]

-- the last positions of r linked to what is behind it, and those of x to the end mark
module _ (w u v w' : Work) (a k : ℕ) (e g : Expression) (r x : Parsed) (behind : List ℕ) (s : RuleSets) (low : a < 512) (big : 1024 ≤ length w) (big' : 1024 ≤ length u)
    (one : Linked w u r.part.last.words behind) (two : Linked u v x.part.last.words s.ends.words) (keeps : Keeps k v w' s)
    (m : Unjoined w a e r) (after : Unjoined w r.used g x)
    (starts : s.firsts ≡ r.part.first) (put : (q : ℕ) → has s.ends.words q ≡ (eqb q a && ltb (a / 64) 8))
    (put' : (q : ℕ) → has s.slashes.words q ≡ (eqb q r.used && ltb (r.used / 64) 8))
    (trail_is : (q : ℕ) → has s.trail.words q ≡ (has x.part.first.words q || (x.part.nullable && has s.ends.words q)))
    (behind_is : (q : ℕ) → has behind q ≡ (has s.trail.words q || has s.slashes.words q)) where
  -- the slash mark is where r ends
  y : Unjoined w (slash e a) g x
  y = subst (λ (n : ℕ). Unjoined w n g x) m.counts after

  end_is : (q : ℕ) → has s.ends.words q ≡ eqb q a
  end_is = alone s.ends.words a low put

  slash_is : (q : ℕ) → has s.slashes.words q ≡ eqb q (slash e a)
  slash_is = let top = after.laid.within in subst (λ (n : ℕ). (q : ℕ) → has s.slashes.words q ≡ eqb q n) m.counts (alone s.slashes.words r.used (omega arith) put')

  trail_starts : (q : ℕ) → has s.trail.words q ≡ (first g (slash e a + 1) q || (nullable g && eqb q a))
  trail_starts q = rw (trail_is q, y.laid.begins q, y.laid.empty, end_is q) refl

  trailing_kept : Kept (a + 1) w v
  trailing_kept =
      let top = m.laid.within in
      kept_trans
      (kept_linked w u r.part.last.words behind one (a + 1) (omega arith) (no_last m))
      (kept_linked u v x.part.last.words s.ends.words two (a + 1) (omega arith) (λ p h. no_last y p (omega arith)))

  trailing_low : (p q : ℕ) → p < 512 → member v p q ≡ member w p q
  trailing_low p q h =
      linked_low u v x.part.last.words s.ends.words two p q h ∙ linked_low w u r.part.last.words behind one p q h

  trailing_order : (p q : ℕ) → a ≤ p → p < a + pattern_size e (Some g) → member v (512 + p) q ≡ pattern_after e (Some g) a p q
  trailing_order p q h l =
      let top = y.laid.within in
      let first-link = linked_order w u r.part.last.words behind one p q big (omega arith) in
      let second-link = linked_order u v x.part.last.words s.ends.words two p q big' (omega arith) in
      grind (arith, common_steps, first-link, second-link, two_order m y p q h l, m.laid.ends p, y.laid.ends p, end_is q, behind_is q, trail_starts q, slash_is q)

  pub joined_trailing : Joined a k w w' e (Some g)
  joined_trailing =
      let top = y.laid.within in
      record {
        laid = record {
          within = omega arith;
          bytes = λ p b h l c. keeps.kept.bytes p b (omega arith) ∙ trailing_low p b (omega arith) ∙ two_bytes m y p b h l c;
          order = λ p q h l. keeps.kept.order p q (omega arith) ∙ trailing_order p q h l;
          starts = λ q. keeps.starts q ∙ ap (λ (f : Bits 8). has f.words q) starts ∙ m.laid.begins q;
          trails = λ q. keeps.trails q ∙ trail_starts q;
          ends = λ q. keeps.ends q ∙ end_is q;
          slashes = λ q. keeps.slashes q ∙ slash_is q;
        };
        kept = rules_kept (kept_less (omega arith) trailing_kept) (rules_kept_less (omega arith) keeps.kept);
      }

-- the pattern as it is read: r, and behind it x or nothing
module _ (s : List ℕ) (n a k : ℕ) (w u v w' : Work) (r : Parsed) (m : MarkedRead (alternation_at s n (a + 1)) a w u r) where
  is_trailed : pattern_at s n (a + 1) ≡ trailing_at s (parsed_as r m.tree)
  is_trailed = ap (λ (o : Out grammar.Parsed). then o (trailing_at s)) m.is

  pub read_alone : (o : Option Parsed) → o ≡ None → TrailingGives (trailing_at s (parsed_as r m.tree)) m.tree r u v (Ok o)
      → ((e : Expression) → Unjoined v a e r → Joined a k v w' e None)
      → PatternRead (pattern_at s n (a + 1)) a k w w' (record { value = r.used; next = r.at })
  read_alone o none gives join =
      let c = m.unjoined.counts in
      let t = subst (λ (z : Option Parsed). TrailingGives (trailing_at s (parsed_as r m.tree)) m.tree r u v (Ok z)) none gives in
      let j = join m.tree (subst (λ (z : Work). Unjoined z a m.tree r) (sym t.1) m.unjoined) in
      record {
        pattern = record { expression = m.tree; trailing = None; at = r.at; used = r.used };
        is = is_trailed ∙ t.0;
        at = refl;
        used = refl;
        counts = omega arith;
        joined = joined_kept m.kept (subst (λ (z : Work). Joined a k z w' m.tree None) t.1 j);
      }

  pub read_trailing : (o : Option Parsed) (x : Parsed) → o ≡ Some x → TrailingGives (trailing_at s (parsed_as r m.tree)) m.tree r u v (Ok o)
      → ((e g : Expression) → Unjoined v a e r → Unjoined v r.used g x → Joined a k v w' e (Some g))
      → PatternRead (pattern_at s n (a + 1)) a k w w' (record { value = x.used; next = x.at })
  read_trailing o x some gives join =
      let c = m.unjoined.counts in
      let t = subst (λ (z : Option Parsed). TrailingGives (trailing_at s (parsed_as r m.tree)) m.tree r u v (Ok z)) some gives in
      let d = t.unjoined.counts in
      record {
        pattern = record { expression = m.tree; trailing = Some t.tree; at = x.at; used = x.used };
        is = is_trailed ∙ t.is;
        at = refl;
        used = refl;
        counts = omega arith;
        joined = joined_kept (kept_trans m.kept (kept_less (omega arith) t.kept)) (join m.tree t.tree (unjoined_kept m.unjoined t.kept) t.unjoined);
      }
