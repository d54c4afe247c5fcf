-- Expressions: each reading moves on within the text, counts the positions of its tree, and is refused within the text.
use Rattle.std.proofs.Common.{◌≡◌, ℕ, zero, suc, ◌+◌, ◌*◌, ◌<◌, ◌≤◌, Bool, true, false, cond, ◌&&◌, eqb, ltb, leb, List, length, get_or, Some, None, Option, refl, arith}
use Rattle.std.proofs.lemmas.Bool.{and_parts, ltb-true, leb-true, not-false}
use Rattle.patterns.specs.Expression.{Bytes, Expression, Then, Either}
use Rattle.patterns.specs.Expression as expression
use Rattle.patterns.specs.Positions.{size}
use Rattle.grammar.specs.declared.Interval.{Interval}
use Rattle.grammar.specs.declared.Read.{Read}
use Rattle.grammar.specs.Outcome.{Out, many}
use Rattle.grammar.specs.Bytes.{passes, stands, digit, digits, number}
use Rattle.grammar.specs.Expressions.{Parsed, Parser, starts_atom, one_of, only_byte, bytes_at, one_at, quoted_byte, in_quotes, joined_by, quoted_more, past_quote, quote_at, closed_group, group_by, atom_by, repeat_mark, repeated_by, marked, repeated_more, piece_by, up_to, behind_low, bounds_at, extra, repeated_over, branch_goes_on, branch_more, branch_by, bar_ahead, alternation_more, alternation_by, inside}
use Rattle.grammar.proofs.Sizes.{side_size}
use Rattle.tokens.proofs.Items.{span_within}
use Rattle.laws.specs.Intervals.{Sound}
use Rattle.laws.proofs.Ends.{Ends, well, ill, map_ends, then_ends, cond_ends, many_ends, Past, passing, standing}
use Rattle.laws.proofs.Members.{Behind, escape_ends, element_ends, bracket_ends}

-- read from n on, with u positions used before
pub record Grown (s : List ℕ) (n u : ℕ) (p : Parsed) : Type 0 where
  pub on : n < p.at
  pub inside : p.at ≤ length s
  pub counts : p.used ≡ u + size p.tree
  pub few : p.used ≤ 512

-- the same, behind p
pub record Further (s : List ℕ) (n u : ℕ) (p q : Parsed) : Type 0 where
  pub grown : Grown s n u q
  pub behind : p.at < q.at

marked_size : (b : ℕ) (e : Expression) → size (repeated_by b e) ≡ size e
marked_size b e = same (eqb b 42) (eqb b 43)
  where
    same : (x y : Bool) → size (cond x (expression.Many e) (cond y (expression.Some e) (expression.Maybe e))) ≡ size e
    same true y = refl
    same false true = refl
    same false false = refl

abbrev pub Joins : (Expression → Expression → Expression) → Type 0
Joins join = (e f : Expression) → size (join e f) ≡ size e + size f

module _ (s : List ℕ) where
  -- from a place before
  sooner : (m n u : ℕ) (p : Parsed) → m ≤ n → Grown s n u p → Grown s m u p
  sooner m n u p le h = record { on = omega arith; inside = h.inside; counts = h.counts; few = h.few }

  -- where p is followed by q, the two joined follow p
  join_ends : (join : Expression → Expression → Expression) → Joins join → (n u m : ℕ) (p q : Parsed) → Grown s n u p → p.at ≤ m → Grown s m p.used q →
      Ends (Further s n u p) (length s) (joined_by join p q)
  join_ends join joins n u m p q h le g =
      well (record {
        grown = record { on = omega arith; inside = g.inside; counts = omega (arith, joins p.tree q.tree); few = g.few };
        behind = omega arith;
      })

  one_of_ends : (n u : ℕ) (c : Read Bytes) → u < 512 → Behind s n c → Ends (Grown s n u) (length s) (one_of u c)
  one_of_ends n u c lt h = well (record { on = h.0; inside = h.1; counts = refl; few = omega arith })

  bytes_ends : (n : ℕ) → n < length s → Ends (Behind s n) (length s) (bytes_at s n)
  bytes_ends n h =
      cond_ends (stands s n 91) (λ t. map_ends (λ c k. (omega arith, k.1)) (bracket_ends s (n + 1) (omega arith)))
      (λ f. cond_ends (stands s n 92)
      (λ t. then_ends only_byte (escape_ends s (n + 1) (omega arith)) (λ e k. well (omega arith, k.1)))
      (λ g. cond_ends (stands s n 46) (λ t. well (omega arith, omega arith)) (λ i. well (omega arith, omega arith))))

  one_ends : (n u : ℕ) → n ≤ length s → Ends (Grown s n u) (length s) (one_at s n u)
  one_ends n u h =
      cond_ends (passes starts_atom s n)
      (λ t. cond_ends (ltb u 512)
      (λ l. then_ends (one_of u) (bytes_ends n (passing starts_atom s n t)) (λ c k. one_of_ends n u c (ltb-true u 512 l) k))
      (λ l. ill h))
      (λ f. ill h)

  pub quoted_ends : (n u : ℕ) → n ≤ length s → Ends (Grown s n u) (length s) (quoted_byte s n u)
  quoted_ends n u h =
      cond_ends (ltb n (length s))
      (λ t. cond_ends (ltb u 512)
      (λ l. then_ends (one_of u) (then_ends only_byte (element_ends s n h) (λ e k. well k)) (λ c k. one_of_ends n u c (ltb-true u 512 l) k))
      (λ l. ill h))
      (λ f. ill h)

  -- a loop over what grows
  module _ (go : Parsed → Bool) (step : Parsed → Out Parsed) (n u : ℕ)
      (turn : (p : Parsed) → Grown s n u p → go p ≡ true → Ends (Further s n u p) (length s) (step p)) where
    pub loop_ends : (p : Parsed) → Grown s n u p → Ends (λ (q : Parsed). Grown s n u q × (go q ≡ false)) (length s) (many go step (length s) p)
    loop_ends p h =
        many_ends (λ (q : Parsed). q.at) (Grown s n u) (length s) go step (λ q g. g.inside)
        (λ q g t. map_ends (λ r k. (k.grown, k.behind)) (turn q g t)) (length s) p h (omega (arith, h.on))

  -- up to the closing `"`
  pub in_quotes_ends : (n u : ℕ) → n ≤ length s → (p : Parsed) → Grown s n u p → Ends (λ (q : Parsed). Grown s n u q × (in_quotes s q ≡ false)) (length s) (many (in_quotes s) (quoted_more s) (length s) p)
  in_quotes_ends n u h p k =
      loop_ends (in_quotes s) (quoted_more s) n u
      (λ q g t. then_ends (joined_by Then q) (quoted_ends q.at q.used g.inside) (λ r i. join_ends Then (λ e f. refl) n u q.at q r g (omega arith) i))
      p k

  quote_ends : (n u : ℕ) → n ≤ length s → Ends (Grown s n u) (length s) (quote_at s n u)
  quote_ends n u h =
      cond_ends (stands s n 34) (λ t. ill h)
      (λ f. then_ends past_quote
      (then_ends (many (in_quotes s) (quoted_more s) (length s)) (quoted_ends n u h) (in_quotes_ends n u h))
      (λ p k.
      let lt : p.at < length s = standing s p.at 34 (not-false (stands s p.at 34) k.1) in
      let g = k.0 in
      well (record { on = omega arith; inside = omega arith; counts = g.counts; few = g.few })))

  -- what stands inside parentheses is read so too
  abbrev pub Inner : Option Parser → Type 0
  Inner None = Unit {0}
  Inner (Some f) = (n u : ℕ) → n ≤ length s → Ends (Grown s n u) (length s) (f n u)

  group_ends : (inner : Option Parser) → Inner inner → (n u : ℕ) → n < length s → Ends (Grown s n u) (length s) (group_by inner s n u)
  group_ends None i n u h = ill (omega arith)
  group_ends (Some f) i n u h =
      then_ends (closed_group s) (i (n + 1) u (omega arith))
      (λ p k. cond_ends (stands s p.at 41)
      (λ t.
      let lt : p.at < length s = standing s p.at 41 t in
      well (record { on = omega (arith, k.on); inside = omega arith; counts = k.counts; few = k.few }))
      (λ f. ill k.inside))

  module _ (inner : Option Parser) (i : Inner inner) where
    atom_ends : (n u : ℕ) → n ≤ length s → Ends (Grown s n u) (length s) (atom_by inner s n u)
    unfolding atom_by
    atom_ends n u h =
        cond_ends (stands s n 34)
        (λ t. map_ends (λ p k. sooner n (n + 1) u p (omega arith) k) (quote_ends (n + 1) u (omega (arith, standing s n 34 t))))
        (λ f. cond_ends (stands s n 40) (λ t. group_ends inner i n u (standing s n 40 t)) (λ g. one_ends n u h))

    pub piece_ends : (n u : ℕ) → n ≤ length s → Ends (Grown s n u) (length s) (piece_by inner s n u)
    unfolding piece_by
    piece_ends n u h =
        then_ends (many (marked s) (repeated_more s) (length s)) (atom_ends n u h)
        (λ p k. map_ends (λ q g. g.0)
        (loop_ends (marked s) (repeated_more s) n u
        (λ q g t.
        let lt : q.at < length s = passing repeat_mark s q.at t in
        well (record {
          grown = record { on = omega (arith, g.on); inside = omega arith; counts = omega (arith, g.counts, marked_size (get_or s q.at 0) q.tree); few = g.few };
          behind = omega arith;
        }))
        p k))

  -- bounds are in order
  pub record Ordered (n : ℕ) (b : Read Interval) : Type 0 where
    pub past : Past s n b.next
    pub sound : Sound b.value

  up_ends : (n m k : ℕ) → n < k → k ≤ length s → Ends (Ordered n) (length s) (up_to s m k)
  up_ends n m k lt h =
      cond_ends (stands s k 125)
      (λ t. well (record { past = (omega arith, omega (arith, standing s k 125 t)); sound = tt }))
      (λ f. cond_ends (eqb (digits 2 s k) 0) (λ t. ill h)
      (λ g. cond_ends (leb (number 2 s k) 32 && (leb m (number 2 s k) && leb 1 (number 2 s k)))
      (λ t.
      let b = and_parts (leb m (number 2 s k)) (leb 1 (number 2 s k)) (and_parts (leb (number 2 s k) 32) (leb m (number 2 s k) && leb 1 (number 2 s k)) t).1 in
      cond_ends (stands s (k + digits 2 s k) 125)
      (λ c. well (record { past = (omega arith, omega (arith, standing s (k + digits 2 s k) 125 c)); sound = (leb-true m (number 2 s k) b.0, leb-true 1 (number 2 s k) b.1) }))
      (λ c. ill (span_within digit s 2 k h)))
      (λ c. ill h)))

  low_ends : (n m k : ℕ) → n ≤ k → k ≤ length s → Ends (Ordered n) (length s) (behind_low s n m k)
  low_ends n m k le h =
      cond_ends (stands s k 125)
      (λ t. cond_ends (leb 1 m)
      (λ c. well (record { past = (omega arith, omega (arith, standing s k 125 t)); sound = (omega arith, leb-true 1 m c) }))
      (λ c. ill (omega arith)))
      (λ f. cond_ends (stands s k 44) (λ t. up_ends n m (k + 1) (omega arith) (omega (arith, standing s k 44 t))) (λ g. ill h))

  pub bounds_ends : (n : ℕ) → n ≤ length s → Ends (Ordered n) (length s) (bounds_at s n)
  bounds_ends n h =
      cond_ends (eqb (digits 2 s n) 0) (λ t. ill h)
      (λ f. cond_ends (leb (number 2 s n) 32) (λ t. low_ends n (number 2 s n) (n + digits 2 s n) (omega arith) (span_within digit s 2 n h)) (λ g. ill h))

  over_ends : (n u : ℕ) (p : Parsed) (b : Read Interval) → Grown s n u p → Past s (p.at + 1) b.next → Ends (Further s n u p) (length s) (repeated_over p b)
  over_ends n u p b g h =
      cond_ends (leb (p.used + extra b.value * size p.tree) 512)
      (λ t. well (record {
        grown = record {
          on = omega (arith, g.on);
          inside = h.1;
          counts = omega (arith, g.counts, side_size b.value p.tree (extra b.value) 0);
          few = leb-true (p.used + extra b.value * size p.tree) 512 t;
        };
        behind = omega arith;
      }))
      (λ f. ill g.inside)

  module _ (inner : Option Parser) (i : Inner inner) where
    pub branch_more_ends : (n u : ℕ) (p : Parsed) → Grown s n u p → Ends (Further s n u p) (length s) (branch_more inner s p)
    branch_more_ends n u p g =
        cond_ends (stands s p.at 123)
        (λ t. then_ends (repeated_over p) (bounds_ends (p.at + 1) (omega (arith, standing s p.at 123 t))) (λ b k. over_ends n u p b g k.past))
        (λ f. then_ends (joined_by Then p) (piece_ends inner i p.at p.used g.inside) (λ q k. join_ends Then (λ e f. refl) n u p.at p q g (omega arith) k))

    pub branch_ends : (n u : ℕ) → n ≤ length s → Ends (Grown s n u) (length s) (branch_by inner s n u)
    unfolding branch_by
    branch_ends n u h =
        then_ends (many (branch_goes_on s) (branch_more inner s) (length s)) (piece_ends inner i n u h)
        (λ p k. map_ends (λ q g. g.0) (loop_ends (branch_goes_on s) (branch_more inner s) n u (λ q g t. branch_more_ends n u q g) p k))

    alternation_more_ends : (n u : ℕ) (p : Parsed) → Grown s n u p → bar_ahead s p ≡ true → Ends (Further s n u p) (length s) (alternation_more inner s p)
    alternation_more_ends n u p g t =
        then_ends (joined_by Either p) (branch_ends (p.at + 1) p.used (omega (arith, standing s p.at 124 t)))
        (λ q k. join_ends Either (λ e f. refl) n u (p.at + 1) p q g (omega arith) k)

    pub alternation_ends : (n u : ℕ) → n ≤ length s → Ends (Grown s n u) (length s) (alternation_by inner s n u)
    unfolding alternation_by
    alternation_ends n u h =
        then_ends (many (bar_ahead s) (alternation_more inner s) (length s)) (branch_ends n u h)
        (λ p k. map_ends (λ q g. g.0) (loop_ends (bar_ahead s) (alternation_more inner s) n u (alternation_more_ends n u) p k))

  pub inside_ends : (d : ℕ) → Inner (inside d s)
  inside_ends zero = tt
  inside_ends (suc d) = alternation_ends (inside d s) (inside_ends d)
