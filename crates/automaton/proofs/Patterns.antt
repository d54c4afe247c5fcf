-- The paths of one pattern by itself, up to its marks, as paths of its expressions.
use Rattle.std.proofs.Common.{◌≡◌, ℕ, ◌+◌, Bool, true, ◌&&◌, eqb, ◌⊎◌, List, [], ◌∷◌, ◌++◌, Some, None, Option, IsSome, ◌==◌, refl, ap, inl, inr, arith}
use Rattle.std.proofs.lemmas.Bool.{or_cases, or_left, or_right, and_parts, and_from, eqb-true, eq-eqb, false≢true}
use Rattle.patterns.specs.Expression.{Expression}
use Rattle.patterns.specs.Positions.{size, nullable, takes, first, last, follows}
use Rattle.patterns.specs.Paths.{Path, stop, go, Within, Spells}
use Rattle.patterns.proofs.Paths.{begins, widen, restrict}
use Rattle.patterns.proofs.Ranges.{In, takes_in, first_in, last_in, follows_in}
use Rattle.grammar.specs.File.{trailing_size}
use Rattle.automaton.specs.Pattern.{slash, slash_of, trail_takes, pattern_takes, pattern_after, trail_start, behind_last, trail_after, pattern_size}

-- a path that ends in I, into which nothing else leads, lies in I
pub confine :
    {T F T' F' : ℕ → ℕ → Bool} {E E' : ℕ → Bool} (I : ℕ → Type 0)
    → ((p : ℕ) → E p ≡ true → I p × (E' p ≡ true))
    → ((p q : ℕ) → I q → F p q ≡ true → I p × (F' p q ≡ true))
    → ((p b : ℕ) → I p → T p b ≡ true → T' p b ≡ true)
    → {p : ℕ} {s : List ℕ} → Path T F E p s → I p × Path T' F' E' p s
confine I h g f {p} (stop {b = b} t e) = let k = h p e in (k.0, stop (f p b k.0 t) k.1)
confine I h g f {p} (go {b = b} q t k w) =
    let r = confine I h g f w in
    let j = g p q r.0 k in (j.0, go q (f p b j.0 t) j.1 r.1)

-- where the positions and marks of a pattern lie; its slash mark is, or would be, d
trail_takes_in : (x : Option Expression) (d p b : ℕ) → trail_takes x (d + 1) p b ≡ true → In d (trailing_size x) p
trail_takes_in None d p b h = absurd (false≢true h)
trail_takes_in (Some x) d p b h = let i = takes_in x (d + 1) p b h in (omega arith, omega arith)

trail_start_in : (x : Option Expression) (a d q : ℕ) → trail_start x a (d + 1) q ≡ true → (q ≡ a) ⊎ In d (trailing_size x) q
trail_start_in None a d q h = absurd (false≢true h)
trail_start_in (Some x) a d q h = elim (or_cases (first x (d + 1) q) _ h) [
  | inl k ↦ let i = first_in x (d + 1) q k in inr (omega arith, omega arith)
  | inr k ↦ inl (eqb-true q a (and_parts (nullable x) (eqb q a) k).1)
]

behind_last_in : (x : Option Expression) (a d q : ℕ) → behind_last x a d q ≡ true → (q ≡ a) ⊎ In d (trailing_size x) q
behind_last_in None a d q h = inl (eqb-true q a h)
behind_last_in (Some x) a d q h = elim (or_cases (eqb q d) _ h) [
  | inl k ↦ let e : q ≡ d = eqb-true q d k in inr (omega arith, omega arith)
  | inr k ↦ trail_start_in (Some x) a d q k
]

trail_after_in : (x : Option Expression) (a d p q : ℕ) → trail_after x a (d + 1) p q ≡ true → In d (trailing_size x) p × ((q ≡ a) ⊎ In d (trailing_size x) q)
trail_after_in None a d p q h = absurd (false≢true h)
trail_after_in (Some x) a d p q h = elim (or_cases (follows x (d + 1) p q) _ h) [
  | inl k ↦ let i = follows_in x (d + 1) p q k in ((omega (arith, i.0), omega (arith, i.0)), inr (omega (arith, i.1), omega (arith, i.1)))
  | inr k ↦
      let j = and_parts (last x (d + 1) p) (eqb q a) k in
      let i = last_in x (d + 1) p j.0 in ((omega arith, omega arith), inl (eqb-true q a j.1))
]

module _ (r : Expression) (x : Option Expression) (a : ℕ) where
  pub pattern_takes_in : (p b : ℕ) → pattern_takes r x a p b ≡ true → In a (pattern_size r x) p
  pattern_takes_in p b h = elim (or_cases (takes r (a + 1) p b) _ h) [
    | inl k ↦ let i = takes_in r (a + 1) p b k in (omega arith, omega arith)
    | inr k ↦ let i = trail_takes_in x (slash r a) p b k in (omega arith, omega arith)
  ]

  -- the end mark, or behind r
  behind_r : (q : ℕ) → (q ≡ a) ⊎ In (slash r a) (trailing_size x) q → In a (pattern_size r x) q
  behind_r q (inl e) = (omega arith, omega arith)
  behind_r q (inr i) = (omega arith, omega arith)

  pub pattern_after_in : (p q : ℕ) → pattern_after r x a p q ≡ true → In a (pattern_size r x) p × In a (pattern_size r x) q
  pattern_after_in p q h = elim (or_cases (follows r (a + 1) p q) _ h) [
    | inl k ↦ let i = follows_in r (a + 1) p q k in ((omega (arith, i.0), omega (arith, i.0)), (omega (arith, i.1), omega (arith, i.1)))
    | inr k ↦ elim (or_cases (last r (a + 1) p && behind_last x a (slash r a) q) _ k) [
      | inl j ↦
          let l = and_parts (last r (a + 1) p) (behind_last x a (slash r a) q) j in
          let i = last_in r (a + 1) p l.0 in ((omega arith, omega arith), behind_r q (behind_last_in x a (slash r a) q l.1))
      | inr j ↦
          let i = trail_after_in x a (slash r a) p q j in (behind_r p (inr i.0), behind_r q i.1)
    ]
  ]

-- without a trailing part
module _ (r : Expression) (a : ℕ) where
  -- what a position of r takes and what follows it
  alone_after : (p q : ℕ) → In (a + 1) (size r) q → pattern_after r None a p q ≡ true → follows r (a + 1) p q ≡ true
  alone_after p q i h = elim (or_cases (follows r (a + 1) p q) _ h) [
    | inl k ↦ k
    | inr k ↦ elim (or_cases (last r (a + 1) p && eqb q a) _ k) [
      | inl j ↦ let e : q ≡ a = eqb-true q a (and_parts (last r (a + 1) p) (eqb q a) j).1 in absurd (omega arith)
      | inr j ↦ absurd (false≢true j)
    ]
  ]

  alone_end : (p : ℕ) → pattern_after r None a p a ≡ true → last r (a + 1) p ≡ true
  alone_end p h = elim (or_cases (follows r (a + 1) p a) _ h) [
    | inl k ↦ let i = (follows_in r (a + 1) p a k).1 in absurd (omega arith)
    | inr k ↦ elim (or_cases (last r (a + 1) p && eqb a a) _ k) [
      | inl j ↦ (and_parts (last r (a + 1) p) (eqb a a) j).0
      | inr j ↦ absurd (false≢true j)
    ]
  ]

  alone_takes : (p b : ℕ) → pattern_takes r None a p b ≡ true → takes r (a + 1) p b ≡ true
  alone_takes p b h = elim (or_cases (takes r (a + 1) p b) _ h) [ inl k ↦ k | inr k ↦ absurd (false≢true k) ]

  pub alone_path : {p : ℕ} {s : List ℕ} → Path (pattern_takes r None a) (pattern_after r None a) (λ p. pattern_after r None a p a) p s → Within r (a + 1) p s
  alone_path w =
      (confine (In (a + 1) (size r)) (λ p h. let l = alone_end p h in (last_in r (a + 1) p l, l))
      (λ p q i h. let k = alone_after p q i h in ((follows_in r (a + 1) p q k).0, k)) (λ p b i. alone_takes p b) w).1

  pub path_alone : {p : ℕ} {s : List ℕ} → Within r (a + 1) p s → Path (pattern_takes r None a) (pattern_after r None a) (λ p. pattern_after r None a p a) p s
  path_alone w =
      widen (λ p b. or_left _ _) (λ p q. or_left _ _)
      (λ p l. or_right (follows r (a + 1) p a) _ (or_left _ _ (and_from (last r (a + 1) p) _ l (eq-eqb a a refl)))) w

-- with the trailing part x, which lies behind the slash mark d
module _ (r x : Expression) (a : ℕ) where
  abbrev pub d : ℕ
  d = slash r a

  abbrev pub After : ℕ → ℕ → Bool
  After = pattern_after r (Some x) a

  abbrev pub Taken : ℕ → ℕ → Bool
  Taken = pattern_takes r (Some x) a

  -- what comes after p: it follows in r or in x, or behind a last position comes a mark, or a first position of x
  data Next (p q : ℕ) : Type 0 where
    in_r : follows r (a + 1) p q ≡ true → Next p q
    in_x : follows x (d + 1) p q ≡ true → Next p q
    to_slash : last r (a + 1) p ≡ true → q ≡ d → Next p q
    to_x : last r (a + 1) p ≡ true → first x (d + 1) q ≡ true → Next p q
    over_x : last r (a + 1) p ≡ true → nullable x ≡ true → q ≡ a → Next p q
    to_end : last x (d + 1) p ≡ true → q ≡ a → Next p q

  next : (p q : ℕ) → After p q ≡ true → Next p q
  next p q h = elim (or_cases (follows r (a + 1) p q) _ h) [
    | inl k ↦ in_r k
    | inr k ↦ elim (or_cases (last r (a + 1) p && behind_last (Some x) a d q) _ k) [
      | inl j ↦
          let l = and_parts (last r (a + 1) p) (behind_last (Some x) a d q) j in
          elim (or_cases (eqb q d) _ l.1) [
            | inl e ↦ to_slash l.0 (eqb-true q d e)
            | inr e ↦ elim (or_cases (first x (d + 1) q) _ e) [
              | inl f ↦ to_x l.0 f
              | inr f ↦ let n = and_parts (nullable x) (eqb q a) f in over_x l.0 n.0 (eqb-true q a n.1)
            ]
          ]
      | inr j ↦ elim (or_cases (follows x (d + 1) p q) _ j) [
        | inl f ↦ in_x f
        | inr f ↦ let l = and_parts (last x (d + 1) p) (eqb q a) f in to_end l.0 (eqb-true q a l.1)
      ]
    ]
  ]

  -- and the other way
  after_r : (p q : ℕ) → follows r (a + 1) p q ≡ true → After p q ≡ true
  after_r p q k = or_left _ _ k

  after_x : (p q : ℕ) → trail_after (Some x) a (d + 1) p q ≡ true → After p q ≡ true
  after_x p q k = or_right (follows r (a + 1) p q) _ (or_right (last r (a + 1) p && behind_last (Some x) a d q) _ k)

  after_last : (p q : ℕ) → last r (a + 1) p ≡ true → behind_last (Some x) a d q ≡ true → After p q ≡ true
  after_last p q l k = or_right (follows r (a + 1) p q) _ (or_left _ _ (and_from (last r (a + 1) p) _ l k))

  -- a position that takes a byte is one of r or of x
  taken : (p b : ℕ) → Taken p b ≡ true → In (a + 1) (size r) p ⊎ In (d + 1) (size x) p
  taken p b h = elim (or_cases (takes r (a + 1) p b) _ h) [ inl k ↦ inl (takes_in r (a + 1) p b k) | inr k ↦ inr (takes_in x (d + 1) p b k) ]

  takes_r : (p b : ℕ) → In (a + 1) (size r) p → Taken p b ≡ true → takes r (a + 1) p b ≡ true
  takes_r p b i h = elim (or_cases (takes r (a + 1) p b) _ h) [ inl k ↦ k | inr k ↦ let j = takes_in x (d + 1) p b k in absurd (omega arith) ]

  takes_x : (p b : ℕ) → In (d + 1) (size x) p → Taken p b ≡ true → takes x (d + 1) p b ≡ true
  takes_x p b i h = elim (or_cases (takes r (a + 1) p b) _ h) [ inl k ↦ let j = takes_in r (a + 1) p b k in absurd (omega arith) | inr k ↦ k ]

  -- a path to the slash mark is one of r
  pub slash_path : {p : ℕ} {s : List ℕ} → Path Taken After (λ p. After p d) p s → Within r (a + 1) p s
  slash_path w = (confine (In (a + 1) (size r)) (λ p h. ends p (next p d h)) (λ p q i h. goes p q i (next p q h)) takes_r w).1
    where
      ends : (p : ℕ) → Next p d → In (a + 1) (size r) p × (last r (a + 1) p ≡ true)
      ends p (in_r k) = let i = (follows_in r (a + 1) p d k).1 in absurd (omega arith)
      ends p (in_x k) = let i = (follows_in x (d + 1) p d k).1 in absurd (omega arith)
      ends p (to_slash l e) = (last_in r (a + 1) p l, l)
      ends p (to_x l f) = let i = first_in x (d + 1) d f in absurd (omega arith)
      ends p (over_x l n e) = absurd (omega arith)
      ends p (to_end l e) = absurd (omega arith)

      goes : (p q : ℕ) → In (a + 1) (size r) q → Next p q → In (a + 1) (size r) p × (follows r (a + 1) p q ≡ true)
      goes p q i (in_r k) = ((follows_in r (a + 1) p q k).0, k)
      goes p q i (in_x k) = let j = (follows_in x (d + 1) p q k).1 in absurd (omega arith)
      goes p q i (to_slash l e) = absurd (omega arith)
      goes p q i (to_x l f) = let j = first_in x (d + 1) q f in absurd (omega arith)
      goes p q i (over_x l n e) = absurd (omega arith)
      goes p q i (to_end l e) = absurd (omega arith)

  pub path_slash : {p : ℕ} {s : List ℕ} → Within r (a + 1) p s → Path Taken After (λ p. After p d) p s
  path_slash w = widen (λ p b. or_left _ _) after_r (λ p l. after_last p d l (or_left _ _ (eq-eqb d d refl))) w

  -- the end mark takes no byte
  pub no_byte : (q b : ℕ) → q ≡ a → Taken q b ≡ true → ⊥
  no_byte q b e t = elim (taken q b t) [ inl i ↦ omega arith | inr i ↦ omega arith ]

  -- a path from x to the end mark is one of x
  pub trail_path : {p : ℕ} {s : List ℕ} → In (d + 1) (size x) p → Path Taken After (λ p. After p a) p s → Within x (d + 1) p s
  trail_path i w =
      restrict (In (d + 1) (size x)) takes_x (λ p q b j t h. goes p q b j t (next p q h)) (λ p j h. ends p j (next p a h)) i w
    where
      ends : (p : ℕ) → In (d + 1) (size x) p → Next p a → last x (d + 1) p ≡ true
      ends p i (in_r k) = let j = (follows_in r (a + 1) p a k).0 in absurd (omega arith)
      ends p i (in_x k) = let j = (follows_in x (d + 1) p a k).1 in absurd (omega arith)
      ends p i (to_slash l e) = let j = last_in r (a + 1) p l in absurd (omega arith)
      ends p i (to_x l f) = let j = last_in r (a + 1) p l in absurd (omega arith)
      ends p i (over_x l n e) = let j = last_in r (a + 1) p l in absurd (omega arith)
      ends p i (to_end l e) = l

      goes : (p q b : ℕ) → In (d + 1) (size x) p → Taken q b ≡ true → Next p q → In (d + 1) (size x) q × (follows x (d + 1) p q ≡ true)
      goes p q b i t (in_r k) = let j = (follows_in r (a + 1) p q k).0 in absurd (omega arith)
      goes p q b i t (in_x k) = ((follows_in x (d + 1) p q k).1, k)
      goes p q b i t (to_slash l e) = let j = last_in r (a + 1) p l in absurd (omega arith)
      goes p q b i t (to_x l f) = let j = last_in r (a + 1) p l in absurd (omega arith)
      goes p q b i t (over_x l n e) = let j = last_in r (a + 1) p l in absurd (omega arith)
      goes p q b i t (to_end l e) = absurd (no_byte q b e t)

  pub path_trail : {p : ℕ} {s : List ℕ} → Within x (d + 1) p s → Path Taken After (λ p. After p a) p s
  path_trail w =
      widen (λ p b. or_right (takes r (a + 1) p b) _) (λ p q k. after_x p q (or_left _ _ k))
      (λ p l. after_x p a (or_right (follows x (d + 1) p a) _ (and_from (last x (d + 1) p) _ l (eq-eqb a a refl)))) w

  -- a path from r to the end mark is one of r, and behind it one of x, or nothing
  abbrev Split : ℕ → List ℕ → Type 0
  Split p s = (u : List ℕ) × (v : List ℕ) × (s ≡ u ++ v) × Within r (a + 1) p u × Spells x (d + 1) v

  pub split : {p : ℕ} {s : List ℕ} → In (a + 1) (size r) p → Path Taken After (λ p. After p a) p s → Split p s
  split {p} i (stop {b = b} t h) = ends (next p a h)
    where
      ends : Next p a → Split p (b ∷ [])
      ends (in_r k) = let j = (follows_in r (a + 1) p a k).1 in absurd (omega arith)
      ends (in_x k) = let j = (follows_in x (d + 1) p a k).0 in absurd (omega arith)
      ends (to_slash l e) = absurd (omega arith)
      ends (to_x l f) = let j = first_in x (d + 1) a f in absurd (omega arith)
      ends (over_x l n e) = (b ∷ [], [], refl, stop (takes_r p b i t) l, inl (refl, n))
      ends (to_end l e) = let j = last_in x (d + 1) p l in absurd (omega arith)
  split {p} i (go {b = b} {s = s} q t h w) = goes (λ j. split j w) (next p q h)
    where
      goes : (In (a + 1) (size r) q → Split q s) → Next p q → Split p (b ∷ s)
      goes more (in_r k) =
          let g = more (follows_in r (a + 1) p q k).1 in
          (b ∷ g.0, g.1, ap (λ z. b ∷ z) g.2, go q (takes_r p b i t) k g.3, g.4)
      goes more (in_x k) = let j = (follows_in x (d + 1) p q k).0 in absurd (omega arith)
      goes more (to_slash l e) = let k = begins w in absurd (elim (taken q k.0 k.1) [ inl j ↦ omega arith | inr j ↦ omega arith ])
      goes more (to_x l f) = (b ∷ [], s, refl, stop (takes_r p b i t) l, inr (q, f, trail_path (first_in x (d + 1) q f) w))
      goes more (over_x l n e) = let k = begins w in absurd (no_byte q k.0 e k.1)
      goes more (to_end l e) = let j = last_in x (d + 1) p l in absurd (omega arith)

  pub joined : {p : ℕ} {u v : List ℕ} → Within r (a + 1) p u → Spells x (d + 1) v → Path Taken After (λ p. After p a) p (u ++ v)
  joined {p} (stop {b = b} t l) (inl (z, n)) =
      rw z (stop (or_left _ _ t) (after_last p a l (or_right (eqb a d) _ (or_right (first x (d + 1) a) _ (and_from (nullable x) _ n (eq-eqb a a refl))))))
  joined {p} (stop {b = b} t l) (inr (q, f, w)) =
      go q (or_left _ _ t) (after_last p q l (or_right (eqb q d) _ (or_left _ _ f))) (path_trail w)
  joined {p} (go {b = b} q t k w) g = go q (or_left _ _ t) (after_r p q k) (joined w g)

-- which mark that is, where there is one
pub slash_is : (x : Option Expression) (d : ℕ) → IsSome x → (p : ℕ) → slash_of x d p ≡ (p == d)
slash_is None d some p = absurd (false≢true some)
slash_is (Some x) d some p = refl

pub slash_some : (x : Option Expression) (d p : ℕ) → slash_of x d p ≡ true → IsSome x
slash_some None d p h = absurd (false≢true h)
slash_some (Some x) d p h = refl

pub slash_in : (r : Expression) (x : Option Expression) (a : ℕ) → IsSome x → In a (pattern_size r x) (slash r a)
slash_in r None a some = absurd (false≢true some)
slash_in r (Some x) a some = (omega arith, omega arith)
