-- Names as they are found and declared, as the grammar has them.
use Rattle.std.proofs.Common.{◌≡◌, ℕ, zero, suc, ◌+◌, ◌/◌, ◌<◌, min, Bool, true, false, ◌&&◌, ◌||◌, eqb, ltb, List, [], ◌∷◌, ◌++◌, map, length, take, set, Some, None, Ok, codes, Option, sym, refl, ap, ◌∙◌, arith}
use mathlib.Core.Path.{fun_ext}
use Rattle.std.proofs.lemmas.List.{length-map, length-take, take_all, take_more_set, map_push}
use Rattle.std.proofs.lemmas.Bool.{false_from_ne_true, ne_eqb, lt-ltb, le-ltb}
use Rattle.std.proofs.Math.Bool.{and-true}
use Rattle.std.proofs.lemmas.Slice.Eq.{bytes_eq-Decides}
use Rattle.std.specs.Str.{bytes_eq}
use Rattle.bits.specs.Set.{has}
use Rattle.finder.specs.declared.name.Name.{Name}
use Rattle.finder.specs.Placed.{Fresh, FirstFound}
use Rattle.grammar.specs.declared.Read.{Read}
use Rattle.grammar.specs.declared.Refusal.TheVariants.{UnknownName, DeclaredAgain, LimitPassed}
use Rattle.grammar.specs.Outcome.{refused}
use Rattle.grammar.specs.Bytes.{part, name_length}
use Rattle.grammar.specs.Conditions as grammar
use Rattle.grammar.specs.Conditions.{only_initial, numbered, condition_at, declare_at}
use Rattle.tokens.specs.Parts.{Part}
use Rattle.tokens.proofs.Items.{name_most}
use Rattle.conditions.specs.declared.Conditions.{Conditions}
use Rattle.conditions.specs.Spelt.{text, NameAt}
use Rattle.conditions.specs.Known.{known, declared_from}

apart : (a b : List ℕ) → (a ≡ b → ⊥) → bytes_eq a b ≡ false
apart a b h = false_from_ne_true (bytes_eq a b) (λ e. h ((bytes_eq-Decides a b).0 e))

module _ (x : Name) where
  pub numbered_none : (xs : List Name) (n : ℕ) → Fresh text xs (min n (length xs)) x → numbered (map text (take n xs)) (text x) ≡ None
  numbered_none xs zero h = refl
  numbered_none [] (suc n) h = refl
  numbered_none (y ∷ ys) (suc n) h =
      let e : bytes_eq (text y) (text x) ≡ false = apart (text y) (text x) (h 0 y (omega arith) (omega arith)) in
      let i : numbered (map text (take n ys)) (text x) ≡ None = numbered_none ys n (λ k d l u. h (suc k) d (omega arith) (omega arith)) in
      rw (e, i)

  pub numbered_some : (xs : List Name) (n k : ℕ) → FirstFound text xs (min n (length xs)) x k → numbered (map text (take n xs)) (text x) ≡ Some k
  numbered_some xs zero k f = let z : k < min 0 (length xs) = f.0 in absurd (omega arith)
  numbered_some [] (suc n) k f = let z : k < min (suc n) 0 = f.0 in absurd (omega arith)
  numbered_some (y ∷ ys) (suc n) zero f =
      let e : bytes_eq (text y) (text x) ≡ true = (bytes_eq-Decides (text y) (text x)).1 (f.1 y) in
      rw e
  numbered_some (y ∷ ys) (suc n) (suc k) f =
      let e : bytes_eq (text y) (text x) ≡ false = apart (text y) (text x) (f.2 0 y (omega arith) (omega arith)) in
      let b : suc k < min (suc n) (suc (length ys)) = f.0 in
      let i : numbered (map text (take n ys)) (text x) ≡ Some k = numbered_some ys n k (omega arith, f.1, (λ j d l u. f.2 (suc j) d (omega arith) (omega arith))) in
      rw (e, i)

  -- the same of a slice of them, which is the first m
  module _ (xs : List Name) (m n : ℕ) (same : m ≡ n) where
    pub located_none : Fresh text (take m xs) (length (take m xs)) x → numbered (map text (take n xs)) (text x) ≡ None
    located_none h = rw (take_all (length (take m xs)) (take m xs) (omega arith), same) at (numbered_none (take m xs) (length (take m xs)) (λ k d l u. h k d l (omega arith)))

    pub located_some : (k : ℕ) → FirstFound text (take m xs) (length (take m xs)) x k → numbered (map text (take n xs)) (text x) ≡ Some k
    located_some k f = rw (take_all (length (take m xs)) (take m xs) (omega arith), same) at (numbered_some (take m xs) (length (take m xs)) k (omega (arith, f.0), f.1, f.2))

module _ (s : List ℕ) (c : Conditions) (n : ℕ) (x : Read Name) (a : NameAt s n x) where
  -- the place in the list is the number that the grammar gives
  numbered_at : (o : Option ℕ) → numbered (map text (take c.count c.names)) (text x.value) ≡ o → numbered (known c).names (part s n (name_length s n)) ≡ o
  unfolding known
  numbered_at o e = ap (numbered (map text (take c.count c.names))) (sym a.text) ∙ e

  pub named_is : (k : ℕ) → numbered (map text (take c.count c.names)) (text x.value) ≡ Some k → Ok (record { value = k; next = x.next }) ≡ condition_at s (known c) n
  named_is k f =
      let e = a.some in
      let i = numbered_at (Some k) f in
      let m = a.next in
      rw (e, i, m)

  pub unknown_is : numbered (map text (take c.count c.names)) (text x.value) ≡ None → refused UnknownName n ≡ condition_at s (known c) n
  unknown_is f =
      let e = a.some in
      let i = numbered_at None f in
      rw (e, i)

  pub again_is : (inclusive : Bool) (k : ℕ) → FirstFound text c.names (min c.count (length c.names)) x.value k → refused DeclaredAgain n ≡ declare_at s inclusive (known c) n
  again_is inclusive k f =
      let e = a.some in
      let i = numbered_at (Some k) (numbered_some x.value c.names c.count k f) in
      rw (e, i)

  known_count : length (known c).names ≡ min c.count (length c.names)
  unfolding known
  known_count = length-map (take c.count c.names) text ∙ length-take c.count c.names

  pub passed_is : (inclusive : Bool) → length c.names ≡ 8 → min c.count (length c.names) ≡ length c.names → Fresh text c.names (min c.count (length c.names)) x.value → refused LimitPassed n ≡ declare_at s inclusive (known c) n
  passed_is inclusive l m f =
      let e = a.some in
      let i = numbered_at None (numbered_none x.value c.names c.count f) in
      let b : ltb (length (known c).names) 8 ≡ false = le-ltb _ _ (omega (arith, known_count)) in
      rw (e, i, b)

  -- d has one more: a name that is new, at the place m, which is the first that is free
  module _ (inclusive : Bool) (d : Conditions) (m : ℕ) where
    with_names : m ≡ min c.count (length c.names) → m < length c.names → d.count ≡ m + 1 → d.names ≡ set c.names m x.value → (known d).names ≡ (known c).names ++ (part s n (name_length s n) ∷ [])
    unfolding known
    with_names i lt q e =
        let j : m ≡ c.count = omega arith in
        let t : take d.count d.names ≡ take c.count c.names ++ (x.value ∷ []) = ap (λ (k : ℕ). take k d.names) q ∙ ap (take (m + 1)) e ∙ take_more_set c.names m x.value lt ∙ ap (λ (k : ℕ). take k c.names ++ (x.value ∷ [])) j in
        ap (map text) t ∙ map_push text (take c.count c.names) x.value ∙ ap (λ (t : List ℕ). map text (take c.count c.names) ++ (t ∷ [])) a.text

    pub added_is : length c.names ≡ 8 → m ≡ min c.count (length c.names) → min c.count (length c.names) < length c.names → Fresh text c.names (min c.count (length c.names)) x.value
        → d.count ≡ m + 1 → d.names ≡ set c.names (min c.count (length c.names)) x.value → ((j : ℕ) → has d.inclusive.words j ≡ (has c.inclusive.words j || (inclusive && eqb j m))) → Ok (declared_from d x.next) ≡ declare_at s inclusive (known c) n
    unfolding known
    added_is l q lt f t e h =
        let p = a.some in
        let i = numbered_at None (numbered_none x.value c.names c.count f) in
        let b : ltb (length (known c).names) 8 ≡ true = lt-ltb _ _ (omega (arith, known_count)) in
        let w : (known d).names ≡ (known c).names ++ (part s n (name_length s n) ∷ []) = with_names q (omega arith) t (e ∙ ap (λ (k : ℕ). set c.names k x.value) (sym q)) in
        let r : m ≡ length (known c).names = q ∙ sym known_count in
        let v : (known d).inclusive ≡ (λ j. (known c).inclusive j || (inclusive && eqb j (length (known c).names))) = fun_ext (λ j. h j ∙ ap (λ (k : ℕ). (known c).inclusive j || (inclusive && eqb j k)) r) in
        let o = a.next in
        rw (p, i, b) (cc)

-- the name is all of what is copied, since it has no more than 24 bytes
pub name_is : (s : List ℕ) (n : ℕ) (t : List ℕ) (p : Part s n (name_length s n) t) (x : Read Name) → text x.value ≡ take 24 t → x.next ≡ n + length t → NameAt s n x
name_is s n t p x e m =
    let w : take 24 t ≡ t = take_all 24 t (omega (arith, p.long, name_most s n)) in
    record {
      some = ne_eqb _ _ (λ z. omega (arith, p.some));
      text = e ∙ w ∙ p.is;
      next = omega (arith, p.long);
      moves = omega (arith, p.some, p.long);
      within = omega (arith, p.within);
    }

-- INITIAL alone, whatever stands behind it
pub initial_is : (x : Name) (xs : List Name) (words : List ℕ) → text x ≡ codes "INITIAL" → has words ≡ (λ j. eqb j 0) → ◌≡◌ {A = grammar.Conditions} (record { names = map text (take 1 (x ∷ xs)); inclusive = has words }) only_initial
initial_is x xs words t i = rw (t, i)

-- a set of one condition, and one with one more
module _ (k : ℕ) (words : List ℕ) (small : k < 64) where
  fits : (j : ℕ) → (eqb j k && ltb (k / 64) 1) ≡ eqb j k
  fits j = let e : ltb (k / 64) 1 ≡ true = lt-ltb _ _ (omega arith) in rw e (and-true (eqb j k))

  pub alone : ((j : ℕ) → has words j ≡ (eqb j k && ltb (k / 64) 1)) → has words ≡ (λ j. eqb j k)
  alone h = fun_ext (λ j. h j ∙ fits j)

  pub joined : (had : ℕ → Bool) → ((j : ℕ) → has words j ≡ (had j || (eqb j k && ltb (k / 64) 1))) → has words ≡ (λ j. had j || eqb j k)
  joined had h = fun_ext (λ j. h j ∙ ap (λ (b : Bool). had j || b) (fits j))
