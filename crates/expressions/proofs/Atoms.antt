-- How the parts of the grammar of expressions unfold at a byte.
use Rattle.std.proofs.Common.{◌≡◌, ℕ, zero, suc, ◌+◌, ◌-◌, ◌<◌, Bool, true, false, cond, List, length, get_or, Ok, Option, ne_eqb, sym, refl, ap, ◌∙◌, arith}
use mathlib.Core.Path.{fun_ext}
use Rattle.std.proofs.lemmas.Bool.{lt-ltb}
use Rattle.bits.specs.Set.{has}
use Rattle.patterns.specs.Expression.{Then}
use Rattle.grammar.specs.declared.Refusal.TheVariants.{Misfit}
use Rattle.grammar.specs.Outcome.{Out, refused, read, then, many}
use Rattle.grammar.specs.Bytes.{passes, stands}
use Rattle.grammar.specs.Expressions.{Parsed, parsed, joined_by, Parser, any_but_newline, only_byte, starts_atom, bytes_at, one_of, one_at, quote_at, quoted_byte, quoted_more, in_quotes, past_quote, group_by, closed_group, atom_by, piece_by, marked, repeated_more, branch_by, branch_goes_on, branch_more, alternation_by, bar_ahead, alternation_more, inside}

pub bytes_any : (s : List ℕ) (n : ℕ) (ws : List ℕ) → n < length s → get_or s n 0 ≡ 46 → ((q : ℕ) → has ws q ≡ any_but_newline q) → read (has ws) (n + 1) ≡ bytes_at s n
bytes_any s n ws h e f =
    let l = lt-ltb n (length s) h in
    rw (l, e) (ap (λ (g : ℕ → Bool). read g (n + 1)) (fun_ext f))

pub bytes_one : (s : List ℕ) (n : ℕ) → n < length s → (get_or s n 0 ≡ 91 → ⊥) → (get_or s n 0 ≡ 92 → ⊥) → (get_or s n 0 ≡ 46 → ⊥)
    → bytes_at s n ≡ only_byte (record { value = get_or s n 0; next = n + 1 })
bytes_one s n h a b d =
    let l = lt-ltb n (length s) h in
    let x = ne_eqb _ _ a in let y = ne_eqb _ _ b in let z = ne_eqb _ _ d in
    rw (l, x, y, z)

pub quote_is : (s : List ℕ) (n u : ℕ) → false ≡ stands s n 34 → quote_at s n u ≡ then (then (quoted_byte s n u) (many (in_quotes s) (quoted_more s) (length s))) past_quote
quote_is s n u e = rw (sym e)

pub group_is : (d : ℕ) (s : List ℕ) (n u : ℕ) → (d ≡ 0 → ⊥) → group_by (inside d s) s n u ≡ then (alternation_by (inside (d - 1) s) s (n + 1) u) (closed_group s)
group_is zero s n u h = absurd (h refl)
group_is (suc d) s n u h = let e : suc d - 1 ≡ d = omega arith in rw e

pub atom_quote : (inner : Option Parser) (s : List ℕ) (n u : ℕ) → true ≡ stands s n 34 → atom_by inner s n u ≡ quote_at s (n + 1) u
unfolding atom_by
atom_quote inner s n u a = rw (sym a)

pub atom_group : (inner : Option Parser) (s : List ℕ) (n u : ℕ) → false ≡ stands s n 34 → true ≡ stands s n 40 → atom_by inner s n u ≡ group_by inner s n u
unfolding atom_by
atom_group inner s n u a b = rw (sym a, sym b)

pub atom_one : (inner : Option Parser) (s : List ℕ) (n u : ℕ) → false ≡ stands s n 34 → false ≡ stands s n 40 → atom_by inner s n u ≡ one_at s n u
unfolding atom_by
atom_one inner s n u a b = rw (sym a, sym b)

pub piece_is : (inner : Option Parser) (s : List ℕ) (n u : ℕ) → piece_by inner s n u ≡ then (atom_by inner s n u) (many (marked s) (repeated_more s) (length s))
unfolding piece_by
piece_is inner s n u = refl

pub branch_is : (inner : Option Parser) (s : List ℕ) (n u : ℕ) → branch_by inner s n u ≡ then (piece_by inner s n u) (many (branch_goes_on s) (branch_more inner s) (length s))
unfolding branch_by
branch_is inner s n u = refl

pub alternation_is : (inner : Option Parser) (s : List ℕ) (n u : ℕ) → alternation_by inner s n u ≡ then (branch_by inner s n u) (many (bar_ahead s) (alternation_more inner s) (length s))
unfolding alternation_by
alternation_is inner s n u = refl

pub one_is : (s : List ℕ) (n u : ℕ) → true ≡ passes starts_atom s n → u < 512 → one_at s n u ≡ then (bytes_at s n) (one_of u)
one_is s n u e k =
    let g = lt-ltb u 512 k in
    rw (sym e, g)

-- a group whose `)` is missing
pub closed_open : (d : ℕ) (s : List ℕ) (n u : ℕ) (p : Parsed) → (d ≡ 0 → ⊥) → alternation_by (inside (d - 1) s) s (n + 1) u ≡ Ok p → false ≡ stands s p.at 41 → group_by (inside d s) s n u ≡ refused Misfit p.at
closed_open d s n u p h e off =
    group_is d s n u h ∙ ap (λ (o : Out Parsed). then o (closed_group s)) e ∙ ap (λ (b : Bool). cond b (parsed p.tree (p.at + 1) p.used) (refused Misfit p.at)) (sym off)

-- a branch goes on with a piece, where no interval stands
pub extended_joins : (inner : Option Parser) (s : List ℕ) (p : Parsed) → false ≡ stands s p.at 123 → branch_more inner s p ≡ then (piece_by inner s p.at p.used) (joined_by Then p)
extended_joins inner s p e = rw (sym e)

pub closed_shut : (s : List ℕ) (p : Parsed) → true ≡ stands s p.at 41 → closed_group s p ≡ parsed p.tree (p.at + 1) p.used
closed_shut s p on = rw (sym on)
