-- A name as the code reads it.
use Rattle.std.specs.Prelude.{◌≡◌, ℕ, ◌+◌, ◌<◌, ◌≤◌, true, false, List, length, take, nat_eq}
use Rattle.finder.specs.declared.name.Name.{Name}
use Rattle.grammar.specs.declared.Fault.{Fault}
use Rattle.grammar.specs.declared.Read.{Read}
use Rattle.grammar.specs.declared.Refusal.TheVariants.{Misfit}
use Rattle.grammar.specs.Outcome.{fault}
use Rattle.grammar.specs.Bytes.{part, name_length}

-- the bytes of a name
abbrev pub text : Name → List ℕ
text n = take n.len n.bytes

-- x is the name at n
pub record NameAt (s : List ℕ) (n : ℕ) (x : Read Name) : Type 0 where
  pub some : nat_eq (name_length s n) 0 ≡ false
  pub text : text x.value ≡ part s n (name_length s n)
  pub next : x.next ≡ n + name_length s n
  pub moves : n < x.next
  pub within : x.next ≤ length s

-- no name is at n, which the fault says
pub record NoName (s : List ℕ) (n : ℕ) (e : Fault) : Type 0 where
  pub none : nat_eq (name_length s n) 0 ≡ true
  pub fault : e ≡ fault Misfit n
