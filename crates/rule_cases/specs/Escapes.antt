-- Escaped text: what is meant at a place.
use Rattle.std.specs.Prelude.{ℕ, ◌+◌, ◌-◌, ◌*◌, Bool, cond, ◌&&◌, List, length, Some, None, Option, ◌==◌, nat_lt, slice_index}
use Rattle.std.specs.Str.{byte}
use Rattle.grammar.specs.declared.Read.{Read}
use Rattle.grammar.specs.Bytes.{within, digit, stands}

-- `~` and this byte at n
abbrev pub bracket_at : List ℕ → ℕ → ℕ → Bool
bracket_at s n b = stands s n (byte "~") && stands s (n + 1) b

-- the value of a hexadecimal digit
abbrev pub digit_of : ℕ → Option ℕ
digit_of b =
    cond (digit b) (Some (b - byte "0"))
    (cond (within (byte "a") (byte "f") b) (Some (b - byte "a" + 10)) None)

-- what the letter behind a `~` means: a newline, a tab, a space or a tilde
abbrev pub named_by : ℕ → Option ℕ
named_by b =
    cond (b == byte "n") (Some (byte "\n"))
    (cond (b == byte "t") (Some (byte "\t"))
    (cond (b == byte "s") (Some (byte " "))
    (cond (b == byte "~") (Some (byte "~")) None)))

-- a byte that is meant by what ends before n
abbrev pub meant : ℕ → ℕ → Option (Read ℕ)
meant n b = Some (record { value = b; next = n })

abbrev pub before : ℕ → Option ℕ → Option (Read ℕ)
before n (Some b) = meant n b
before n None = None

abbrev pub paired : ℕ → Option ℕ → Option ℕ → Option (Read ℕ)
paired n (Some high) (Some low) = meant n (high * 16 + low)
paired n (Some high) None = None
paired n None low = None

-- the byte of the two hexadecimal digits at n
abbrev pub hexadecimal_at : List ℕ → ℕ → Option (Read ℕ)
hexadecimal_at s n = cond (nat_lt (n + 1) (length s))
    (paired (n + 2) (digit_of (slice_index s n)) (digit_of (slice_index s (n + 1)))) None

-- behind a `~`, n being the place of the letter
abbrev pub escape_at : List ℕ → ℕ → Option (Read ℕ)
escape_at s n =
    cond (nat_lt n (length s))
    (cond (slice_index s n == byte "x") (hexadecimal_at s (n + 1))
    (before (n + 1) (named_by (slice_index s n))))
    None

-- the byte that is meant at n
abbrev pub unit_at : List ℕ → ℕ → Option (Read ℕ)
unit_at s n =
    cond (nat_lt n (length s))
    (cond (slice_index s n == byte "~") (escape_at s (n + 1)) (meant (n + 1) (slice_index s n)))
    None
