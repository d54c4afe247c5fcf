-- How a place moves.
use Rattle.std.specs.Prelude.{ℕ, ◌-◌, true, List, ◌∷◌, drop, slice_index, nat_eq}
use Rattle.std.specs.Str.{byte}
use Rattle.places.specs.Listing.{Place}

-- where a book is opened: in condition 0, at line start
abbrev pub opening : List ℕ → Place
opening supplied = record { condition = 0; at_line_start = true; rest = supplied }

-- behind the first n bytes, of which there is at least one: at line start exactly if the last is a
-- newline
abbrev pub behind : ℕ → Place → Place
behind n place = record {
  condition = place.condition;
  at_line_start = nat_eq (slice_index place.rest (n - 1)) (byte "\n");
  rest = drop n place.rest;
}

-- in another condition
abbrev pub begun : ℕ → Place → Place
begun condition place = record place { condition = condition }

-- with one byte more in front
abbrev pub put_before : ℕ → Place → Place
put_before b place = record place { rest = b ∷ place.rest }
