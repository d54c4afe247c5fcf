-- How far a listing looks.
use Rattle.std.specs.Prelude.{List, ◌↔◌, take}
use Rattle.grammar.specs.File.{RuleText}
use Rattle.places.specs.declared.Reading.{Reading}
use Rattle.places.specs.Listing.{Place, Listing}

-- the place, of which 1,024 bytes are left at most
abbrev pub near : Place → Place
near p = record {
  condition = p.condition;
  at_line_start = p.at_line_start;
  rest = take 1024 p.rest;
}

-- what stands behind them has no part in what is listed
abbrev pub OnlyNear : Type 0
OnlyNear = (rules : List RuleText) (p : Place) (ds : List Reading) → Listing rules p ds
    ↔ Listing rules (near p) ds
