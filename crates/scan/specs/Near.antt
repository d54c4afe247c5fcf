-- How far a table looks.
use Rattle.std.specs.Prelude.{◌≡◌}
use Rattle.table.specs.Memory.{Memory}
use Rattle.places.specs.Listing.{Place}
use Rattle.places.specs.Near.{near}
use Rattle.scan.specs.Listing.{table_listing}

-- what stands behind the nearest 1,024 bytes has no part in what a table lists
abbrev pub TableNear : Type 0
TableNear = (m : Memory) (p : Place) → table_listing m p ≡ table_listing m (near p)
