use Rattle.std.proofs.Common.{◌≡◌}
use Rattle.places.specs.Order.{first_of}
use Rattle.scan.specs.Listing.{up_to}
use Rattle.scan.specs.Traced.{memory_in, place_in}
use Rattle.scan.proofs.trace.Trace.up_to.Given as goal

-- the first one is among those with so many bytes
abbrev pub invariant-loop-k : goal.invariant-loop-k
invariant-loop-k g l = let t = l.self in first_of (up_to (memory_in t) (place_in t) l.k) ≡ first_of (up_to (memory_in t) (place_in t) l.n)
