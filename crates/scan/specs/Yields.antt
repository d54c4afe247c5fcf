-- What an iterator over a listing still gives.
use Rattle.std.specs.Prelude.{List}
use Rattle.source.specs.declared.Source.{Ghosts}
use Rattle.places.specs.declared.Reading.{Reading}
use Rattle.scan.specs.declared.left.ReadingsLeft.{ReadingsLeft}
use Rattle.scan.specs.Left.{left_of}
use Rattle.scan.specs.Traced.{memory_in, place_in}

abbrev pub left : {S : Type 0} {g : Ghosts S} → ReadingsLeft S g → List Reading
left s = let t = s.trace.now in left_of (memory_in t) (place_in t) s.last s.over
