use Rattle.table.specs.Held.{memory_of}
use Rattle.scan.specs.Listing.{place_of}
use Rattle.reader.proofs.Listed.{first_right}
use Rattle.reader.proofs.finds.first.Goals as goal

pub returns-clause-right : goal.returns-clause-right
returns-clause-right g c =
    first_right (memory_of c.args.table.now)
    (place_of c.args.start (g.S.Source.rest c.args.source.now)) _ c.first_reading.ensures
