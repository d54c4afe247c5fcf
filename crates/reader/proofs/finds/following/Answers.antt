use Rattle.table.specs.Held.{memory_of}
use Rattle.scan.specs.Listing.{place_of}
use Rattle.reader.proofs.Listed.{following_right}
use Rattle.reader.proofs.finds.following.Goals as goal

pub returns-clause-right : goal.returns-clause-right
returns-clause-right g c =
    following_right (memory_of c.args.table.now)
    (place_of c.args.start (g.S.Source.rest c.args.source.now)) _ _ _ c.reading_after.ensures
