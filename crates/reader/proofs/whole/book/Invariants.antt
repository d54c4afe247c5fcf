use Rattle.reader.specs.Follows.{world_of, around}
use Rattle.reader.proofs.Reach.{Reached}
use Rattle.reader.proofs.whole.book.Given as goal

abbrev pub invariant-loop-k : goal.invariant-loop-k
invariant-loop-k g l =
    let world = world_of l.table g.S.Source.CAPACITY in
    let s = l.fn.source in
    let old = around (g.S.Source.rest s) (g.S.Source.slack s) l.fn.strip in
    let here = around (g.S.Source.rest l.source) (g.S.Source.slack l.source) l.strip in
    Reached world old l.lines l.fn.answers l.answers l.k here l.reader
