use Rattle.std.proofs.Common.{◌≡◌, length, sym, subst, arith}
use Rattle.table.specs.Held.{memory_of}
use Rattle.scan.specs.Listing.{table_listing}
use Rattle.plain.specs.Lawful.{Lawful}
use Rattle.plain.proofs.Whole.{book_is_lawful}
use Rattle.reader.specs.Follows.{world_of, around}
use Rattle.reader.proofs.Listed.{table_lists_right}
use Rattle.reader.proofs.Reach.{begins, one_more, all_kept, all_told, all_bytes, entries_kept}
use Rattle.reader.proofs.whole.book.Goals as goal

pub loop-k-init : goal.loop-k-init
loop-k-init g c =
    let world = world_of c.args.table.now g.S.Source.CAPACITY in
    let s = c.args.source.now in
    let old = around (g.S.Source.rest s) (g.S.Source.slack s) c.args.strip.now in
    begins world old c.args.lines.now c.args.answers.now c.open.result
    c.open.ensures.condition c.open.ensures.line_start c.open.ensures.kept

pub loop-k-preserved : goal.loop-k-preserved
loop-k-preserved g c =
    let world = world_of c.args.table.now g.S.Source.CAPACITY in
    let s = c.args.source.now in
    let old = around (g.S.Source.rest s) (g.S.Source.slack s) c.args.strip.now in
    let was = c.loop-k.source in
    let here = around (g.S.Source.rest was) (g.S.Source.slack was) c.loop-k.strip in
    let is = c.step-next.new.source in
    let new = around (g.S.Source.rest is) (g.S.Source.slack is) c.step-next.new.strip in
    one_more world old c.args.lines.now c.args.answers.now c.loop-k.answers c.loop-k.k here new
    c.loop-k.reader c.step-next.result _ c.loop-k-test.true c.if-answers-lines.false
    c.loop-k.invariant c.step-next.ensures.follows
    c.step-next.ensures.byte

pub returns-clause-kept : goal.returns-clause-kept
returns-clause-kept g c =
    let world = world_of c.args.table.now g.S.Source.CAPACITY in
    let s = c.args.source.now in
    let old = around (g.S.Source.rest s) (g.S.Source.slack s) c.args.strip.now in
    let t = c.loop-k.source in
    let here = around (g.S.Source.rest t) (g.S.Source.slack t) c.loop-k.strip in
    let past : length c.args.lines.now ≡ c.loop-k.k = omega arith in
    all_kept world old c.args.lines.now c.args.answers.now c.loop-k.answers c.loop-k.k here
    c.loop-k.reader past c.loop-k.invariant

-- what was written are the plain book's entries
pub returns-clause-laws : goal.returns-clause-laws
returns-clause-laws g c =
    let m = memory_of c.args.table.now in
    let world = world_of c.args.table.now g.S.Source.CAPACITY in
    let s = c.args.source.now in
    let old = around (g.S.Source.rest s) (g.S.Source.slack s) c.args.strip.now in
    let t = c.loop-k.source in
    let here = around (g.S.Source.rest t) (g.S.Source.slack t) c.loop-k.strip in
    let lines = c.args.lines.now in
    let kept = returns-clause-kept g c in
    let same = entries_kept world old lines c.args.answers.now c.loop-k.answers here kept in
    let lawful = book_is_lawful world old.rest old.slack lines (table_lists_right m) in
    subst (Lawful (λ place listed. listed ≡ table_listing m place) old.rest) (sym same) lawful

pub returns-clause-told : goal.returns-clause-told
returns-clause-told g c =
    let world = world_of c.args.table.now g.S.Source.CAPACITY in
    let s = c.args.source.now in
    let old = around (g.S.Source.rest s) (g.S.Source.slack s) c.args.strip.now in
    let t = c.loop-k.source in
    let here = around (g.S.Source.rest t) (g.S.Source.slack t) c.loop-k.strip in
    all_told world old c.args.lines.now c.args.answers.now c.loop-k.answers here
    (returns-clause-kept g c)

pub returns-clause-bytes : goal.returns-clause-bytes
returns-clause-bytes g c =
    all_bytes c.args.lines.now c.loop-k.k (omega arith) c.loop-k.invariant.bytes
