use Rattle.std.proofs.Common.{length}
use Rattle.table.specs.Memory.{memory}
use Rattle.loader.specs.Load.{Accepted}
use Rattle.reader.specs.Follows.{around}
use Rattle.rule_book.proofs.ByRules.{accepted_of, kept_by_rules}
use Rattle.rule_book.proofs.whole.book_of_rules.Goals as goal

pub returns-clause-kept : goal.returns-clause-kept
returns-clause-kept g c =
    let file = c.args.file.now in
    let before = memory c.args.loaded.now c.args.rows.now in
    let m = memory c.load.new.loaded c.load.new.rows in
    let s = c.args.source.now in
    let old = around (g.S.Source.rest s) (g.S.Source.slack s) c.args.strip.now in
    let t = c.book.new.source in
    let new = around (g.S.Source.rest t) (g.S.Source.slack t) c.book.new.strip in
    let accepted : Accepted file (length c.args.rows.now) m =
    accepted_of file before m c.args.work.now c.load.new.work c.load.result _ c.in_ok-load.was
    c.load.ensures.leaves in
    let book = c.in_ok-book.ensures in
    kept_by_rules file (length c.args.rows.now) m c.take_up-table.result g.S.Source.CAPACITY
    c.args.lines.now old c.args.answers.now new c.book.new.answers accepted
    (c.take_up-table.ensures.whole accepted.sound) (g.met.S.Source.small s) book.bytes book.kept
    book.told
