use Rattle.std.proofs.Common.{ℕ, replicate, ◌∙◌, ap}
use Rattle.table.specs.Zeros.{no_row}
use Rattle.tokens.proofs.Follow.{thrown}
use Rattle.loader.proofs.Loading.{room, loads_refused, loads_full, loads_built, few_positions, few_rules, few_conditions, is_read, as_many_rows, built_in, own_zeros, full_in}
use Rattle.loader.proofs.load.Goals as goal

pub returns-in_err-counts : goal.returns-in_err-counts
returns-in_err-counts c =
    let p = room c.args.file.now c.args.loaded.now c.args.rows.now c.args.work.now c.if-not-is_enough.ensures c.if-file-gt-FILE_BYTES.false in
    let r = c.in_err-counts.ensures.reads p.2 c.if-file-gt-FILE_BYTES.false in
    loads_refused c.args.file.now c.args.loaded.now c.args.rows.now c.args.work.now c.if-not-is_enough.ensures c.if-file-gt-FILE_BYTES.false
    c.in_err-counts.field-0.0 c.from_residual.result c.lay_rules.new.loaded c.clear.new.rows c.lay_rules.new.work (thrown _ _ c.from_residual.ensures.1) r.0 r.1 c.clear.ensures

pub build_in-requires-clause-positions : goal.build_in-requires-clause-positions
build_in-requires-clause-positions c =
    let p = room c.args.file.now c.args.loaded.now c.args.rows.now c.args.work.now c.if-not-is_enough.ensures c.if-file-gt-FILE_BYTES.false in
    few_positions c.args.file.now c.lay_rules.new.loaded c.lay_rules.new.work c.in_ok-counts.counts (c.in_ok-counts.ensures.reads p.2 c.if-file-gt-FILE_BYTES.false)

pub build_in-requires-clause-rules : goal.build_in-requires-clause-rules
build_in-requires-clause-rules c =
    let p = room c.args.file.now c.args.loaded.now c.args.rows.now c.args.work.now c.if-not-is_enough.ensures c.if-file-gt-FILE_BYTES.false in
    few_rules c.args.file.now c.lay_rules.new.loaded c.lay_rules.new.work c.in_ok-counts.counts (c.in_ok-counts.ensures.reads p.2 c.if-file-gt-FILE_BYTES.false)

pub build_in-requires-clause-conditions : goal.build_in-requires-clause-conditions
build_in-requires-clause-conditions c =
    let p = room c.args.file.now c.args.loaded.now c.args.rows.now c.args.work.now c.if-not-is_enough.ensures c.if-file-gt-FILE_BYTES.false in
    few_conditions c.args.file.now c.lay_rules.new.loaded c.lay_rules.new.work c.in_ok-counts.counts (c.in_ok-counts.ensures.reads p.2 c.if-file-gt-FILE_BYTES.false)

pub returns-in_default : goal.returns-in_default
returns-in_default c =
    let text = c.args.file.now in
    let rows = c.args.rows.now in
    let p = room text c.args.loaded.now rows c.args.work.now c.if-not-is_enough.ensures c.if-file-gt-FILE_BYTES.false in
    let h = c.in_ok-counts.ensures.reads p.2 c.if-file-gt-FILE_BYTES.false in
    let n = as_many_rows rows c.clear.new.rows c.clear.ensures in
    loads_full text c.args.loaded.now rows c.args.work.now c.if-not-is_enough.ensures c.if-file-gt-FILE_BYTES.false h.file h.is c.refused-in_default.result c.zeros.result c.clear-in_default.new.rows c.build_in.new.work
    c.refused-in_default.ensures
    (full_in h.file rows c.clear.new.rows n (c.in_default.ensures h.file (is_read text c.lay_rules.new.loaded c.lay_rules.new.work c.in_ok-counts.counts h c.clear.new.rows (own_zeros rows c.clear.new.rows c.clear.ensures))))
    c.zeros.ensures (c.clear-in_default.ensures ∙ ap (λ (m : ℕ). replicate m no_row) (c.build_in.auto.rows ∙ n))

pub returns : goal.returns
returns c =
    let text = c.args.file.now in
    let rows = c.args.rows.now in
    let p = room text c.args.loaded.now rows c.args.work.now c.if-not-is_enough.ensures c.if-file-gt-FILE_BYTES.false in
    let h = c.in_ok-counts.ensures.reads p.2 c.if-file-gt-FILE_BYTES.false in
    let n = as_many_rows rows c.clear.new.rows c.clear.ensures in
    let b = c.in-Some.ensures h.file (is_read text c.lay_rules.new.loaded c.lay_rules.new.work c.in_ok-counts.counts h c.clear.new.rows (own_zeros rows c.clear.new.rows c.clear.ensures)) in
    loads_built text c.args.loaded.now rows c.args.work.now c.if-not-is_enough.ensures c.if-file-gt-FILE_BYTES.false h.file h.is _ c.build_in.new.loaded c.build_in.new.rows c.build_in.new.work
    h.rules h.conditions (c.build_in.auto.rows ∙ n) (built_in h.file c.in-Some.count c.build_in.new.loaded rows c.clear.new.rows c.build_in.new.rows n b)
