use Rattle.loader.specs.Machine.{members}
use Rattle.loader.proofs.Stored.{met_nothing, placed_old, placed_new, placed_full, filled, either_same}
use Rattle.loader.proofs.meet.Goals as goal

pub returns-then-is_empty : goal.returns-then-is_empty
returns-then-is_empty c =
    met_nothing c.args.sets.now c.args.count c.either-set.result c.args.set.now c.requires c.either-set.ensures.members (c.is_empty.ensures.0 c.if-is_empty.true)

pub returns-in-Ok-Old : goal.returns-in-Ok-Old
returns-in-Ok-Old c =
    let x = c.either-set.result in
    let m = c.is_empty.ensures.1 c.if-is_empty.false in
    placed_old c.args.sets.now c.find_or_add.new.items c.args.count x (members c.args.set.now) c.requires c.either-set.ensures.whole
    (either_same x c.args.set.now c.either-set.ensures.members) (filled x.words m.0 c.either-set.ensures.whole m.1) c.find_or_add.result c.find_or_add.ensures c.in-Ok-Old.k _ c.in-Ok-Old.is c.in-Ok-Old.field-0-is

pub returns-in-Ok-New : goal.returns-in-Ok-New
returns-in-Ok-New c =
    let x = c.either-set.result in
    let m = c.is_empty.ensures.1 c.if-is_empty.false in
    placed_new c.args.sets.now c.find_or_add.new.items c.args.count x (members c.args.set.now) c.requires c.either-set.ensures.whole
    (either_same x c.args.set.now c.either-set.ensures.members) (filled x.words m.0 c.either-set.ensures.whole m.1) c.find_or_add.result c.find_or_add.ensures c.in-Ok-New.k _ c.in-Ok-New.is c.in-Ok-New.field-0-is

pub returns-in-Err : goal.returns-in-Err
returns-in-Err c =
    let x = c.either-set.result in
    let m = c.is_empty.ensures.1 c.if-is_empty.false in
    placed_full c.args.sets.now c.find_or_add.new.items c.args.count x (members c.args.set.now) c.requires c.either-set.ensures.whole
    (either_same x c.args.set.now c.either-set.ensures.members) (filled x.words m.0 c.either-set.ensures.whole m.1) c.find_or_add.result c.find_or_add.ensures _ c.in-Err.is
