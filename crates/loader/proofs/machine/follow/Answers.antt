use Rattle.std.proofs.Common.{◌&&◌, ◌||◌, ap, ◌∙◌}
use Rattle.bits.specs.Set.{has}
use Rattle.loader.proofs.MachineSets.{union_behind, halves_behind}
use Rattle.loader.proofs.machine.follow.Goals as goal

pub returns-then-is_empty-clause-members : goal.returns-then-is_empty-clause-members
returns-then-is_empty-clause-members c = λ t. union_behind c.args.machine.now t c.args.live.now.words c.union_of.result.words (c.union_of.ensures.members t)

pub returns-clause-members : goal.returns-clause-members
returns-clause-members c = λ t.
    let low = c.resized-low.result.words in
    let high = c.words_from-high.result.words in
    let apart = c.complement-apart.ensures in
    c.either-2.ensures.members t ∙ ap (λ x. x || has c.union_of-highs.result.words t) (c.either.ensures.members t)
    ∙ halves_behind c.args.machine.now t c.requires c.args.live.now.words low high c.common-both.result.words c.common.result.words c.common-2.result.words
    c.resized-low.ensures.members c.words_from-high.ensures c.common-both.ensures.members
    (λ j. c.common.ensures.members j ∙ ap (λ x. has low j && x) (apart j)) (λ j. c.common-2.ensures.members j ∙ ap (λ x. has high j && x) (apart j))
    (has c.union_of-pairs.result.words t) (has c.union_of-lows.result.words t) (has c.union_of-highs.result.words t)
    (c.union_of-pairs.ensures.members t) (c.union_of-lows.ensures.members t) (c.union_of-highs.ensures.members t)
