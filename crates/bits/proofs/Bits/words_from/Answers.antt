use Rattle.std.proofs.Common.{◌≡◌, ℕ, ◌+◌, ◌*◌, ◌/◌, ◌%◌, get_or, sym, ap, ◌∙◌, arith, rules}
use Rattle.bits.specs.Set.{bit, has}
use Rattle.bits.proofs.Words.{has_by_words, has_at}
use Rattle.bits.proofs.Bits.words_from.Goals as goal

pub returns : goal.returns
returns g c = λ j.
    let from = c.args.from in
    let before = c.args.self.now.words in
    let after = c.of_words.result.words in
    has_by_words after g.row.V j (has before (64 * from + j)) (search rules)
    (λ lt.
    let e : get_or after (j / 64) 0 ≡ get_or before (from + j / 64) 0 = search (rules, c.of_words.ensures (j / 64) lt) in
    ap (λ (v : ℕ). bit v (j % 64)) e ∙ sym (has_at before (64 * from + j) (from + j / 64) (j % 64) (omega arith) (omega arith)))
