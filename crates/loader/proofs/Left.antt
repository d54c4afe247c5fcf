-- How the lines of a file unfold, one after another.
use Rattle.std.proofs.Common.{◌≡◌, ℕ, zero, suc, ◌+◌, ◌-◌, ◌^◌, ◌<◌, ◌≤◌, min, List, [], ◌∷◌, length, take, sym, refl, ap, ◌∙◌, inl, inr, arith, length-take-le}
use Rattle.std.proofs.lemmas.Bool.{cases_lt}
use Rattle.std.proofs.lemmas.Grind.{common_steps}
use Rattle.grammar.specs.Lines.{Line, lines_from, line_end, next_line, prepend, divides}
use Rattle.loader.specs.declared.lines.TextLine.{TextLine}
use Rattle.loader.specs.Lines.{IsLine, divides_in}
use Rattle.tokens.proofs.Items.{line_next, line_within, next_within}

module _ (file : List ℕ) where
  unrolled : (k at : ℕ) → at < length file → lines_from (suc k) file at ≡ prepend at (line_end file at) (lines_from k file (next_line file at))
  unfolding lines_from
  unrolled k at h = grind (arith, common_steps)

  pub none_left : (k at : ℕ) → length file ≤ at → lines_from k file at ≡ []
  unfolding lines_from
  none_left zero at h = refl
  none_left (suc k) at h = grind (arith, common_steps)

  -- a turn for each byte is enough, and more turns give no more lines
  one_more : (k at : ℕ) → length file ≤ at + k → lines_from (suc k) file at ≡ lines_from k file at
  one_more zero at h = none_left 1 at (omega arith) ∙ sym (none_left 0 at (omega arith))
  one_more (suc k) at h =
      elim (cases_lt at (length file)) [
        | inl less ↦ unrolled (suc k) at less ∙ ap (prepend at (line_end file at)) (one_more k (next_line file at) (omega (arith, line_next file at))) ∙ sym (unrolled k at less)
        | inr past ↦ none_left (suc (suc k)) at past ∙ sym (none_left (suc k) at past)
      ]

  -- the line at `at`, in front of the others
  turn : (at : ℕ) → at < length file → lines_from (length file) file at ≡ prepend at (line_end file at) (lines_from (length file) file (next_line file at))
  turn at less = sym (one_more (length file) at (omega arith)) ∙ unrolled (length file) at less

-- as `line_at` tells a line's end and the next line
module _ (file : List ℕ) (at end next : ℕ) (less : at < length file) (few : length file ≤ 8192) (end-is : end ≡ line_end file at) (next-is : next ≡ min (next_line file at) (2 ^ 64 - 1)) where
  plain : next ≡ next_line file at
  plain = omega (arith, next_within file at (omega arith), next-is)

  told : lines_from (length file) file at ≡ prepend at end (lines_from (length file) file next)
  told = rw (end-is, plain) (turn file at less)

  pub within : end ≤ length file
  within = omega (arith, end-is, line_within file at (omega arith))

  pub whole : end ≡ length (take end file)
  whole = sym (length-take-le end file within)

  pub given : at < end → lines_from (length file) file at ≡ record { start = at; end = end } ∷ lines_from (length file) file next
  given h = let t = told in grind (arith, common_steps)

  pub passed : end ≤ at → lines_from (length file) file next ≡ lines_from (length file) file at
  passed h = let t = told in grind (arith, common_steps)

-- a line divides where its text ends in what divides
pub divides_is : (file : List ℕ) (l : Line) (x : TextLine) → IsLine file l x → divides_in x.text.now x.start ≡ divides file l
divides_is file l x i = grind (arith, common_steps)
