-- Listings, worked out.
use Rattle.std.specs.Prelude.{◌≡◌, ℕ, List, [], ◌∷◌, Ok, codes}
use Rattle.grammar.specs.File.{RuleFile, rule_file_of}
use Rattle.places.specs.declared.Reading.{Reading}
use Rattle.places.specs.Listing.{Listing}
use Rattle.plain.specs.Moves.{opening}

-- the rule file is right, and its rules list ds where the text begins
abbrev pub Lists : List ℕ → List ℕ → List Reading → Type 0
Lists file text ds = (f : RuleFile) × (rule_file_of file ≡ Ok f) × Listing f.rules (opening text) ds

abbrev pub reading : ℕ → ℕ → ℕ → Reading
reading rule total head = record { rule = rule; total = total; head = head }

pub record ListingsWorked : Type 0 where
  -- longer totals first, then earlier rules, whatever the heads; a rule has a reading for each
  -- total
  pub three_rules :
      Lists (codes "%%\nab|abc ;\nab/c ;\n[a-c]+ ;\n") (codes "abca")
      (reading 3 4 4 ∷ reading 1 3 3 ∷ reading 2 3 2 ∷ reading 3 3 3 ∷ reading 1 2 2 ∷ reading 3 2 2
      ∷ reading 3 1 1 ∷ reading 0 1 1 ∷ [])
  -- an interval is over everything to its left
  pub interval : Lists (codes "%%\nab{2} ;\n") (codes "abab") (reading 1 4 4 ∷ reading 0 1 1 ∷ [])
  -- of the heads that a total has, the greatest
  pub greatest_head : Lists (codes "%%\na+/a*b ;\n") (codes "aaab") (reading 1 4 3 ∷ reading 0 1 1
      ∷ [])
  -- `$` asks for a newline, which is in the total and not in the head
  pub no_newline : Lists (codes "%%\na$ ;\n") (codes "a") (reading 0 1 1 ∷ [])
  pub newline : Lists (codes "%%\na$ ;\n") (codes "a\n") (reading 1 2 1 ∷ reading 0 1 1 ∷ [])

-- what three wrong ways to read would list, and what is not the listing
pub record OthersNotListed : Type 0 where
  -- heads before totals
  pub by_head :
      Lists (codes "%%\nab|abc ;\nab/c ;\n[a-c]+ ;\n") (codes "abca")
      (reading 3 4 4 ∷ reading 1 3 3 ∷ reading 3 3 3 ∷ reading 1 2 2 ∷ reading 2 3 2 ∷ reading 3 2 2
      ∷ reading 3 1 1 ∷ reading 0 1 1 ∷ []) → ⊥
  -- the shortest head
  pub shortest_head : Lists (codes "%%\na+/a*b ;\n") (codes "aaab") (reading 1 4 1 ∷ reading 0 1 1
      ∷ []) → ⊥
  -- an interval over the last byte alone
  pub last_byte_repeated : Lists (codes "%%\nab{2} ;\n") (codes "abb") (reading 1 3 3
      ∷ reading 0 1 1 ∷ []) → ⊥
