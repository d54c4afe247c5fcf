-- The examples by computing.
use Rattle.std.proofs.Common.{◌≡◌, ℕ, List, [], ◌∷◌, Ok, Err, codes, slice_index_or, refl, sym, ap, ◌∙◌, subst, arith}
use Rattle.grammar.specs.Outcome.{Out, many}
use Rattle.grammar.specs.Bytes.{span, value, name_length}
use Rattle.grammar.specs.Lines.{lines_from, trimmed}
use Rattle.grammar.specs.Expressions.{atom_by, piece_by, branch_by, alternation_by}
use Rattle.grammar.specs.Conditions.{only_initial}
use Rattle.grammar.specs.File.{RuleText, RuleFile, rule_file_of}
use Rattle.places.specs.declared.Reading.{Reading}
use Rattle.places.specs.Listing.{single, Listing}
use Rattle.places.proofs.Rows.{listed_readings, listed_are, one_listing}
use Rattle.plain.specs.Moves.{opening}
use Rattle.examples.specs.Worked.{Lists, reading, ListingsWorked, OthersNotListed}

-- what an accepted file says
abbrev pub said : Out RuleFile → RuleFile
said (Ok f) = f
said (Err e) = record { conditions = only_initial; rules = []; used = 0 }

abbrev rules_of : List ℕ → List RuleText
rules_of file = (said (rule_file_of file)).rules

lists : (file text : List ℕ) (ds : List Reading) → rule_file_of file ≡ Ok (said (rule_file_of file)) → listed_readings (rules_of file) (opening text) ≡ ds → Lists file text ds
lists file text ds right same = (said (rule_file_of file), right, subst (Listing (rules_of file) (opening text)) same (listed_are (rules_of file) (opening text)))

pub listings_worked : ListingsWorked
unfolding span value many atom_by piece_by branch_by alternation_by lines_from trimmed name_length
listings_worked = record {
  three_rules = lists (codes "%%\nab|abc ;\nab/c ;\n[a-c]+ ;\n") (codes "abca") _ refl refl;
  interval = lists (codes "%%\nab{2} ;\n") (codes "abab") _ refl refl;
  greatest_head = lists (codes "%%\na+/a*b ;\n") (codes "aaab") _ refl refl;
  no_newline = lists (codes "%%\na$ ;\n") (codes "a") _ refl refl;
  newline = lists (codes "%%\na$ ;\n") (codes "a\n") _ refl refl;
}

-- a text has one listing
only : (file text : List ℕ) (ds es : List Reading) → Lists file text ds → Lists file text es → ds ≡ es
only file text ds es a b =
    let same : b.0 ≡ a.0 = ap said (sym b.1 ∙ a.1) in
    (one_listing (a.0).rules (opening text)).1 ds es a.2 (subst (λ (f : RuleFile). Listing f.rules (opening text) es) same b.2)

pub others_not_listed : OthersNotListed
unfolding span value many atom_by piece_by branch_by alternation_by lines_from trimmed name_length
others_not_listed = record {
  by_head = λ o.
      let e : 2 ≡ 3 = ap (λ (ds : List Reading). (slice_index_or ds 2 single).rule) (only (codes "%%\nab|abc ;\nab/c ;\n[a-c]+ ;\n") (codes "abca") _ _ listings_worked.three_rules o) in
      absurd (omega (arith, e));
  shortest_head = λ o.
      let e : 3 ≡ 1 = ap (λ (ds : List Reading). (slice_index_or ds 0 single).head) (only (codes "%%\na+/a*b ;\n") (codes "aaab") _ _ listings_worked.greatest_head o) in
      absurd (omega (arith, e));
  last_byte_repeated = λ o.
      let worked : Lists (codes "%%\nab{2} ;\n") (codes "abb") (reading 0 1 1 ∷ []) = lists (codes "%%\nab{2} ;\n") (codes "abb") _ refl refl in
      let e : 1 ≡ 3 = ap (λ (ds : List Reading). (slice_index_or ds 0 single).total) (only (codes "%%\nab{2} ;\n") (codes "abb") _ _ worked o) in
      absurd (omega (arith, e));
}
