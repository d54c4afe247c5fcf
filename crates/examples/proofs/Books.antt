-- The books by computing.
use Rattle.std.proofs.Common.{◌≡◌, ℕ, ◌<◌, Bool, true, List, [], ◌∷◌, Ok, codes, nat_lt, refl, ◌∙◌}
use Rattle.std.specs.Str.{byte}
use Rattle.std.specs.List.{All, list_all}
use Rattle.std.proofs.lemmas.Bool.{and_parts, ltb-true}
use Rattle.std.proofs.lemmas.List.Elements.{All-nil, All-cons}
use Rattle.grammar.specs.Outcome.{many}
use Rattle.grammar.specs.Bytes.{span, value, name_length}
use Rattle.grammar.specs.Lines.{lines_from, trimmed}
use Rattle.grammar.specs.Expressions.{atom_by, piece_by, branch_by, alternation_by}
use Rattle.grammar.specs.File.{rule_file_of}
use Rattle.places.proofs.Rows.{listed_readings, listed_are}
use Rattle.plain.specs.declared.Line.{Line}
use Rattle.plain.specs.declared.Line.TheVariants.{Next, Reject, Accept, Keep, Extend, Begin, PutBack}
use Rattle.plain.specs.declared.Answer.{Answer}
use Rattle.plain.specs.Book.{opened, answers}
use Rattle.plain.specs.Theorems.{PutsBytes}
use Rattle.plain.proofs.Rules.{one_book}
use Rattle.examples.specs.Books.{world_of, Answers, BooksWorked}
use Rattle.examples.proofs.Computed.{said}

abbrev small : ℕ → Bool
small b = nat_lt b 256

bytes_of : (s : List ℕ) → list_all small s ≡ true → All (λ b. b < 256) s
bytes_of [] e = All-nil (λ b. b < 256)
bytes_of (b ∷ s) e =
    let both = and_parts (small b) (list_all small s) e in
    All-cons (λ b. b < 256) b s (ltb-true b 256 both.0) (bytes_of s both.1)

abbrev puts_small : Line → Bool
puts_small (PutBack b) = small b
puts_small _ = true

puts_byte : (line : Line) → puts_small line ≡ true → PutsBytes line
puts_byte (PutBack b) e = ltb-true b 256 e
puts_byte Next e = tt
puts_byte Reject e = tt
puts_byte Accept e = tt
puts_byte (Keep n) e = tt
puts_byte Extend e = tt
puts_byte (Begin c) e = tt

puts_of : (lines : List Line) → list_all puts_small lines ≡ true → All PutsBytes lines
puts_of [] e = All-nil PutsBytes
puts_of (line ∷ lines) e =
    let both = and_parts (puts_small line) (list_all puts_small lines) e in
    All-cons PutsBytes line lines (puts_byte line both.0) (puts_of lines both.1)

-- the answers where the book lists by a search
answered :
    (file text : List ℕ) (capacity : ℕ) (lines : List Line) (told : List Answer) → rule_file_of file ≡ Ok (said (rule_file_of file)) →
    list_all small text ≡ true → list_all puts_small lines ≡ true →
    answers (world_of (said (rule_file_of file)) capacity (listed_readings (said (rule_file_of file)).rules)) (opened text 0) lines ≡ told → Answers file text capacity lines told
answered file text capacity lines told right bytes puts same =
    let f = said (rule_file_of file) in
    (f, right, λ listing lists. one_book f.rules _ capacity listing (listed_readings f.rules) text 0 lines lists (λ p b. listed_are f.rules p) (bytes_of text bytes) (puts_of lines puts) ∙ same)

pub books_worked : BooksWorked
unfolding span value many atom_by piece_by branch_by alternation_by lines_from trimmed name_length
books_worked = record {
  one_rule = answered (codes "%%\na ;\n") (codes "a") 0 (Reject ∷ Next ∷ Next ∷ Reject ∷ Reject ∷ Accept ∷ Next ∷ []) _ refl refl refl refl;
  kept = answered (codes "%%\nab ;\nc ;\n") (codes "abc") 0 (Next ∷ Extend ∷ Next ∷ Keep 2 ∷ Keep 3 ∷ []) _ refl refl refl refl;
  put_back = answered (codes "%%\n^a ;\n") (codes "a") 2 (PutBack (byte "a") ∷ Next ∷ Accept ∷ PutBack (byte "a") ∷ Begin 1 ∷ Next ∷ Accept ∷ []) _ refl refl refl refl;
  strip = refl;
}
