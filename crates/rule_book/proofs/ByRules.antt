-- A book over the table of a loaded file is a book by its rules.
use Rattle.std.proofs.Common.{◌≡◌, ℕ, ◌<◌, List, [], ◌++◌, length, drop, Ok, Result, sym, ap, subst, ◌∙◌}
use Rattle.std.specs.List.{All}
use Rattle.grammar.specs.File.{RuleFile}
use Rattle.places.specs.declared.Reading.{Reading}
use Rattle.places.specs.Listing.{Place, Listing}
use Rattle.table.specs.declared.held.Table.{Table}
use Rattle.table.specs.Memory.{Memory}
use Rattle.table.specs.Readings.{cut}
use Rattle.table.specs.Held.{memory_of}
use Rattle.scan.specs.Listing.{table_listing}
use Rattle.plain.specs.declared.Line.{Line}
use Rattle.plain.specs.declared.Answer.{Answer}
use Rattle.plain.specs.Book.{World, Plain, after, answers}
use Rattle.plain.specs.Transcript.{latest_first}
use Rattle.plain.specs.Strip.{strip_told, strip_after}
use Rattle.plain.specs.Lawful.{Lawful}
use Rattle.plain.specs.Theorems.{ListsRules, PutsBytes, book_told, transcript}
use Rattle.plain.proofs.Told.{book_is_told, strip_is_told}
use Rattle.plain.proofs.Rules.{one_book, rules_book_is_lawful}
use Rattle.positions.specs.Memory.{Work}
use Rattle.grammar.specs.declared.Fault.{Fault}
use Rattle.loader.specs.declared.Sizes.{Sizes}
use Rattle.loader.specs.Load.{Accepted, Leaves}
use Rattle.reader.specs.Follows.{Around, world_of}
use Rattle.reader.specs.Kept.{opened_at, entries_of, IsKept, IsTold}
use Rattle.reader.proofs.Reach.{entries_kept}
use Rattle.rule_book.specs.Kept.{world_by, IsKeptByRules}

pub accepted_of :
    (file : List ℕ) (m m' : Memory) (w w' : Work) (r : Result Sizes Fault) (sizes : Sizes) →
    r ≡ Ok sizes → Leaves file m m' w w' r → Accepted file (length m.rows) m'
accepted_of file m m' w w' r sizes e leaves = subst (Leaves file m m' w w') e leaves

module _ (says : RuleFile) (capacity : ℕ) (lines : List Line) (old : Around) (room : List Answer)
    (new : Around) (written : List Answer) where
  -- the rules leave nothing open
  other_listing :
      (one other : Place → List Reading) →
      ListsRules says.rules one → ListsRules says.rules other →
      All (λ b. b < 256) old.rest → All PutsBytes lines →
      IsKept (world_by says capacity one) lines old room new written →
      IsKept (world_by says capacity other) lines old room new written
  other_listing one other by_one by_other small puts kept =
      let first = world_by says capacity one in
      let second = world_by says capacity other in
      let same : answers first (opened_at old) lines ≡ answers second (opened_at old) lines =
      one_book says.rules (length says.conditions.names) capacity one other old.rest old.slack lines
      by_one by_other small puts in
      let entries :
      transcript first old.rest old.slack lines ≡ transcript second old.rest old.slack lines =
      ap (λ (xs : List Answer). latest_first lines xs []) same in
      let books : after first (opened_at old) lines ≡ after second (opened_at old) lines =
      book_is_told first old.rest old.slack lines
      ∙ ap (book_told capacity old.rest old.slack) entries
      ∙ sym (book_is_told second old.rest old.slack lines) in
      let strips :
      strip_after first (opened_at old) old.strip lines
      ≡ strip_after second (opened_at old) old.strip lines =
      strip_is_told first old.rest old.slack old.strip lines
      ∙ ap (strip_told old.rest old.strip) entries
      ∙ sym (strip_is_told second old.rest old.slack old.strip lines) in
      record {
        answered = kept.answered ∙ ap (λ (xs : List Answer). xs ++ drop (length lines) room) same;
        left = kept.left ∙ ap (λ (b : Plain). b.place.rest) books;
        slack_left = kept.slack_left ∙ ap (λ (b : Plain). b.slack) books;
        strip_left = kept.strip_left ∙ strips;
      }

  lawful_by :
      (listing : Place → List Reading) → ListsRules says.rules listing →
      All (λ b. b < 256) old.rest → All PutsBytes lines →
      IsKept (world_by says capacity listing) lines old room new written →
      Lawful (Listing says.rules) old.rest (entries_of lines written)
  lawful_by listing by_rules small puts kept =
      let world = world_by says capacity listing in
      let same = entries_kept world old lines room written new kept in
      subst (Lawful (Listing says.rules) old.rest) (sym same)
      (rules_book_is_lawful says.rules world old.rest old.slack lines by_rules small puts)

-- what a book over a table with this memory stands on
abbrev over : ℕ → Memory → World
over capacity m =
    record { conditions = m.loaded.condition_count; capacity = capacity; listing = table_listing m }

pub kept_by_rules :
    (file : List ℕ) (n : ℕ) (m : Memory) (table : Table) (capacity : ℕ) (lines : List Line)
    (old : Around) (room : List Answer) (new : Around) (written : List Answer) →
    Accepted file n m → memory_of table ≡ cut m →
    All (λ b. b < 256) old.rest → All PutsBytes lines →
    IsKept (world_of table capacity) lines old room new written →
    IsTold capacity old new (entries_of lines written) →
    IsKeptByRules file capacity lines old room new written
kept_by_rules file n m table capacity lines old room new written accepted taken small puts kept
    told =
    let says = accepted.says in
    let listing = table_listing (cut m) in
    let count : m.loaded.condition_count ≡ length says.conditions.names =
    ap (λ (x : Memory). x.loaded.condition_count) accepted.loaded in
    let same : world_of table capacity ≡ world_by says capacity listing =
    ap (over capacity) taken
    ∙ ap (λ (k : ℕ). record (over capacity (cut m)) { conditions = k }) count in
    let by_table : IsKept (world_by says capacity listing) lines old room new written =
    subst (λ (w : World). IsKept w lines old room new written) same kept in
    record {
      says = says;
      right = accepted.right;
      kept = λ other by_other.
          other_listing says capacity lines old room new written listing other accepted.lists
          by_other small puts by_table;
      lawful =
          lawful_by says capacity lines old room new written listing accepted.lists small puts
          by_table;
      told = told;
    }
