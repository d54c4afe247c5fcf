-- What is promised of a file that is read and not loaded.
use Rattle.std.proofs.Common.{◌≡◌, ℕ, ◌<◌, ◌≤◌, List, length, Ok, Err, Result, leb, sym, ap, ◌∙◌, subst, inl, inr}
use Rattle.std.proofs.lemmas.Bool.{cases_lt, cond-true, cond-false, le-leb, lt-leb}
use Rattle.positions.specs.Memory.{Work}
use Rattle.grammar.specs.declared.Fault.{Fault}
use Rattle.grammar.specs.declared.Refusal.{Refusal}
use Rattle.grammar.specs.declared.Refusal.TheVariants.{Memory, FileTooLong, Misfit, UnknownName, DeclaredAgain, OutOfBounds, LimitPassed, TooManyRows}
use Rattle.grammar.specs.Outcome.{Out, refused, then}
use Rattle.grammar.specs.File.{RuleFile, sections, rule_file_of}
use Rattle.table.specs.declared.loaded.Loaded.{Loaded}
use Rattle.table.specs.Zeros.{zeros}
use Rattle.loader.specs.declared.rules.Counts.{Counts}
use Rattle.loader.specs.Load.{RefusalLeaves}
use Rattle.loader.specs.ReadRules.{counts_of, counted, ReadingLeaves, ReadsRules}
use Rattle.loader.specs.Sections.{FileGives, Answers}
use Rattle.loader.proofs.Exact.{read_is}
use Rattle.loader.proofs.Judged.{OfGrammar, grammar_refuses}

-- zeros are left by each refusal of the grammar
pub leaves_zeros : {X : Type 0} (why : Refusal) (x x' z : X) (w w' : Work) → OfGrammar why → x' ≡ z → RefusalLeaves why x x' z w w'
leaves_zeros Memory x x' z w w' g e = absurd g
leaves_zeros FileTooLong x x' z w w' g e = absurd g
leaves_zeros Misfit x x' z w w' g e = e
leaves_zeros UnknownName x x' z w w' g e = e
leaves_zeros DeclaredAgain x x' z w w' g e = e
leaves_zeros OutOfBounds x x' z w w' g e = e
leaves_zeros LimitPassed x x' z w w' g e = e
leaves_zeros TooManyRows x x' z w w' g e = absurd g

module _ (text : List ℕ) where
  -- length is judged first
  pub judged : length text ≤ 8192 → rule_file_of text ≡ sections text
  judged few = cond-true (leb (length text) 8192) (sections text) (refused FileTooLong 0) (le-leb (length text) 8192 few)

  pub too_long : 8192 < length text → rule_file_of text ≡ refused FileTooLong 0
  too_long many = cond-false (leb (length text) 8192) (sections text) (refused FileTooLong 0) (lt-leb (length text) 8192 many)

  module _ (l l' : Loaded) (w w' : Work) where
    abbrev says : Out RuleFile → Out Counts
    says o = then o (λ f. Ok (counts_of f))

    no_room : length w < 4096 → counted text (length w) ≡ refused Memory 0
    no_room h = cond-false (leb 4096 (length w)) (says (rule_file_of text)) (refused Memory 0) (lt-leb 4096 (length w) h)

    room : 4096 ≤ length w → counted text (length w) ≡ says (rule_file_of text)
    room h = cond-true (leb 4096 (length w)) (says (rule_file_of text)) (refused Memory 0) (le-leb 4096 (length w) h)

    read : (r : Result Counts Fault) → 4096 ≤ length w → length text ≤ 8192 → FileGives (rule_file_of text) w' l' r → ReadsRules text l l' w w' r
    read (Ok c) big few h = record {
      answer = ap Ok same ∙ sym (room big ∙ ap says h.is);
      leaves = (h.file, h.is, read_is h.file l' h.holds);
    }
      where
        same : c ≡ counts_of h.file
        same = λ i. record { rules = h.rules i; conditions = h.conditions i; positions = h.positions i }
    read (Err e) big few h = record {
      answer = sym (room big ∙ ap says h.0);
      leaves = leaves_zeros e.refusal l l' zeros w w' (grammar_refuses text e (sym (judged few) ∙ h.0)) h.1;
    }

    -- nothing is written
    untouched : (why : Refusal) (r : Result Counts Fault) → r ≡ refused why 0 → counted text (length w) ≡ refused why 0
        → RefusalLeaves why l l' zeros w w' → ReadsRules text l l' w w' r
    untouched why r is e h = record { answer = is ∙ sym e; leaves = subst (ReadingLeaves text l l' w w') (sym is) h }

    pub reads_rules : (r : Result Counts Fault) → Answers text l l' w w' r → ReadsRules text l l' w w' r
    reads_rules r a = elim (cases_lt (length w) 4096) [
      | inl small ↦ let k = a.short small in untouched Memory r k.0 (no_room small) (k.1, k.2)
      | inr big ↦ elim (cases_lt 8192 (length text)) [
        | inl many ↦ let k = a.long big many in untouched FileTooLong r k.0 (room big ∙ ap says (too_long many)) (k.1, k.2)
        | inr few ↦ read r big few (a.reads big few)
      ]
    ]
