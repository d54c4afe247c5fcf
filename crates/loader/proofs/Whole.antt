-- A whole file, read into the first sets of work memory that may be longer.
use Rattle.std.proofs.Common.{◌≡◌, ℕ, ◌<◌, ◌≤◌, Bool, true, false, cond, List, ◌++◌, length, take, drop, Ok, Err, Result, refl, ap, ◌∙◌, arith, take-append-drop}
use Rattle.std.proofs.lemmas.Bool.{le-leb}
use Rattle.std.specs.Result.{is_err}
use Rattle.positions.specs.Memory.{Work}
use Rattle.grammar.specs.declared.Fault.{Fault}
use Rattle.grammar.specs.declared.Refusal.TheVariants.{FileTooLong}
use Rattle.grammar.specs.Outcome.{Out, fault, refused}
use Rattle.grammar.specs.File.{RuleFile, sections, rule_file_of}
use Rattle.table.specs.declared.loaded.Loaded.{Loaded}
use Rattle.table.specs.Zeros.{zeros}
use Rattle.loader.specs.declared.rules.Counts.{Counts}
use Rattle.loader.specs.Sections.{FileRead, FileReads, Answers}
use Rattle.loader.proofs.Sets.{rules_kept_longer}
use Rattle.loader.proofs.HeldRules.{laid_kept, held_few, places}

-- what is read lies in longer memory as well
longer : (o : Out RuleFile) (w rest : Work) (l : Loaded) (c : Counts) → 4096 ≤ length w → FileRead o w l c → FileRead o (w ++ rest) l c
longer o w rest l c h r =
    let few = held_few l.rules (r.file).rules r.holds.rules in
    let room = places l r.holds.trails in
    record {
      file = r.file;
      is = r.is;
      holds = r.holds;
      laid = laid_kept w (w ++ rest) 0 0 (r.file).rules r.laid (rules_kept_longer w rest (omega arith)) (omega arith);
      rules = r.rules;
      conditions = r.conditions;
      positions = r.positions;
    }

module _ (text : List ℕ) (l l' : Loaded) (w : Work) (big : 4096 ≤ length w) where
  pub too_long : (ws : Work) (n : ℕ) (e : Fault) → ws ≡ take n w → 8192 < length text → e ≡ fault FileTooLong 0
      → Answers text l l w (ws ++ drop n w) (Err e)
  too_long ws n e is long is-long = record {
    short = λ a. absurd (omega arith);
    long = λ a b. (ap (λ (f : Fault). Err f) is-long, refl, ap (λ (xs : Work). xs ++ drop n w) is ∙ take-append-drop n w);
    reads = λ a b. absurd (omega arith);
  }

  judged : length text ≤ 8192 → rule_file_of text ≡ sections text
  judged h = ap (λ (b : Bool). cond b (sections text) (refused FileTooLong 0)) (le-leb (length text) 8192 h)

  pub read_done : (ws rest : Work) (r : Result Counts Fault) → false ≡ is_err r → 4096 ≤ length ws → length text ≤ 8192 → FileReads text ws l' r → Answers text l l' w (ws ++ rest) r
  read_done ws rest (Ok c) e h few r = record {
    short = λ a. absurd (omega arith);
    long = λ a b. absurd (omega arith);
    reads = λ a b. rw (judged few) (longer (sections text) ws rest l' c h r);
  }
  read_done ws rest (Err f) e h few r = cc

  pub read_fails : (l₁ : Loaded) (ws w' : Work) (r : Result Counts Fault) → true ≡ is_err r → length text ≤ 8192 → l' ≡ zeros → FileReads text ws l₁ r → Answers text l l' w w' r
  read_fails l₁ ws w' (Ok c) e few z r = cc
  read_fails l₁ ws w' (Err f) e few z r = record {
    short = λ a. absurd (omega arith);
    long = λ a b. absurd (omega arith);
    reads = λ a b. rw (judged few) (r, z);
  }
