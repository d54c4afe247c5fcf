-- The second section, as its loop reads rule after rule.
use Rattle.std.proofs.Common.{◌≡◌, ℕ, zero, suc, ◌+◌, false, List, [], ◌∷◌, ◌++◌, map, length, set, replicate, Some, Ok, sym, refl, ap, ◌∙◌, subst, arith, length-append}
use Rattle.std.proofs.lemmas.List.{map-set}
use Rattle.std.proofs.lemmas.Grind.{common_steps}
use Rattle.positions.specs.Memory.{Work}
use Rattle.grammar.specs.Outcome.{Out, then}
use Rattle.grammar.specs.Lines.{Line, lines}
use Rattle.grammar.specs.Conditions.{Conditions, only_initial}
use Rattle.grammar.specs.File as file
use Rattle.grammar.specs.File.{RuleText, first_section, second_section, rule_line, rule_file, all_positions, sections}
use Rattle.grammar.proofs.Sizes.{positions_more}
use Rattle.conditions.specs.Known.{known}
use Rattle.conditions.specs.declared.Conditions as code
use Rattle.table.specs.declared.loaded.Loaded.{Loaded}
use Rattle.table.specs.declared.loaded.Rule.{Rule}
use Rattle.table.specs.Zeros.{zeros, no_rule}
use Rattle.loader.specs.declared.progress.Progress.{Progress}
use Rattle.loader.specs.declared.lines.TextLine.{TextLine}
use Rattle.loader.specs.declared.lines.TextLines.{TextLines}
use Rattle.loader.specs.Held.{RulesHold, trails_of}
use Rattle.loader.specs.Lines.{left, IsLine, Gives, divides_in}
use Rattle.loader.specs.Sections.{FirstRead, SoFar, Added, Gone, FileRead}
use Rattle.loader.proofs.Left.{divides_is}
use Rattle.loader.proofs.HeldRules.{laid_more, holds_more, places}

-- rules that are read of the lines of s, with those of u left
pub record Adding (s u : TextLines) (c : Conditions) (w : Work) (l₀ l : Loaded) (p : Progress) : Type 0 where
  pub same : u.file.now ≡ s.file.now
  pub rules : List RuleText
  pub so_far : SoFar rules w l₀ l p
  pub rest : second_section s.file.now c [] 0 (left s) ≡ second_section s.file.now c rules p.positions (left u)

zero_rules : (l : Loaded) → l ≡ zeros → l.rules ≡ replicate 64 no_rule
unfolding zeros
zero_rules l e = ap (λ (x : Loaded). x.rules) e

zero_trails : (l : Loaded) → l ≡ zeros → trails_of l ≡ replicate 64 0
unfolding no_rule
zero_trails l e = ap (map (λ (r : Rule). r.trail)) (zero_rules l e)

zero_held : (l : Loaded) → l ≡ zeros → RulesHold l.rules []
zero_held l e = let r = zero_rules l e in r ∙ ap (λ (m : ℕ). replicate m no_rule) (sym (ap length r))

pub adding_start : (s u : TextLines) (c : Conditions) (w : Work) (l : Loaded) → u ≡ s → Adding s u c w l l (record { rules = 0; positions = 0 })
adding_start s u c w l e = record {
  same = ap (λ (t : TextLines). t.file.now) e;
  rules = [];
  so_far = record { count = refl; few = omega arith; used = refl; laid = tt; holds = zero_held l; starts = refl; trails = zero_trails l; row_count = refl };
  rest = ap (λ (t : TextLines). second_section s.file.now c [] 0 (left t)) (sym e);
}

set_zero : (n i : ℕ) → set {A = ℕ} (replicate n 0) i 0 ≡ replicate n 0
set_zero zero i = refl
set_zero (suc n) zero = refl
set_zero (suc n) (suc i) = ap (λ (xs : List ℕ). 0 ∷ xs) (set_zero n i)

-- the rules qs and one more
more : (qs : List RuleText) (w w' : Work) (l₀ l l' : Loaded) (p p' : Progress) (s : List ℕ) (c : Conditions) (at : ℕ) → SoFar qs w l₀ l p → (a : Added s c at p w w' l l' p')
    → SoFar (qs ++ (a.line.rule ∷ [])) w' l₀ l' p'
more qs w w' l₀ l l' p p' s c at f a =
    let q = a.line.rule in
    let i = f.count in
    let len : length (qs ++ (q ∷ [])) ≡ length qs + 1 = length-append qs (q ∷ []) in
    record {
      count = ap (λ (x : Progress). x.rules) a.next ∙ omega (arith, i, len);
      few = omega (arith, a.line.few, i, len);
      used = ap (λ (x : Progress). x.positions) a.next ∙ a.line.counts ∙ omega (arith, f.used, positions_more qs q);
      laid = laid_more w w' 0 0 p.positions p.rules qs q (omega (arith, f.used)) (omega (arith, i)) f.laid a.line.kept a.line.laid;
      holds = λ e. subst (λ (rs : List Rule). RulesHold rs (qs ++ (q ∷ []))) (sym a.rules)
          (holds_more l.rules qs p.rules a.read.rule q i (f.holds e) (omega (arith, places l (f.trails e), a.line.few)) a.line.holds);
      starts = a.starts ∙ f.starts;
      trails = λ e. ap (map (λ (r : Rule). r.trail)) a.rules ∙ map-set (λ (r : Rule). r.trail) l.rules p.rules a.read.rule ∙ rw (f.trails e, a.line.trail) (set_zero 64 p.rules);
      row_count = a.row_count ∙ f.row_count;
    }

-- x is the next of the lines
module _ (s u v : TextLines) (c : Conditions) (w : Work) (l₀ l : Loaded) (p : Progress) (x : TextLine) (a : Adding s u c w l₀ l p) (g : Gives u (Some x) v) where
  abbrev line : Line
  line = g.first.0

  is_line : IsLine s.file.now line x
  is_line = subst (λ (f : List ℕ). IsLine f line x) a.same g.first.2

  -- what is behind the line, of a rule read there
  abbrev behind : file.RuleRead → Out file.RuleFile
  behind r = second_section s.file.now c (a.rules ++ (r.rule ∷ [])) r.used (left v)

  judged : false ≡ divides_in x.text.now x.start → second_section s.file.now c [] 0 (left s) ≡ then (rule_line x.text.now c p.rules x.start p.positions) behind
  judged off =
      let r = a.rest in
      let n = a.so_far.count in
      let d = divides_is s.file.now line x is_line in
      let t = is_line.text in
      let f = g.first.1 in
      grind (arith, common_steps)

  pub adding_more : (w' : Work) (l' : Loaded) (p' : Progress) → false ≡ divides_in x.text.now x.start → Added x.text.now c x.start p w w' l l' p' → Adding s v c w' l₀ l' p'
  adding_more w' l' p' off d = record {
    same = g.file ∙ a.same;
    rules = a.rules ++ (d.line.rule ∷ []);
    so_far = more a.rules w w' l₀ l l' p p' x.text.now c x.start a.so_far d;
    rest =
        judged off
        ∙ ap (λ (o : Out file.RuleRead). then o behind) d.line.is
        ∙ ap (λ (m : ℕ). second_section s.file.now c (a.rules ++ (d.line.rule ∷ [])) m (left v)) (sym (ap (λ (y : Progress). y.positions) d.next));
  }

zero_rows : (l : Loaded) → l ≡ zeros → l.row_count ≡ 0
unfolding zeros
zero_rows l e = ap (λ (x : Loaded). x.row_count) e

-- both sections are the file, in loaded memory that was zeros
pub file_reads : (s t : TextLines) (text : List ℕ) (f : code.Conditions) (w : Work) (l₀ l : Loaded) (p : Progress) (n : ℕ)
    → s.file.now ≡ text → left s ≡ lines text → FirstRead s t f → Gone t (known f) w l₀ l p → n ≡ length (known f).names → l₀ ≡ zeros
    → FileRead (sections text) w
    (record { rules = l.rules; starts = l.starts; rule_count = p.rules; condition_count = n; row_count = l.row_count })
    (record { rules = p.rules; conditions = n; positions = p.positions })
file_reads s t text f w l₀ l p n text-is lines-are r g n-is e =
    let so = g.so_far in
    let first : first_section text only_initial (lines text) ≡ Ok (record { conditions = known f; behind = left t }) =
    ap (first_section text only_initial) (sym lines-are) ∙ ap (λ (u : List ℕ). first_section u only_initial (left s)) (sym text-is) ∙ r.is in
    let second : second_section text (known f) [] 0 (left t) ≡ rule_file (known f) g.rules p.positions =
    ap (λ (u : List ℕ). second_section u (known f) [] 0 (left t)) (sym (r.same ∙ text-is)) ∙ g.is in
    record {
      file = record { conditions = known f; rules = g.rules; used = p.positions };
      is = ap (λ (o : Out file.FirstSection). then o (λ x. second_section text x.conditions [] 0 x.behind)) first ∙ second;
      holds = record {
        rules = so.holds e;
        rule_count = so.count;
        condition_count = n-is;
        starts = so.starts ∙ ap (λ (x : Loaded). x.starts) e;
        trails = so.trails e;
        row_count = so.row_count ∙ zero_rows l₀ e;
      };
      laid = so.laid;
      rules = so.count;
      conditions = n-is;
      positions = refl;
    }
