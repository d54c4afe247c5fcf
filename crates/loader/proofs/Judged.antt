-- The grammar refuses a file for its own reasons only, and a right file has a condition.
use Rattle.std.proofs.Common.{◌≡◌, ℕ, zero, suc, ◌+◌, ◌≤◌, Bool, true, false, cond, eqb, ltb, leb, List, [], ◌∷◌, ◌++◌, length, Some, None, Option, Ok, Err, subst, arith, codes, length-append}
use Rattle.patterns.specs.Expression.{Then, Either}
use Rattle.classes.specs.declared.Class.{Class}
use Rattle.classes.specs.Posix.{class_named}
use Rattle.grammar.specs.declared.Fault.{Fault}
use Rattle.grammar.specs.declared.Read.{Read}
use Rattle.grammar.specs.declared.Step.{Step}
use Rattle.grammar.specs.declared.Step.TheVariants.{Mark, Less}
use Rattle.grammar.specs.declared.Refusal.{Refusal}
use Rattle.grammar.specs.declared.Refusal.TheVariants.{Memory, FileTooLong, Misfit, UnknownName, DeclaredAgain, OutOfBounds, LimitPassed, TooManyRows}
use Rattle.grammar.specs.Outcome.{Out, then, many}
use Rattle.grammar.specs.Bytes.{blank, passes, stands, span, part, name_length, digits, number, literal}
use Rattle.grammar.specs.Lines.{Line, lines, text_of, divides}
use Rattle.grammar.specs.Brackets.{escape_at, element_at, reserved, range_end, ranged, from_element, closed_class, class_at, member_at, in_bracket, joined, member_more, closed_bracket, members_at, bracket_at}
use Rattle.grammar.specs.Expressions.{Parsed, Parser, bytes_at, only_byte, one_of, one_at, quoted_byte, in_quotes, quoted_more, joined_by, past_quote, quote_at, closed_group, group_by, atom_by, marked, repeated_more, piece_by, up_to, bounds_at, repeated_over, branch_goes_on, branch_more, branch_by, bar_ahead, alternation_more, alternation_by, inside, alternation_at}
use Rattle.grammar.specs.Conditions.{Conditions, only_initial, numbered, declared_as, declare_at, declare_more, line_goes_on, declared, declaration, known, condition_at, picked_first, picked_too, comma_ahead, pick_more, closed_list, active_at}
use Rattle.grammar.specs.Actions.{numeral, begun, begin_at, yield_at, Action, step_at, with_step, step_more, action_goes_on, no_steps, steps_of, action_at}
use Rattle.grammar.specs.File.{RuleText, Pattern, trailed_by, trailing_at, pattern_at, rule_of, behind_pattern, behind_active, rule_line, FirstSection, first_section, RuleFile, second_section, sections}

-- a reason that is the grammar's
abbrev pub OfGrammar : Refusal → Type 0
OfGrammar Memory = ⊥
OfGrammar FileTooLong = ⊥
OfGrammar Misfit = Unit {0}
OfGrammar UnknownName = Unit {0}
OfGrammar DeclaredAgain = Unit {0}
OfGrammar OutOfBounds = Unit {0}
OfGrammar LimitPassed = Unit {0}
OfGrammar TooManyRows = ⊥

-- what is read has a property, or is refused for such a reason
data Judged {X : Type 0} (P : X → Type 0) : Out X → Type 0 where
  fine : {x : X} → P x → Judged P (Ok x)
  turned : {f : Fault} → OfGrammar f.refusal → Judged P (Err f)

fine_is : {X : Type 0} {P : X → Type 0} (x : X) → Judged P (Ok x) → P x
fine_is x (fine h) = h

turned_is : {X : Type 0} {P : X → Type 0} (f : Fault) → Judged P (Err f) → OfGrammar f.refusal
turned_is f (turned h) = h

abbrev Any : {X : Type 0} → X → Type 0
Any x = Unit {0}

module _ {X : Type 0} {P : X → Type 0} where
  then_judged : {Y : Type 0} {Q : Y → Type 0} {o : Out X} (f : X → Out Y) → Judged P o → ((x : X) → P x → Judged Q (f x)) → Judged Q (then o f)
  then_judged f (fine h) k = k _ h
  then_judged f (turned h) k = turned h

  cond_judged : (b : Bool) {x y : Out X} → Judged P x → Judged P y → Judged P (cond b x y)
  cond_judged true h k = h
  cond_judged false h k = k

  many_judged : (go : X → Bool) (step : X → Out X) → ((x : X) → P x → Judged P (step x)) → (k : ℕ) (x : X) → P x → Judged P (many go step k x)
  unfolding many
  many_judged go step turn zero x h = fine h
  many_judged go step turn (suc k) x h = cond_judged (go x) (then_judged (many go step k) (turn x h) (λ y p. many_judged go step turn k y p)) (fine h)

module _ (s : List ℕ) where
  literal_judged : (w : List ℕ) (n : ℕ) → Judged Any (literal w s n)
  literal_judged [] n = fine tt
  literal_judged (b ∷ bs) n = cond_judged (stands s n b) (literal_judged bs (n + 1)) (turned tt)

  -- brackets
  escape_judged : (n : ℕ) → Judged Any (escape_at s n)
  escape_judged n = cond_judged _ (fine tt) (turned tt)

  element_judged : (n : ℕ) → Judged Any (element_at s n)
  element_judged n = cond_judged (stands s n 92) (escape_judged (n + 1)) (cond_judged (ltb n (length s)) (fine tt) (turned tt))

  range_judged : (n low : ℕ) (m : ℕ) → Judged Any (then (range_end s m) (ranged n low))
  range_judged n low m = then_judged (ranged n low) (cond_judged (reserved s m) (turned tt) (element_judged m)) (λ e h. cond_judged _ (turned tt) (fine tt))

  class_judged : (n : ℕ) → Judged Any (class_at s n)
  class_judged n = cond_judged (eqb (name_length s n) 0) (turned tt) (at (class_named (part s n (name_length s n))))
    where
      at : (c : Option Class) → Judged Any (closed_class c s n (name_length s n))
      at None = turned tt
      at (Some c) = then_judged _ (literal_judged (codes ":]") (n + name_length s n)) (λ m h. fine tt)

  member_judged : (first : Bool) (n : ℕ) → Judged Any (member_at s first n)
  member_judged first n =
      cond_judged (stands s n 45) (cond_judged _ (fine tt) (turned tt))
      (cond_judged (reserved s n) (cond_judged (stands s (n + 1) 58) (class_judged (n + 2)) (turned tt))
      (then_judged (from_element s n) (element_judged n) (λ e h. cond_judged _ (range_judged n e.value (e.next + 1)) (fine tt))))

  members_judged : (n : ℕ) → Judged Any (members_at s n)
  members_judged n =
      then_judged (many (in_bracket s) (member_more s) (length s)) (member_judged true n)
      (many_judged (in_bracket s) (member_more s) (λ c h. then_judged (joined c) (member_judged false c.next) (λ d k. fine tt)) (length s))

  bracket_judged : (n : ℕ) → Judged Any (bracket_at s n)
  bracket_judged n =
      cond_judged (stands s n 94)
      (then_judged (closed_bracket true) (members_judged (n + 1)) (λ c h. fine tt))
      (then_judged (closed_bracket false) (members_judged n) (λ c h. fine tt))

  -- expressions
  bytes_judged : (n : ℕ) → Judged Any (bytes_at s n)
  bytes_judged n =
      cond_judged (stands s n 91) (bracket_judged (n + 1))
      (cond_judged (stands s n 92) (then_judged only_byte (escape_judged (n + 1)) (λ e h. fine tt)) (cond_judged (stands s n 46) (fine tt) (fine tt)))

  one_judged : (n u : ℕ) → Judged Any (one_at s n u)
  one_judged n u = cond_judged _ (cond_judged (ltb u 512) (then_judged (one_of u) (bytes_judged n) (λ c h. fine tt)) (turned tt)) (turned tt)

  quoted_judged : (n u : ℕ) → Judged Any (quoted_byte s n u)
  quoted_judged n u =
      cond_judged (ltb n (length s))
      (cond_judged (ltb u 512) (then_judged {P = Any} (one_of u) (then_judged only_byte (element_judged n) (λ e h. fine tt)) (λ c h. fine tt)) (turned tt))
      (turned tt)

  quote_judged : (n u : ℕ) → Judged Any (quote_at s n u)
  quote_judged n u =
      cond_judged (stands s n 34) (turned tt)
      (then_judged {P = Any} past_quote
      (then_judged (many (in_quotes s) (quoted_more s) (length s)) (quoted_judged n u)
      (many_judged (in_quotes s) (quoted_more s) (λ p h. then_judged (joined_by Then p) (quoted_judged p.at p.used) (λ q k. fine tt)) (length s)))
      (λ p h. fine tt))

  abbrev Inner : Option Parser → Type 0
  Inner None = Unit {0}
  Inner (Some f) = (n u : ℕ) → Judged Any (f n u)

  group_judged : (inner : Option Parser) → Inner inner → (n u : ℕ) → Judged Any (group_by inner s n u)
  group_judged None i n u = turned tt
  group_judged (Some f) i n u = then_judged (closed_group s) (i (n + 1) u) (λ p h. cond_judged (stands s p.at 41) (fine tt) (turned tt))

  up_judged : (m k : ℕ) → Judged Any (up_to s m k)
  up_judged m k =
      cond_judged (stands s k 125) (fine tt)
      (cond_judged (eqb (digits 2 s k) 0) (turned tt)
      (cond_judged _ (cond_judged (stands s (k + digits 2 s k) 125) (fine tt) (turned tt)) (turned tt)))

  bounds_judged : (n : ℕ) → Judged Any (bounds_at s n)
  bounds_judged n =
      cond_judged (eqb (digits 2 s n) 0) (turned tt)
      (cond_judged (leb (number 2 s n) 32)
      (cond_judged (stands s (n + digits 2 s n) 125) (cond_judged (leb 1 (number 2 s n)) (fine tt) (turned tt))
      (cond_judged (stands s (n + digits 2 s n) 44) (up_judged (number 2 s n) (n + digits 2 s n + 1)) (turned tt)))
      (turned tt))

  module _ (inner : Option Parser) (i : Inner inner) where
    atom_judged : (n u : ℕ) → Judged Any (atom_by inner s n u)
    unfolding atom_by
    atom_judged n u = cond_judged (stands s n 34) (quote_judged (n + 1) u) (cond_judged (stands s n 40) (group_judged inner i n u) (one_judged n u))

    piece_judged : (n u : ℕ) → Judged Any (piece_by inner s n u)
    unfolding piece_by
    piece_judged n u =
        then_judged (many (marked s) (repeated_more s) (length s)) (atom_judged n u) (many_judged (marked s) (repeated_more s) (λ p h. fine tt) (length s))

    branch_more_judged : (p : Parsed) → Judged Any (branch_more inner s p)
    branch_more_judged p =
        cond_judged (stands s p.at 123)
        (then_judged (repeated_over p) (bounds_judged (p.at + 1)) (λ b h. cond_judged _ (fine tt) (turned tt)))
        (then_judged (joined_by Then p) (piece_judged p.at p.used) (λ q h. fine tt))

    branch_judged : (n u : ℕ) → Judged Any (branch_by inner s n u)
    unfolding branch_by
    branch_judged n u =
        then_judged (many (branch_goes_on s) (branch_more inner s) (length s)) (piece_judged n u)
        (many_judged (branch_goes_on s) (branch_more inner s) (λ p h. branch_more_judged p) (length s))

    alternation_judged : (n u : ℕ) → Judged Any (alternation_by inner s n u)
    unfolding alternation_by
    alternation_judged n u =
        then_judged (many (bar_ahead s) (alternation_more inner s) (length s)) (branch_judged n u)
        (many_judged (bar_ahead s) (alternation_more inner s) (λ p h. then_judged (joined_by Either p) (branch_judged (p.at + 1) p.used) (λ q k. fine tt)) (length s))

  inside_judged : (d : ℕ) → Inner (inside d s)
  inside_judged zero = tt
  inside_judged (suc d) = alternation_judged (inside d s) (inside_judged d)

  whole_judged : (n u : ℕ) → Judged Any (alternation_at s n u)
  whole_judged = alternation_judged (inside 16 s) (inside_judged 16)

  -- conditions
  abbrev Some_name : Read Conditions → Type 0
  Some_name d = 1 ≤ length d.value.names

  declare_judged : (inclusive : Bool) (c : Conditions) (n : ℕ) → Judged Some_name (declare_at s inclusive c n)
  declare_judged inclusive c n = cond_judged (eqb (name_length s n) 0) (turned tt) (at (numbered c.names (part s n (name_length s n))))
    where
      at : (o : Option ℕ) → Judged Some_name (declared_as o s inclusive c n (name_length s n))
      at (Some old) = turned tt
      at None = cond_judged (ltb (length c.names) 8) (fine (omega (arith, length-append c.names (part s n (name_length s n) ∷ [])))) (turned tt)

  more_judged : (inclusive : Bool) (d : Read Conditions) → Judged Some_name (declare_more s inclusive d)
  more_judged inclusive d = cond_judged (passes blank s d.next) (declare_judged inclusive d.value (d.next + span blank (length s) s d.next)) (turned tt)

  declared_judged : (inclusive : Bool) (d : Read Conditions) → Judged (λ (c : Conditions). 1 ≤ length c.names) (declared s inclusive d)
  declared_judged inclusive d =
      then_judged _
      (then_judged (many (line_goes_on s) (declare_more s inclusive) (length s)) (more_judged inclusive d)
      (many_judged (line_goes_on s) (declare_more s inclusive) (λ e h. more_judged inclusive e) (length s)))
      (λ e h. fine h)

  declaration_judged : (n : ℕ) (c : Conditions) → Judged (λ (d : Conditions). 1 ≤ length d.names) (declaration s n c)
  declaration_judged n c =
      cond_judged (stands s n 37)
      (cond_judged (stands s (n + 1) 115) (declared_judged true (record { value = c; next = n + 2 }))
      (cond_judged (stands s (n + 1) 120) (declared_judged false (record { value = c; next = n + 2 }))
      (cond_judged (stands s (n + 1) 37) (turned tt) (turned tt))))
      (turned tt)

  module _ (c : Conditions) where
    condition_judged : (n : ℕ) → Judged Any (condition_at s c n)
    condition_judged n = cond_judged (eqb (name_length s n) 0) (turned tt) (at (numbered c.names (part s n (name_length s n))))
      where
        at : (o : Option ℕ) → Judged Any (known o n (name_length s n))
        at None = turned tt
        at (Some k) = fine tt

    active_judged : (n : ℕ) → Judged Any (active_at s c n)
    active_judged n =
        cond_judged (stands s n 60)
        (then_judged {P = Any} (closed_list s)
        (then_judged {P = Any} (many (comma_ahead s) (pick_more s c) (length s)) (then_judged picked_first (condition_judged (n + 1)) (λ k h. fine tt))
        (many_judged (comma_ahead s) (pick_more s c) (λ p h. then_judged (picked_too p) (condition_judged (p.next + 1)) (λ k g. fine tt)) (length s)))
        (λ p h. cond_judged (stands s p.next 62) (fine tt) (turned tt)))
        (fine tt)

    -- actions
    numeral_judged : (low high : ℕ) (make : ℕ → Step) (behind : List ℕ) (n : ℕ) → Judged Any (numeral s low high make behind n)
    numeral_judged low high make behind n =
        cond_judged (eqb (digits 4 s n) 0) (turned tt) (cond_judged _ (then_judged _ (literal_judged behind (n + digits 4 s n)) (λ m h. fine tt)) (turned tt))

    begin_judged : (n : ℕ) → Judged Any (begin_at s c n)
    begin_judged n =
        then_judged _ (literal_judged (codes "BEGIN ") n)
        (λ m h. then_judged (begun s) (condition_judged m) (λ k g. then_judged _ (literal_judged (codes ";") k.next) (λ i e. fine tt)))

    step_judged : (a : Action) → Judged Any (step_at s c a)
    step_judged a =
        cond_judged _ (then_judged _ (literal_judged (codes "ECHO;") a.next) (λ m h. fine tt))
        (cond_judged _ (then_judged _ (literal_judged (codes "MARK ") a.next) (λ m h. numeral_judged 0 255 Mark (codes ";") m))
        (cond_judged _ (begin_judged a.next)
        (cond_judged _ (then_judged _ (literal_judged (codes "REJECT;") a.next) (λ m h. fine tt))
        (then_judged (yield_at s) (literal_judged (codes "yy") a.next)
        (λ m h. cond_judged (stands s m 109) (then_judged _ (literal_judged (codes "more();") m) (λ i e. fine tt)) (then_judged _ (literal_judged (codes "less(") m) (λ i e. numeral_judged 1 4096 Less (codes ");") i)))))))

    step_more_judged : (a : Action) → Judged Any (step_more s c a)
    step_more_judged a = cond_judged _ (turned tt) (then_judged (with_step s a) (step_judged a) (λ t h. fine tt))

    action_judged : (n : ℕ) → Judged Any (action_at s c n)
    action_judged n =
        cond_judged (stands s n 59) (cond_judged _ (turned tt) (fine tt))
        (then_judged {P = Any} steps_of
        (then_judged {P = Any} (many (action_goes_on s) (step_more s c) (length s)) (step_more_judged (no_steps n)) (many_judged (action_goes_on s) (step_more s c) (λ a h. step_more_judged a) (length s)))
        (λ a h. fine tt))

    -- rules
    pattern_judged : (n u : ℕ) → Judged Any (pattern_at s n u)
    pattern_judged n u =
        then_judged (trailing_at s) (whole_judged n u)
        (λ r h. cond_judged (stands s r.at 36) (cond_judged (ltb (r.used + 1) 512) (fine tt) (turned tt))
        (cond_judged (stands s r.at 47)
        (cond_judged (ltb r.used 512) (then_judged (trailed_by r) (whole_judged (r.at + 1) (r.used + 1)) (λ x k. fine tt)) (turned tt))
        (fine tt)))

    behind_judged : (a : Read (ℕ → Bool)) (anchored : Bool) (p : Pattern) → Judged Any (behind_pattern s c a anchored p)
    behind_judged a anchored p =
        cond_judged (passes blank s p.at) (then_judged (rule_of a anchored p) (action_judged (p.at + span blank (length s) s p.at)) (λ t h. fine tt)) (turned tt)

    rule_judged : (k n u : ℕ) → Judged Any (rule_line s c k n u)
    rule_judged k n u =
        cond_judged _
        (cond_judged (ltb k 64)
        (cond_judged (ltb u 512)
        (then_judged (behind_active s c u) (active_judged n)
        (λ a h. cond_judged (stands s a.next 94)
        (then_judged (behind_pattern s c a true) (pattern_judged (a.next + 1) (u + 1)) (λ p g. behind_judged a true p))
        (then_judged (behind_pattern s c a false) (pattern_judged a.next (u + 1)) (λ p g. behind_judged a false p))))
        (turned tt))
        (turned tt))
        (turned tt)

module _ (file : List ℕ) where
  abbrev Named : RuleFile → Type 0
  Named f = 1 ≤ length f.conditions.names

  first_judged : (ls : List Line) (c : Conditions) → 1 ≤ length c.names → Judged (λ (f : FirstSection). 1 ≤ length f.conditions.names) (first_section file c ls)
  first_judged [] c h = turned tt
  first_judged (l ∷ ls) c h = cond_judged (divides file l) (fine h) (then_judged _ (declaration_judged (text_of file l) l.start c) (λ d k. first_judged ls d k))

  second_judged : (ls : List Line) (c : Conditions) (qs : List RuleText) (u : ℕ) → 1 ≤ length c.names → Judged Named (second_section file c qs u ls)
  second_judged [] c qs u h = fine h
  second_judged (l ∷ ls) c qs u h =
      cond_judged (divides file l) (fine h) (then_judged _ (rule_judged (text_of file l) c (length qs) l.start u) (λ r k. second_judged ls c (qs ++ (r.rule ∷ [])) r.used h))

  sections_judged : Judged Named (sections file)
  sections_judged = then_judged _ (first_judged (lines file) only_initial (omega arith)) (λ f h. second_judged f.behind f.conditions [] 0 h)

  pub grammar_refuses : (e : Fault) → sections file ≡ Err e → OfGrammar e.refusal
  grammar_refuses e h = turned_is e (subst (Judged Named) h sections_judged)

  pub some_condition : (f : RuleFile) → sections file ≡ Ok f → 1 ≤ length f.conditions.names
  some_condition f h = fine_is f (subst (Judged Named) h sections_judged)
