-- The positions of all rules of a file: rule i, counted from 0, has its end mark and its other
-- positions behind those of the rules before it.
use Rattle.std.specs.Prelude.{ℕ, zero, suc, ◌+◌, Bool, false, not, ◌&&◌, ◌||◌, List, [], ◌∷◌, ◌==◌}
use Rattle.patterns.specs.Positions.{first}
use Rattle.grammar.specs.File.{RuleText, rule_size}
use Rattle.automaton.specs.Pattern.{slash, slash_of, pattern_takes, pattern_after, trail_start}
use Rattle.automaton.specs.Sets.{Set, some}

-- the position p takes the byte b
abbrev pub takes : List RuleText → ℕ → ℕ → ℕ → Bool
takes [] a p b = false
takes (q ∷ qs) a p b = pattern_takes q.expression q.trailing a p b || takes qs (a + rule_size q) p b

-- t may come straight after p
abbrev pub after : List RuleText → ℕ → ℕ → ℕ → Bool
after [] a p t = false
after (q ∷ qs) a p t = pattern_after q.expression q.trailing a p t || after qs (a + rule_size q) p t

-- the rule is active in the condition c, and its `^` is met
abbrev pub live : RuleText → ℕ → Bool → Bool
live q c line = q.active c && (not q.anchored || line)

-- the start of the condition c, at line start or not: the first positions of each rule that is
-- active there
abbrev pub start_set : List RuleText → ℕ → ℕ → Bool → Set
start_set [] a c line p = false
start_set (q ∷ qs) a c line p = (live q c line && first q.expression (a + 1) p)
    || start_set qs (a + rule_size q) c line p

-- the trail start of rule i; empty where it has no trailing part
abbrev pub trail_set : List RuleText → ℕ → ℕ → Set
trail_set [] a i p = false
trail_set (q ∷ qs) a zero p = trail_start q.trailing a (slash q.expression a + 1) p
trail_set (q ∷ qs) a (suc i) p = trail_set qs (a + rule_size q) i p

-- p is the end mark of rule i; p is its slash mark, if it has one
abbrev pub end_mark : List RuleText → ℕ → ℕ → Set
end_mark [] a i p = false
end_mark (q ∷ qs) a zero p = p == a
end_mark (q ∷ qs) a (suc i) p = end_mark qs (a + rule_size q) i p

abbrev pub slash_mark : List RuleText → ℕ → ℕ → Set
slash_mark [] a i p = false
slash_mark (q ∷ qs) a zero p = slash_of q.trailing (slash q.expression a) p
slash_mark (q ∷ qs) a (suc i) p = slash_mark qs (a + rule_size q) i p

-- where b leads from s: whatever may come straight after a member that takes it
unfoldable pub leads : List RuleText → Set → ℕ → Set
leads qs s b t = some 512 (λ p. s p && (takes qs 0 p b && after qs 0 p t))

-- a mark m is in the set s
unfoldable pub meets : Set → Set → Bool
meets s m = some 512 (λ p. s p && m p)
