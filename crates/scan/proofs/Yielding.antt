-- What an iterator over a listing gives, and what it leaves.
use Rattle.std.proofs.Common.{◌≡◌, ℕ, suc, Bool, false, cond, List, [], ◌∷◌, Some, None, Option, refl, sym, ap, ◌∙◌, arith}
use Rattle.std.specs.List.{filter}
use Rattle.std.specs.Option.{option_map, option_or, MatchOption}
use Rattle.std.proofs.lemmas.Option.{none-some, same_Some}
use Rattle.table.specs.Memory.{Memory}
use Rattle.places.specs.declared.Reading.{Reading}
use Rattle.places.specs.Listing.{Place, single, last_resort}
use Rattle.places.specs.Order.{comes_after, first_of}
use Rattle.scan.specs.declared.end.End.{End}
use Rattle.scan.specs.Listing.{of_rules, table_listing}
use Rattle.scan.specs.Left.{behind, reading_at}
use Rattle.scan.proofs.Behind.{first_found, none_left, table_left}
use Rattle.scan.proofs.Answering.{first_listed, next_listed}

-- behind the single byte nothing is left
zero_behind : (total : ℕ) (ds : List Reading) → filter (comes_after 0 total) ds ≡ []
zero_behind total [] = refl
zero_behind total (d ∷ ds) = zero_behind total ds

none_behind_zero : (rule total : ℕ) (ds : List Reading) → rule ≡ 0 → filter (comes_after rule total) ds ≡ []
none_behind_zero rule total ds z = ap (λ r. filter (comes_after r total) ds) z ∙ zero_behind total ds

single_rule : (rest : List ℕ) (d : Reading) → Some d ≡ first_of (last_resort rest) → d.rule ≡ 0
single_rule [] d e = absurd (none-some d (sym e))
single_rule (b ∷ s) d e = ap (λ (x : Reading). x.rule) (same_Some d single e)

module _ (mem : Memory) (p : Place) where
  abbrev Left : Option End → List Reading
  Left last = behind (option_map (reading_at mem p) last) (table_listing mem p)

  -- the first that is left: a is that of the readings of rules, and else it is the single byte
  pub first_left_of : (last : Option End) (a : Option Reading) → a ≡ first_of (behind (option_map (reading_at mem p) last) (of_rules mem p)) → option_or a (first_of (last_resort p.rest)) ≡ first_of (Left last)
  first_left_of None a e = first_listed mem p a e
  first_left_of (Some x) a e =
      next_listed mem p a (suc x.rule) x.total (λ z. omega arith) (e ∙ first_found (comes_after (suc x.rule) x.total) (of_rules mem p))
      ∙ sym (first_found (comes_after (suc x.rule) x.total) (table_listing mem p))

  -- a reading of a rule is given, and what is behind it is left
  pub rule_given : (last : Option End) (x : End) (over was : Bool) → over ≡ false → was ≡ false → Some (reading_at mem p x) ≡ first_of (Left last) → cond was [] (Left last) ≡ reading_at mem p x ∷ cond over [] (Left (Some x))
  rule_given last x over was e f h = rw (e, f) (table_left mem p (option_map (reading_at mem p) last) (reading_at mem p x) h)

  -- the single byte is given, if any, and nothing is left
  pub single_given : (last : Option End) (r : Option Reading) (was : Bool) → was ≡ false → r ≡ first_of (last_resort p.rest) → first_of (last_resort p.rest) ≡ first_of (Left last)
      → MatchOption r ((cond was [] (Left last) ≡ []) × (◌≡◌ {A = List Reading} [] [])) (λ x. cond was [] (Left last) ≡ x ∷ [])
  single_given last None was f e h = rw f (none_left (Left last) (e ∙ h), refl)
  single_given last (Some d) was f e h =
      rw f (table_left mem p (option_map (reading_at mem p) last) d (e ∙ h) ∙ ap (λ (ds : List Reading). d ∷ ds) (none_behind_zero d.rule d.total (table_listing mem p) (single_rule p.rest d e)))
