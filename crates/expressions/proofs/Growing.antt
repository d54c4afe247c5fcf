-- The loops of the reader of expressions, which each grow a tree by one step at a time.
use Rattle.std.proofs.Common.{◌≡◌, IsErrAnd, ℕ, suc, ◌+◌, ◌-◌, ◌*◌, ◌<◌, ◌≤◌, Bool, true, false, cond, leb, List, length, get_or, Ok, Err, Result, sym, refl, ap, ◌∙◌, subst, suc-mul, arith}
use Rattle.std.proofs.lemmas.Bool.{le-leb}
use Rattle.patterns.specs.Expression.{Expression, Then, Either}
use Rattle.patterns.specs.Positions.{size}
use Rattle.positions.specs.declared.Fragment.{Fragment}
use Rattle.positions.specs.declared.Repeat.{Repeat}
use Rattle.positions.specs.Memory.{Work, Choice}
use Rattle.positions.specs.Laid.{Laid, Kept, made}
use Rattle.positions.proofs.Lays.{kept_refl, kept_trans, kept_less, laid_kept, laid_then, kept_then, laid_either, laid_repeats, kept_repeats}
use Rattle.grammar.specs.declared.Fault.{Fault}
use Rattle.grammar.specs.declared.Interval.{Interval}
use Rattle.grammar.specs.declared.Read.{Read}
use Rattle.grammar.specs.declared.Refusal.TheVariants.{LimitPassed}
use Rattle.grammar.specs.Outcome.{Out, refused, then, many}
use Rattle.grammar.specs.Expressions.{Parsed, parsed, joined_by, repeated_by, repeated_more, bounds_at, extra, repeated, repeated_over}
use Rattle.grammar.proofs.Sizes.{side_size}
use Rattle.tokens.proofs.Follow.{thrown, Left, starts, stops, turns_on, fails}
use Rattle.expressions.specs.declared.Parsed as code
use Rattle.expressions.specs.Lays.{parsed_as, Lays, Gives, Holds, Steps}
use Rattle.expressions.specs.Reads.{JoinsOn, MarksOn, Counted, interval_over}
use Rattle.expressions.specs.Frames.{Placed, Copies}
use Rattle.expressions.proofs.Frames.{kept_outside}
use Rattle.expressions.proofs.Copying.{size_pos, size_made}

abbrev pub Code : Type 0
Code = code.Parsed

-- a turn for each byte that is left, and one for the end
abbrev pub bytes_left : List ℕ → Parsed → ℕ
bytes_left s p = suc (length s) - p.at

-- a tree that r has been read as so far, laid down in w; nothing below it changed since w₀
pub record Grown (s : List ℕ) (go : Parsed → Bool) (step : Parsed → Out Parsed) (o : Out Parsed) (base : ℕ) (w₀ w : Work) (r : Code) : Type 0 where
  pub tree : Expression
  pub left : Left go step (bytes_left s) o (parsed_as r tree)
  pub holds : Holds w base r tree
  pub kept : Kept base w₀ w

module _ {s : List ℕ} {go : Parsed → Bool} {step : Parsed → Out Parsed} {o : Out Parsed} {base : ℕ} where
  pub grown_start : {first : Out Parsed} {w w' : Work} {r : Code} → 0 < r.at → o ≡ then first (many go step (length s)) → Lays first base w w' r → Grown s go step o base w' w' r
  grown_start {first = first} h e l = record {
    tree = l.tree;
    left = starts go step (bytes_left s) o _ (length s) (omega arith) (e ∙ ap (λ (x : Out Parsed). then x (many go step (length s))) l.is);
    holds = record { counts = l.counts; laid = l.laid };
    kept = kept_refl;
  }

  pub grown_turn : {w₀ w w' : Work} {r r' : Code} → Grown s go step o base w₀ w r → ((t : Expression) → true ≡ go (parsed_as r t)) → Steps step base w w' r (Ok r')
      → r.at < r'.at → r.at ≤ length s → Grown s go step o base w₀ w' r'
  grown_turn {w = w} {w' = w'} {r = r} {r' = r'} g on f up below =
      let l : Lays (step (parsed_as r g.tree)) base w w' r' = f g.tree g.holds in record {
        tree = l.tree;
        left = turns_on go step (bytes_left s) o (parsed_as r g.tree) (parsed_as r' l.tree) g.left (on g.tree) l.is (omega arith);
        holds = record { counts = l.counts; laid = l.laid };
        kept = kept_trans g.kept l.kept;
      }

  pub grown_stop : {u w₀ w : Work} {r : Code} → Grown s go step o base w₀ w r → ((t : Expression) → false ≡ go (parsed_as r t)) → Kept base u w₀ → Lays o base u w r
  grown_stop {r = r} g off k = record {
    tree = g.tree;
    is = stops go step (bytes_left s) o (parsed_as r g.tree) g.left (off g.tree);
    counts = g.holds.counts;
    laid = g.holds.laid;
    kept = kept_trans k g.kept;
  }

  pub grown_fails : {w₀ w : Work} {r : Code} {f : Fault} → Grown s go step o base w₀ w r → ((t : Expression) → true ≡ go (parsed_as r t))
      → ((t : Expression) → Holds w base r t → step (parsed_as r t) ≡ Err f) → r.at ≤ length s → o ≡ Err f
  grown_fails {r = r} {f = f} g on h below =
      fails go step (bytes_left s) o (parsed_as r g.tree) f g.left (on g.tree) (h g.tree g.holds) (omega arith)

  pub grown_counted : {w₀ w : Work} {r : Code} → Grown s go step o base w₀ w r → Counted base r
  grown_counted g = (omega (arith, g.holds.counts, size_pos g.tree), omega (arith, g.holds.counts, g.holds.laid.within))

-- both parts, as they stand in w₁
both : {p : Out Parsed} {base : ℕ} {w w₁ : Work} {all more : Code} (t : Expression) → Holds w base all t → (l : Lays p all.used w w₁ more)
    → Laid w₁ t base all.part × Laid w₁ l.tree (base + size t) more.part × Kept base w w₁
both {base = base} {w = w} {w₁ = w₁} {more = more} t h l =
    let k : Kept (base + size t) w w₁ = subst (λ (a : ℕ). Kept a w w₁) h.counts l.kept in
    (laid_kept h.laid k, subst (λ (a : ℕ). Laid w₁ l.tree a more.part) h.counts l.laid, kept_less (omega arith) k)

parts : {p : Out Parsed} {w w₁ : Work} {more : Code} (all r : Code) (join : Expression → Expression → Expression) (t : Expression) (l : Lays p all.used w w₁ more) → r.at ≡ more.at → r.used ≡ more.used
    → then p (joined_by join (parsed_as all t)) ≡ Ok (parsed_as r (join t l.tree))
parts {more = more} all r join t l a u =
    ap (λ (x : Out Parsed). then x (joined_by join (parsed_as all t))) l.is
    ∙ ap (λ (n : ℕ). Ok (record { tree = join t l.tree; at = n; used = more.used })) (sym a)
    ∙ ap (λ (n : ℕ). Ok (record { tree = join t l.tree; at = r.at; used = n })) (sym u)

-- a further part, behind what `all` has been read as
pub joined_steps : {p : Out Parsed} {base : ℕ} {w w₁ w₂ : Work} {all more r : Code} → Lays p all.used w w₁ more → JoinsOn w₁ w₂ all more r → 1024 ≤ length w₁
    → (t : Expression) → Holds w base all t → Lays (then p (joined_by Then (parsed_as all t))) base w w₂ r
joined_steps {all = all} {r = r} l j room t h =
    let b = both t h l in record {
      tree = Then t l.tree;
      is = parts all r Then t l j.at j.used;
      counts = omega (arith, j.used, l.counts, h.counts);
      laid = laid_then b.0 b.1 room j.part;
      kept = kept_trans b.2 (kept_then b.0 j.part);
    }

pub choice_steps : {p : Out Parsed} {base : ℕ} {w w₁ : Work} {all more r : Code} → Lays p all.used w w₁ more → Choice all.part more.part r.part → r.at ≡ more.at → r.used ≡ more.used
    → (t : Expression) → Holds w base all t → Lays (then p (joined_by Either (parsed_as all t))) base w w₁ r
choice_steps {all = all} {r = r} l c a u t h =
    let b = both t h l in record {
      tree = Either t l.tree;
      is = parts all r Either t l a u;
      counts = omega (arith, u, l.counts, h.counts);
      laid = laid_either b.0 b.1 c;
      kept = b.2;
    }

-- one more repeat mark
pub marked_steps : (s : List ℕ) {m : Repeat} {base : ℕ} {w w' : Work} {all r : Code} → ((e : Expression) → repeated_by (get_or s all.at 0) e ≡ made m e)
    → 1024 ≤ length w → MarksOn m w w' all r → Steps (repeated_more s) base w w' all (Ok r)
marked_steps s {m = m} {all = all} {r = r} same room j t h = record {
  tree = made m t;
  is =
      ap (λ (e : Expression). Ok (record { tree = e; at = all.at + 1; used = all.used })) (same t)
      ∙ ap (λ (n : ℕ). Ok (record { tree = made m t; at = n; used = all.used })) (sym j.at)
      ∙ ap (λ (n : ℕ). Ok (record { tree = made m t; at = r.at; used = n })) (sym j.used);
  counts = omega (arith, j.used, h.counts, size_made m t);
  laid = laid_repeats h.laid room j.part;
  kept = kept_repeats h.laid j.part;
}

-- an outcome that is the same
pub lays_by : {o o' : Out Parsed} {base : ℕ} {w w' : Work} {r : Code} → o ≡ o' → Lays o' base w w' r → Lays o base w w' r
lays_by e l = record { tree = l.tree; is = e ∙ l.is; counts = l.counts; laid = l.laid; kept = l.kept }

-- one byte that closes what has been read
pub past_lays : {o : Out Parsed} (close : Parsed → Out Parsed) {base : ℕ} {w w' : Work} {all r : Code} → Lays o base w w' all
    → ((t : Expression) → close (parsed_as all t) ≡ parsed t (all.at + 1) all.used) → r ≡ record { part = all.part; at = all.at + 1; used = all.used } → Lays (then o close) base w w' r
past_lays {o = o} close {base = base} {w = w} {w' = w'} {all = all} l c e =
    subst (λ (x : Code). Lays (then o close) base w w' x) (sym e) record {
      tree = l.tree;
      is = ap (λ (x : Out Parsed). then x close) l.is ∙ c l.tree;
      counts = l.counts;
      laid = l.laid;
      kept = l.kept;
    }

-- the copies of an interval, over all that has been read
pub interval_steps : (s : List ℕ) (base : ℕ) (w w' : Work) (all : Code) (b : Read Interval) (x : ℕ) (f : Fragment)
    → Ok b ≡ bounds_at s (all.at + 1) → x ≡ extra b.value → base ≤ all.used → all.used + x * (all.used - base) ≤ 512
    → Copies b.value base (all.used - base) w w' all.part f
    → Steps (interval_over s) base w w' all (Ok (record { part = f; at = b.next; used = all.used + x * (all.used - base) }))
interval_steps s base w w' all b x f e x-is low fits c t h =
    let i = b.value in
    let n-is : all.used - base ≡ size t = omega (arith, h.counts) in
    let c' : Copies i base (size t) w w' all.part f = subst (λ (n : ℕ). Copies i base n w w' all.part f) n-is c in
    let used-is : all.used + x * (all.used - base) ≡ all.used + extra i * size t =
    ap (λ (n : ℕ). all.used + n * (all.used - base)) x-is ∙ ap (λ (n : ℕ). all.used + extra i * n) n-is in
    let fits' : all.used + extra i * size t ≤ 512 = subst (λ (n : ℕ). n ≤ 512) used-is fits in
    let g : Placed (repeated i t) base w w' f = c' t h.laid refl (omega (arith, suc-mul (extra i) (size t), h.counts)) in
    let test : leb (all.used + extra i * size t) 512 ≡ true = le-leb _ _ fits' in record {
      tree = repeated i t;
      is =
          ap (λ (o : Out (Read Interval)). then o (repeated_over (parsed_as all t))) (sym e)
          ∙ ap (λ (y : Bool). cond y (parsed (repeated i t) b.next (all.used + extra i * size t)) (refused LimitPassed all.at)) test
          ∙ ap (λ (n : ℕ). parsed (repeated i t) b.next n) (sym used-is);
      counts = used-is ∙ omega (arith, side_size i t (extra i) 0, h.counts);
      laid = g.laid;
      kept = kept_outside base _ w w' (omega (arith, g.laid.within)) g.outside;
    }

pub gives_by : {o o' : Out Parsed} (base : ℕ) (w w' : Work) (r : Result Code Fault) → o ≡ o' → Gives o' base w w' r → Gives o base w w' r
gives_by base w w' (Ok r) e l = lays_by e l
gives_by base w w' (Err f) e l = e ∙ l

-- the exit of a `?`, whose fault is f
pub gives_fault : {o : Out Parsed} {f : Fault} (base : ℕ) (w w' : Work) (r : Result Code Fault) → IsErrAnd r (λ d. d ≡ f) → o ≡ Err f → Gives o base w w' r
gives_fault {o = o} base w w' r h e = subst (λ (r : Result Code Fault). Gives o base w w' r) (sym (thrown r _ h)) e

-- a fault is a fault of all that would go on behind it
pub then_fault : {X Y : Type 0} {o : Out Y} {first : Out X} {f : Fault} (more : X → Out Y) → o ≡ then first more → first ≡ Err f → o ≡ Err f
then_fault more e h = e ∙ ap (λ (x : Out _). then x more) h
