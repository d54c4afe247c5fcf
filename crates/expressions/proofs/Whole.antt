-- The first 1,024 sets of lent memory are read and written as an array; what is behind them stays.
use Rattle.std.proofs.Common.{◌≡◌, ℕ, ◌+◌, ◌-◌, ◌<◌, ◌≤◌, [], ◌++◌, take, drop, length, get_or, Ok, Err, Result, ap, ◌∙◌, arith}
use Rattle.std.proofs.lemmas.List.{get_or_append_left, get_or-append_right, get_or-drop, get_or-take}
use Rattle.bits.specs.Set.{has}
use Rattle.bits.specs.declared.Bits.{Bits}
use Rattle.positions.specs.Memory.{Work, member}
use Rattle.grammar.specs.declared.Fault.{Fault}
use Rattle.grammar.specs.Outcome.{Out}
use Rattle.grammar.specs.Expressions.{Parsed}
use Rattle.expressions.specs.declared.Parsed as code
use Rattle.expressions.specs.Lays.{Gives}

abbrev none : Bits 8
none = record { words = [] }

module _ (w v : Work) (room : length v ≡ 1024) where
  abbrev pub after : Work
  after = v ++ drop 1024 w

  low : (k q : ℕ) → k < 1024 → member after k q ≡ member v k q
  low k q h = ap (λ (b : Bits 8). has b.words q) (get_or_append_left v (drop 1024 w) none k (omega (arith, room)))

  same : (k q : ℕ) → k < 1024 → member v k q ≡ member (take 1024 w) k q → member after k q ≡ member w k q
  same k q h e = low k q h ∙ e ∙ ap (λ (b : Bits 8). has b.words q) (get_or-take 1024 w k none h)

  behind : (k q : ℕ) → 1024 ≤ k → member after k q ≡ member w k q
  behind k q h =
      let e : 1024 + (k - 1024) ≡ k = omega arith in
      ap (λ (b : Bits 8). has b.words q) (get_or-append_right v (drop 1024 w) 1024 k none room h ∙ get_or-drop 1024 w (k - 1024) none ∙ ap (λ (n : ℕ). get_or w n none) e)

  pub gives_whole : (o : Out Parsed) (base : ℕ) (r : Result code.Parsed Fault) → Gives o base (take 1024 w) v r → Gives o base w after r
  gives_whole o base (Err f) e = e
  gives_whole o base (Ok r) l = record {
    tree = l.tree;
    is = l.is;
    counts = l.counts;
    laid = record {
      within = l.laid.within;
      empty = l.laid.empty;
      begins = l.laid.begins;
      ends = l.laid.ends;
      bytes = λ p b h k t. low p b (omega (arith, l.laid.within)) ∙ l.laid.bytes p b h k t;
      order = λ p q h k. low (512 + p) q (omega (arith, l.laid.within)) ∙ l.laid.order p q h k;
    };
    kept = record {
      bytes = λ p q h. same p q (omega (arith, l.laid.within)) (l.kept.bytes p q h);
      order = λ p q h. same (512 + p) q (omega (arith, l.laid.within)) (l.kept.order p q h);
      others = behind;
    };
  }
