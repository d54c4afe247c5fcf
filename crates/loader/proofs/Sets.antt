-- The sets of the rules in the work memory, and what leaves them as they are.
use Rattle.std.proofs.Common.{◌≡◌, ℕ, ◌+◌, ◌<◌, ◌≤◌, [], ◌++◌, length, ap, ◌∙◌, arith}
use Rattle.std.proofs.Math.ListN.{get_or-append}
use Rattle.bits.specs.Set.{has}
use Rattle.bits.specs.declared.Bits.{Bits}
use Rattle.positions.specs.Memory.{Work, member}
use Rattle.positions.specs.Laid.{Kept}
use Rattle.loader.specs.Laid.{RulesKept}

-- what is kept of positions and of rules is kept over both
pub rules_kept : {a i : ℕ} {w v w' : Work} → Kept a w v → RulesKept a i v w' → RulesKept a i w w'
rules_kept k r = record {
  bytes = λ p q h. r.bytes p q h ∙ k.bytes p q h;
  order = λ p q h. r.order p q h ∙ k.order p q h;
  starts = λ n q h. r.starts n q h ∙ k.others (1024 + n) q (omega arith);
  trails = λ n q h. r.trails n q h ∙ k.others (1088 + n) q (omega arith);
  ends = λ n q h. r.ends n q h ∙ k.others (1152 + n) q (omega arith);
  slashes = λ n q h. r.slashes n q h ∙ k.others (1216 + n) q (omega arith);
}

pub rules_kept_less : {a b i : ℕ} {w w' : Work} → b ≤ a → RulesKept a i w w' → RulesKept b i w w'
rules_kept_less h r = record {
  bytes = λ p q l. r.bytes p q (omega arith);
  order = λ p q l. r.order p q (omega arith);
  starts = r.starts;
  trails = r.trails;
  ends = r.ends;
  slashes = r.slashes;
}

-- the sets past those of the rules are none of theirs
pub rules_kept_longer : (w rest : Work) → 1280 ≤ length w → RulesKept 512 64 w (w ++ rest)
rules_kept_longer w rest h = record {
  bytes = λ p q l. same p q (omega arith);
  order = λ p q l. same (512 + p) q (omega arith);
  starts = λ j q l. same (1024 + j) q (omega arith);
  trails = λ j q l. same (1088 + j) q (omega arith);
  ends = λ j q l. same (1152 + j) q (omega arith);
  slashes = λ j q l. same (1216 + j) q (omega arith);
}
  where
    same : (k q : ℕ) → k < length w → member (w ++ rest) k q ≡ member w k q
    same k q l = ap (λ (s : Bits 8). has s.words q) (get_or-append w rest (record { words = [] }) k l)
