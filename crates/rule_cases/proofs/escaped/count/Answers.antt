use Rattle.std.proofs.Common.{◌≡◌, ◌+◌, ◌-◌, ◌<◌, get_or, drop, length, subst, arith}
use Rattle.std.proofs.lemmas.List.{get_or-take, get_or-drop}
use Rattle.rule_cases.specs.Runs.{Counts}
use Rattle.rule_cases.specs.Runs as runs
use Rattle.rule_cases.proofs.Steps.{digit_more}
use Rattle.rule_cases.proofs.escaped.count.Goals as goal

pub loop-n-init : goal.loop-n-init
loop-n-init c =
    let place : c.args.from ≡ c.args.from + 0 = omega arith in
    subst (λ m. Counts c.args.text.now c.args.from m 0) place runs.none

pub loop-n-preserved : goal.loop-n-preserved
loop-n-preserved c =
    let s = c.args.text.now in
    let from = c.args.from in
    let inside : c.loop-n.n < length s - from = omega (arith, c.in_ok-b-items.ensures.lookup.0.3) in
    let same : get_or c.in_ok-b-items.b-items.now c.loop-n.n 0 ≡ get_or s (from + c.loop-n.n) 0 =
    rw (c.in_ok-b-items.ensures.lookup.0.2, get_or-take (length s - from) (drop from s) c.loop-n.n 0 inside) (get_or-drop from s c.loop-n.n 0) in
    digit_more s from c.loop-n.n c.loop-n.times _ c.loop-n.invariant same (omega arith) (omega arith)
