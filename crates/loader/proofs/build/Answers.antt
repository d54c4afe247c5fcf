use Rattle.std.proofs.Common.{length, ◌∙◌, arith}
use Rattle.loader.specs.Building.{rows_of}
use Rattle.loader.proofs.Stored.{rows_length}
use Rattle.loader.proofs.Built.{machine_first, machine_next, rules_next, full_starts, full_trails, full_rows, built}
use Rattle.loader.proofs.MachineRules.{laid_same, paired_kept}
use Rattle.loader.proofs.build.Goals as goal

pub grow-requires-clause-paired : goal.grow-requires-clause-paired
grow-requires-clause-paired c = paired_kept c.pair_up.new.machine c.takers.new.machine c.args.positions c.takers.ensures.memory c.pair_up.ensures.paired

pub returns-in_err-started : goal.returns-in_err-started
returns-in_err-started c =
    let l₀ = c.args.loaded.now in
    rw c.from_residual.ensures
    (λ f r.
    let a = machine_first f c.takers.new.machine l₀ r.holds (c.takers.ensures.machine f.rules (laid_same c.args.machine.now c.pair_up.new.machine f.rules (omega (arith, r.holds.rule_count)) (λ k q h. c.pair_up.ensures.kept k q (omega arith)) r.laid) r.used) c.requires.rules in
    full_starts f l₀ c.args.rows.now r.holds (length c.write_starts.new.sets) (c.write_starts.auto.sets ∙ c.requires.room) (c.in_err-started.ensures.writes f.rules a r.holds.rules))

pub returns-in_err-trailed : goal.returns-in_err-trailed
returns-in_err-trailed c =
    let l₀ = c.args.loaded.now in
    let l₁ = c.write_starts.new.loaded in
    let only₁ = c.in_ok-started.ensures.only in
    rw c.from_residual-in_err-trailed.ensures
    (λ f r.
    let a = machine_first f c.takers.new.machine l₀ r.holds (c.takers.ensures.machine f.rules (laid_same c.args.machine.now c.pair_up.new.machine f.rules (omega (arith, r.holds.rule_count)) (λ k q h. c.pair_up.ensures.kept k q (omega arith)) r.laid) r.used) c.requires.rules in
    let a₁ = machine_next f.rules c.takers.new.machine l₀ l₁ only₁.rule_count a in
    full_trails f l₀ c.args.rows.now r.holds l₁ only₁ (rows_of c.write_starts.new.sets c.in_ok-started.started) (c.in_ok-started.ensures.writes f.rules a r.holds.rules)
    (length c.write_trails.new.sets) (c.write_trails.auto.sets ∙ c.write_starts.auto.sets ∙ c.requires.room) (c.in_err-trailed.ensures.writes f.rules a₁ (rules_next f.rules l₀ l₁ only₁.rules r.holds.rules)))

pub returns-in_err-count : goal.returns-in_err-count
returns-in_err-count c =
    let l₀ = c.args.loaded.now in
    let l₁ = c.write_starts.new.loaded in
    let l₂ = c.write_trails.new.loaded in
    let only₁ = c.in_ok-started.ensures.only in
    let only₂ = c.in_ok-trailed.ensures.only in
    rw c.from_residual-in_err-count.ensures
    (λ f r.
    let a = machine_first f c.takers.new.machine l₀ r.holds (c.takers.ensures.machine f.rules (laid_same c.args.machine.now c.pair_up.new.machine f.rules (omega (arith, r.holds.rule_count)) (λ k q h. c.pair_up.ensures.kept k q (omega arith)) r.laid) r.used) c.requires.rules in
    let a₁ = machine_next f.rules c.takers.new.machine l₀ l₁ only₁.rule_count a in
    let a₂ = machine_next f.rules c.takers.new.machine l₁ l₂ only₂.rule_count a₁ in
    full_rows f l₀ c.args.rows.now r.holds l₁ only₁ (rows_of c.write_starts.new.sets c.in_ok-started.started) (c.in_ok-started.ensures.writes f.rules a r.holds.rules)
    l₂ only₂ (rows_of c.write_trails.new.sets c.in_ok-trailed.trailed) (c.in_ok-trailed.ensures.writes f.rules a₁ (rules_next f.rules l₀ l₁ only₁.rules r.holds.rules))
    (c.in_err-count.ensures.grows f.rules a₂))

pub returns : goal.returns
returns c =
    let l₀ = c.args.loaded.now in
    let l₁ = c.write_starts.new.loaded in
    let l₂ = c.write_trails.new.loaded in
    let only₁ = c.in_ok-started.ensures.only in
    let only₂ = c.in_ok-trailed.ensures.only in
    λ f r.
    let a = machine_first f c.takers.new.machine l₀ r.holds (c.takers.ensures.machine f.rules (laid_same c.args.machine.now c.pair_up.new.machine f.rules (omega (arith, r.holds.rule_count)) (λ k q h. c.pair_up.ensures.kept k q (omega arith)) r.laid) r.used) c.requires.rules in
    let a₁ = machine_next f.rules c.takers.new.machine l₀ l₁ only₁.rule_count a in
    let a₂ = machine_next f.rules c.takers.new.machine l₁ l₂ only₂.rule_count a₁ in
    built f l₀ c.args.rows.now r.holds l₁ only₁ (rows_of c.write_starts.new.sets c.in_ok-started.started) (c.in_ok-started.ensures.writes f.rules a r.holds.rules)
    l₂ only₂ (rows_of c.write_trails.new.sets c.in_ok-trailed.trailed) (c.in_ok-trailed.ensures.writes f.rules a₁ (rules_next f.rules l₀ l₁ only₁.rules r.holds.rules))
    l₂.rule_count (omega (arith, a₂.count)) (rows_of c.grow.new.sets c.in_ok-count.count) c.grow.new.rows (c.in_ok-count.ensures.grows f.rules a₂)
    c.in_ok-count.count (omega (arith, rows_length c.grow.new.sets c.in_ok-count.count c.in_ok-count.ensures.stored.room)) (omega (arith, c.in_ok-count.ensures.stored.room)) (omega (arith, r.holds.condition_count)) (omega (arith, r.holds.rule_count)) c.grow.auto.rows r.free
