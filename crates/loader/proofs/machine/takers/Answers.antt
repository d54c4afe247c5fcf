use Rattle.std.proofs.Common.{◌≡◌, ◌+◌, arith, rules}
use Rattle.loader.proofs.MachineRules.{machine}
use Rattle.loader.proofs.MachineSets.{takers_more}
use Rattle.loader.proofs.machine.takers.Goals as goal

pub loop-b-preserved : goal.loop-b-preserved
loop-b-preserved c = record {
  long = search rules;
  memory = takers_more c.args.machine.now c.loop-b.machine c.args.positions c.loop-b.b c.takers_of.result (omega arith) (omega arith) c.loop-b.invariant.memory c.takers_of.ensures;
}

pub returns-clause-machine : goal.returns-clause-machine
returns-clause-machine c = λ qs laid all rules.
    let end : 1280 + c.loop-b.b ≡ 1536 = omega arith in
    machine c.args.machine.now c.loop-b.machine c.args.positions qs laid all (omega arith) rules (rw end at c.loop-b.invariant.memory)
