use Rattle.std.proofs.Common.{◌≡◌, arith}
use Rattle.loader.specs.Machine.{members}
use Rattle.loader.proofs.MachineRules.{starts}
use Rattle.loader.proofs.machine.start_set.Goals as goal

pub returns-clause-starts : goal.returns-clause-starts
returns-clause-starts c = λ qs k h.
    let n : c.loop-i.i ≡ c.args.loaded.now.rule_count = omega arith in
    starts c.args.machine.now c.args.loaded.now c.args.loaded.now.rule_count c.args.condition c.args.at_line_start (members c.loop-i.set) qs k h (rw n at c.loop-i.invariant.members)
