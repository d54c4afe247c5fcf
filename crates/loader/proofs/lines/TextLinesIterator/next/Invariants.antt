use Rattle.std.proofs.Common.{length, ◌-◌, ◌≡◌}
use Rattle.loader.specs.Lines.{left}
use Rattle.loader.proofs.lines.TextLinesIterator.next.Given as goal

abbrev pub invariant-loop-self : goal.invariant-loop-self
invariant-loop-self l = (l.self.file.now ≡ l.initial.self.file.now) × (left l.self ≡ left l.initial.self)

abbrev pub decreases-loop-self : goal.decreases-loop-self
decreases-loop-self l = length l.self.file.now - l.self.at
