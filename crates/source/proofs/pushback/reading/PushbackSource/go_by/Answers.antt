use Rattle.std.proofs.Common.{◌≡◌, ◌-◌, ◌≤◌, length, drop, arith, length-append, length-drop}
use Rattle.source.proofs.Fronts.{front_gone}
use Rattle.source.proofs.pushback.reading.PushbackSource.go_by.Goals as goal

-- all that was returned is gone, and the rest of the n bytes from below
pub returns-in_ok-go_by : goal.returns-in_ok-go_by
returns-in_ok-go_by g c =
    let s = c.args.self.now in
    let kept = s.returned in
    let front = drop (256 - kept.count) kept.bytes in
    let ys = g.S.Source.rest s.below in
    let gone = c.in_ok-go_by.ensures in
    let past : kept.count ≤ c.args.n = omega arith in
    let long : length front ≡ kept.count = simp length-drop (omega arith) in
    let bytes = front_gone c.args.n kept.count kept.bytes ys _ kept.whole kept.within past gone.1 in
    (omega (arith, gone.0, length-append front ys), bytes, omega arith)
