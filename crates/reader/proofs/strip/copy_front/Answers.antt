use Rattle.std.proofs.Common.{arith}
use Rattle.std.proofs.lemmas.List.Edits.{paste_none}
use Rattle.reader.proofs.Fronts.{byte_is, copied_more}
use Rattle.reader.proofs.strip.copy_front.Goals as goal

pub loop-k-init : goal.loop-k-init
loop-k-init g c = paste_none c.args.strip.now c.args.at (g.S.Source.rest c.args.source.now)

pub loop-k-preserved : goal.loop-k-preserved
loop-k-preserved g c =
    let rest = g.S.Source.rest c.args.source.now in
    let byte = byte_is rest c.loop-k.k _ _ (omega arith) c.look.ensures c.unwrap_or.ensures in
    copied_more c.args.strip.now rest c.loop-k.strip c.args.at c.loop-k.k c.unwrap_or.result
    (omega arith) (omega arith) c.loop-k.invariant byte
