use Rattle.reader.specs.Follows.{world_of, around}
use Rattle.reader.proofs.Same.{same_step}
use Rattle.reader.proofs.steps.step.Goals as goal

pub returns-in-Waiting-Next-clause-follows : goal.returns-in-Waiting-Next-clause-follows
returns-in-Waiting-Next-clause-follows g c =
    let world = world_of c.args.table.now g.S.Source.CAPACITY in
    let s = c.args.source.now in
    let old = around (g.S.Source.rest s) (g.S.Source.slack s) c.args.strip.now in
    let t = s in
    let new = around (g.S.Source.rest t) (g.S.Source.slack t) c.next.new.strip in
    same_step world old new c.next.result _ _ _ _
    c.in-Waiting-Next.is-0 c.in-Waiting-Next.is-1 c.next.ensures

pub returns-in-Waiting-Begin-clause-follows : goal.returns-in-Waiting-Begin-clause-follows
returns-in-Waiting-Begin-clause-follows g c =
    let world = world_of c.args.table.now g.S.Source.CAPACITY in
    let s = c.args.source.now in
    let old = around (g.S.Source.rest s) (g.S.Source.slack s) c.args.strip.now in
    let t = s in
    let new = around (g.S.Source.rest t) (g.S.Source.slack t) c.args.strip.now in
    same_step world old new c.begin.result _ _ _ _
    c.in-Waiting-Begin.is-0 c.in-Waiting-Begin.is-1 (c.begin.ensures g.S.Source.CAPACITY old)

pub returns-in-Waiting-PutBack-clause-follows : goal.returns-in-Waiting-PutBack-clause-follows
returns-in-Waiting-PutBack-clause-follows g c =
    let world = world_of c.args.table.now g.S.Source.CAPACITY in
    let s = c.args.source.now in
    let old = around (g.S.Source.rest s) (g.S.Source.slack s) c.args.strip.now in
    let t = c.put_back.new.source in
    let new = around (g.S.Source.rest t) (g.S.Source.slack t) c.args.strip.now in
    same_step world old new c.put_back.result _ _ _ _
    c.in-Waiting-PutBack.is-0 c.in-Waiting-PutBack.is-1 (c.put_back.ensures c.args.table.now c.args.strip.now)

pub returns-in-InHand-Reject-clause-follows : goal.returns-in-InHand-Reject-clause-follows
returns-in-InHand-Reject-clause-follows g c =
    let world = world_of c.args.table.now g.S.Source.CAPACITY in
    let s = c.args.source.now in
    let old = around (g.S.Source.rest s) (g.S.Source.slack s) c.args.strip.now in
    let t = s in
    let new = around (g.S.Source.rest t) (g.S.Source.slack t) c.reject.new.strip in
    same_step world old new c.reject.result _ _ _ _
    c.in-InHand-Reject.is-0 c.in-InHand-Reject.is-1 c.reject.ensures

pub returns-in-InHand-Accept-clause-follows : goal.returns-in-InHand-Accept-clause-follows
returns-in-InHand-Accept-clause-follows g c =
    let world = world_of c.args.table.now g.S.Source.CAPACITY in
    let s = c.args.source.now in
    let old = around (g.S.Source.rest s) (g.S.Source.slack s) c.args.strip.now in
    let t = c.accept.new.source in
    let new = around (g.S.Source.rest t) (g.S.Source.slack t) c.args.strip.now in
    same_step world old new c.accept.result _ _ _ _
    c.in-InHand-Accept.is-0 c.in-InHand-Accept.is-1 (c.accept.ensures c.args.table.now c.args.strip.now)

pub returns-in-InHand-Keep-clause-follows : goal.returns-in-InHand-Keep-clause-follows
returns-in-InHand-Keep-clause-follows g c =
    let world = world_of c.args.table.now g.S.Source.CAPACITY in
    let s = c.args.source.now in
    let old = around (g.S.Source.rest s) (g.S.Source.slack s) c.args.strip.now in
    let t = c.keep.new.source in
    let new = around (g.S.Source.rest t) (g.S.Source.slack t) c.args.strip.now in
    same_step world old new c.keep.result _ _ _ _
    c.in-InHand-Keep.is-0 c.in-InHand-Keep.is-1 (c.keep.ensures c.args.table.now c.args.strip.now)

pub returns-in-InHand-Extend-clause-follows : goal.returns-in-InHand-Extend-clause-follows
returns-in-InHand-Extend-clause-follows g c =
    let world = world_of c.args.table.now g.S.Source.CAPACITY in
    let s = c.args.source.now in
    let old = around (g.S.Source.rest s) (g.S.Source.slack s) c.args.strip.now in
    let t = c.extend.new.source in
    let new = around (g.S.Source.rest t) (g.S.Source.slack t) c.args.strip.now in
    same_step world old new c.extend.result _ _ _ _
    c.in-InHand-Extend.is-0 c.in-InHand-Extend.is-1 (c.extend.ensures c.args.table.now c.args.strip.now)
