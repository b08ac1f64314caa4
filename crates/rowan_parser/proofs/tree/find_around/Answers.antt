use Rattle.std.proofs.Common.{refl, arith}
use Rattle.rowan_parser.proofs.Around.{around_begins, around_past, around_stop, around_step}
use Rattle.rowan_parser.proofs.tree.find_around.Goals as goal

pub loop-outer-init : goal.loop-outer-init
loop-outer-init c = around_begins c.args.kinds.now.items c.args.outer c.args.events.now c.requires

pub returns-then-distance-rest-clause-ok : goal.returns-then-distance-rest-clause-ok
returns-then-distance-rest-clause-ok c = around_past _ _ c.loop-outer.outer c.loop-outer.rest.now
    (omega arith) c.loop-outer.invariant

pub returns-in-None-clause-ok : goal.returns-in-None-clause-ok
returns-in-None-clause-ok c = around_stop _ _ c.loop-outer.outer c.loop-outer.rest.now _ _
    (omega arith) (omega arith) refl c.in-None.ensures c.loop-outer.invariant

pub loop-outer-preserved : goal.loop-outer-preserved
loop-outer-preserved c = around_step _ _ _ c.loop-outer.outer c.loop-outer.rest.now _ _ _
    c.in-Some.node (omega arith) (omega arith) refl c.in-Some.ensures c.split_at.ensures.back
    c.in_ok-push-in-Some.ensures.items c.loop-outer.invariant
