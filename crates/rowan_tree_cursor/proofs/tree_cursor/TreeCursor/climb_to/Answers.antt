use Rattle.std.proofs.Common.{◌<◌, ◌∙◌, arith}
use Rattle.rowan_tree_cursor.proofs.TreeCursorSearchLemmas.{GoneUp, up-one}
use Rattle.rowan_tree_cursor.proofs.tree_cursor.TreeCursor.climb_to.Goals as goal

pub loop-self-smaller : goal.loop-self-smaller
loop-self-smaller c =
    let less : c.args.depth < c.depth.result = omega (arith, c.loop-self-test.true) in
    let up : GoneUp c.args.depth c.loop-self.self c.goto_parent.new.self =
    up-one c.args.depth c.depth.result c.loop-self.self c.goto_parent.new.self
    c.goto_parent.result c.goto_parent.ensures c.depth.ensures less in
    up.shorter

pub loop-self-preserved : goal.loop-self-preserved
loop-self-preserved c =
    let less : c.args.depth < c.depth.result = omega (arith, c.loop-self-test.true) in
    let up : GoneUp c.args.depth c.loop-self.self c.goto_parent.new.self =
    up-one c.args.depth c.depth.result c.loop-self.self c.goto_parent.new.self
    c.goto_parent.result c.goto_parent.ensures c.depth.ensures less in
    (up.root ∙ c.loop-self.invariant.0, up.same ∙ c.loop-self.invariant.1)
