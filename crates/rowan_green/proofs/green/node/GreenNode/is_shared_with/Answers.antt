use Rattle.std.proofs.Common.{◌∙◌, ap, sym}
use Rattle.rowan_green.specs.Coding.{coded_node}
use Rattle.rowan_green.specs.View.{node_label}
use Rattle.rowan_green.proofs.green.node.GreenNode.is_shared_with.Goals as goal

pub returns : goal.returns
returns c same =
    let mine = c.self.invariant.labelled ∙ ap node_label c.self.view_is in
    let theirs = c.other.invariant.labelled ∙ ap node_label c.other.view_is in
    coded_node.inj c.args.self.now c.args.other.now
    (sym mine ∙ (c.same_block.ensures.same same).1 ∙ theirs)
