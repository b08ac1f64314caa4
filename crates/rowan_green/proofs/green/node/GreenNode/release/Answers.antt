use Rattle.std.proofs.Common.{map, ap, ◌∙◌, arith}
use Rattle.rowan_green.specs.View.{child_term}
use Rattle.rowan_green.proofs.ChildList.{children-view}
use Rattle.rowan_green.proofs.Drops.{children_size-node}
use Rattle.rowan_green.proofs.green.node.GreenNode.release.Goals as goal

pub returns : goal.returns
returns c =
    let same = ap (map child_term) c.in_ok-_head.ensures.2
    ∙ children-view c.self.inside.data.value c.args.self c.self.view_is in
    omega (arith, children_size-node c.in_ok-_head.block.list.items c.args.self same)
