use Rattle.std.proofs.Common.{Some, ap, ◌∙◌, arith}
use Rattle.rowan_green.specs.Lent.{pointee}
use Rattle.rowan_transcript.proofs.Children.{node_size-child}
use Rattle.rowan_transcript.proofs.shape.+write_node.Goals as goal

pub write_node-requires : goal.write_node-requires
write_node-requires g t c κs within =
    let child = node_size-child c.args.node.now c.in-Node.node.now c.loop-index.index
    (c.in-Some.ensures.some.1 ∙ ap (λ x. Some (pointee x)) c.in-Node.is) in
    (omega (arith, c.decreases, child), within)
