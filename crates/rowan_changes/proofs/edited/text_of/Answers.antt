use Rattle.std.proofs.Common.{◌++◌, sym, ◌∙◌, ap, arith}
use Rattle.rowan_green.specs.Lent.{pointee}
use Rattle.rowan_green.specs.Term.{node_children, term_text}
use Rattle.rowan_changes.proofs.ElementLemmas.{text-more}
use Rattle.rowan_changes.proofs.edited.text_of.Goals as goal

pub loop-index-preserved : goal.loop-index-preserved
loop-index-preserved c =
    let inv = c.loop-index.invariant in
    let k = c.loop-index.index in
    let from = c.args.children.start in
    let t = pointee c.in-Some.child.1 in (
      omega (arith, inv.0),
      omega (arith, inv.0, c.loop-index-test.true),
      c.in_ok-push_text.ensures.ok ∙ ap (λ bs. bs ++ term_text t) inv.2
          ∙ sym (text-more (node_children c.args.node.now) from k t inv.0 c.in-Some.ensures.some.1),
    )
