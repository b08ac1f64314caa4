use Rattle.std.proofs.Common.{◌≤◌, length, sym, ◌∙◌, ap, subst, arith}
use Rattle.rowan_green.specs.Fits.{AreWithin}
use Rattle.rowan_green.specs.Term.{node_of, node_kind, node_children}
use Rattle.rowan_green.proofs.EditLemmas.{node_of-children, replaced-past}
use Rattle.rowan_green.proofs.green.node.GreenNode.replace_child.Goals as goal

pub returns-then-index-child_count-clause-ok : goal.returns-then-index-child_count-clause-ok
returns-then-index-child_count-clause-ok c =
    let n = c.args.self.now in
    let past : length (node_children n) ≤ c.args.index =
    omega (arith, c.if-index-child_count.true, c.child_count.ensures.count) in
    let same = replaced-past (node_children n) c.args.index c.args.new_child past in (
      c.in_ok-clone.ensures.cases ∙ sym (node_of-children n)
          ∙ ap (node_of (node_kind n)) (sym same),
      subst AreWithin (sym same) c.child_count.ensures.within,
    )
