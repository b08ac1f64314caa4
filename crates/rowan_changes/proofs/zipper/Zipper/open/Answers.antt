use Rattle.std.proofs.Common.{◌≡◌, Some, sym, ◌∙◌, ap, subst}
use Rattle.std.specs.Prelude.{slice_get}
use Rattle.rowan_green.specs.declared.utility_types.NodeOrToken.TheVariants.{Node}
use Rattle.rowan_green.specs.Term.{node_children}
use Rattle.rowan_changes.specs.OpenNode.{closed, around_all}
use Rattle.rowan_changes.specs.Zipper.{Leads}
use Rattle.rowan_changes.proofs.ZipperLemmas.{around-more, leads-more}
use Rattle.rowan_changes.proofs.zipper.Zipper.open.Goals as goal

pub returns-clause-tree : goal.returns-clause-tree
returns-clause-tree c =
    let above = c.args.self.above.items in
    let o = c.in_ok-opened.opened in
    ap (λ ns. around_all ns (Node (closed o.1))) c.in_ok-push.ensures.items
    ∙ around-more above o.0 (Node (closed o.1)) ∙ ap (around_all above) c.in_ok-opened.ensures.same

pub returns-clause-standing : goal.returns-clause-standing
returns-clause-standing c =
    let above = c.args.self.above.items in
    let root = c.args.self.root.now in
    let o = c.in_ok-opened.opened in
    let child : slice_get (node_children o.0.node.now) o.0.kept ≡ Some (Node o.1.node.now) =
    ap (λ n. slice_get (node_children n) o.0.kept) c.in_ok-opened.ensures.node
    ∙ ap (λ k. slice_get (node_children c.args.self.inner.node.now) k) c.in_ok-opened.ensures.kept
    ∙ c.in_ok-opened.ensures.child in
    subst (λ ns. Leads root ns o.1.node.now) (sym c.in_ok-push.ensures.items)
    (leads-more root above o.0 o.1.node.now
    (subst (Leads root above) (sym c.in_ok-opened.ensures.node) c.requires.standing) child)
