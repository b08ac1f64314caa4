use Rattle.std.proofs.Common.{string_bytes, sym, ◌∙◌, ap, subst}
use Rattle.rowan_green.specs.declared.utility_types.NodeOrToken.TheVariants.{Node}
use Rattle.rowan_green.specs.Span.{Span}
use Rattle.rowan_terms.proofs.Paths.{offset-empty}
use Rattle.rowan_print.specs.Printed.{raw_name, AreNodeLines}
use Rattle.rowan_api.proofs.api.node.SyntaxNode.debug_tree_of.Goals as goal

pub returns-clause-ok : goal.returns-clause-ok
returns-clause-ok g c =
    let name = raw_name g.L.Language.name g.L.Language.meaning in
    let root = c.args.root.now in
    let start = ap (λ (s : Span). s.start) c.at-range.ensures ∙ c.from.ensures
    ∙ sym (offset-empty (Node root)) in
    subst (λ from. AreNodeLines name from 0 root (string_bytes c.in_ok-tree.field-0)) start
    c.in_ok-tree.ensures
