use Rattle.std.proofs.Common.{string_bytes, sym, ap, subst}
use Rattle.rowan_green.specs.declared.utility_types.NodeOrToken.TheVariants.{Node}
use Rattle.rowan_terms.specs.Path.{offset}
use Rattle.rowan_green.specs.Span.{Span}
use Rattle.rowan_print.specs.Printed.{raw_name, AreNodeLines, AreTermLines, IsPrinted}
use Rattle.rowan_api.proofs.api.node.SyntaxNode.debug_tree.Goals as goal

pub returns-clause-ok : goal.returns-clause-ok
returns-clause-ok g c =
    let name = raw_name g.L.Language.name g.L.Language.meaning in
    let cursor = c.args.self.now in
    let at = offset (Node cursor.root) cursor.path in
    let text = string_bytes c.in_ok-tree.field-0 in
    let lines = subst (λ start. AreNodeLines name start 0 c.green.result.now text)
    (ap (λ (s : Span). s.start) c.text_range.ensures) c.in_ok-tree.ensures in
    subst (λ o. IsPrinted (AreTermLines name at 0) o text) (sym c.green.ensures) lines
