use Rattle.std.proofs.Common.{sym, ◌∙◌, ap}
use Rattle.serde_json.specs.Written.{compact_text}
use Rattle.rowan_green.specs.declared.utility_types.NodeOrToken.TheVariants.{Node}
use Rattle.rowan_green.specs.Span.{Span}
use Rattle.rowan_terms.proofs.Paths.{offset-empty}
use Rattle.rowan_print.specs.Printed.{raw_name, node_json}
use Rattle.rowan_api.proofs.api.node.SyntaxNode.to_json_string_of.Goals as goal

pub returns-clause-ok : goal.returns-clause-ok
returns-clause-ok g c =
    let name = raw_name g.L.Language.name g.L.Language.meaning in
    let root = c.args.root.now in
    c.in_ok-tree_text.ensures
    ∙ ap (λ start. compact_text (node_json name start root))
    (ap (λ (s : Span). s.start) c.at-range.ensures ∙ c.from.ensures
    ∙ sym (offset-empty (Node root)))
