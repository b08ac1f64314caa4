use Rattle.std.proofs.Common.{sym, ◌∙◌, ap}
use Rattle.serde_json.specs.Written.{compact_text}
use Rattle.rowan_green.specs.declared.utility_types.NodeOrToken.TheVariants.{Node}
use Rattle.rowan_terms.specs.Path.{offset}
use Rattle.rowan_green.specs.Span.{Span}
use Rattle.rowan_print.specs.Printed.{raw_name, node_json, json_of, term_json}
use Rattle.rowan_api.proofs.api.node.SyntaxNode.to_json_string.Goals as goal

pub returns-clause-ok : goal.returns-clause-ok
returns-clause-ok g c =
    let name = raw_name g.L.Language.name g.L.Language.meaning in
    let cursor = c.args.self.now in
    c.in_ok-tree_text.ensures
    ∙ ap (λ start. compact_text (node_json name start c.green.result.now))
    (ap (λ (s : Span). s.start) c.text_range.ensures)
    ∙ ap compact_text (sym (ap (json_of (term_json name (offset (Node cursor.root) cursor.path)))
    c.green.ensures))
