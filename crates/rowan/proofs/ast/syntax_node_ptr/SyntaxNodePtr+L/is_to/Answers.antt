use Rattle.std.proofs.Common.{rules, sym, ◌∙◌}
use Rattle.std.specs.Option.{option_map}
use Rattle.rowan_green.specs.declared.utility_types.NodeOrToken.TheVariants.{Node}
use Rattle.rowan_terms.specs.Path.{subterm}
use Rattle.rowan_api.specs.Refs.{node_place}
use Rattle.rowan.specs.Pointer.{means_kind}
use Rattle.rowan.proofs.PointerLemmas.{kind-meant, range-meant}
use Rattle.rowan.proofs.ast.syntax_node_ptr.SyntaxNodePtr+L.is_to.Goals as goal

pub returns-then-eq-clause-is : goal.returns-then-eq-clause-is
returns-then-eq-clause-is g c =
    let root = (node_place c.args.node).root in
    let path = (node_place c.args.node).path in
    let means = means_kind g.L.Language.meaning g.L.Kind.PartialEq.eq c.args.self.now.kind in
    let kind = kind-meant g.L.Language.meaning g.L.Kind.PartialEq.eq c.args.self.now.kind
    c.kind.result (subterm (Node root) path) c.requires c.kind.ensures in
    sym (range-meant means c.args.self.now.range root path (search rules) (search rules) ∙ kind
    ∙ (search rules))
