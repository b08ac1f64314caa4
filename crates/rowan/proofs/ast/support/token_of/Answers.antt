use Rattle.std.proofs.Common.{◌∙◌, ap}
use Rattle.std.specs.Option.{option_map}
use Rattle.rowan_green.specs.declared.utility_types.NodeOrToken.TheVariants.{Token}
use Rattle.rowan_table.specs.Moves.{children_with_tokens}
use Rattle.rowan_api.specs.Refs.{node_place}
use Rattle.rowan.specs.Pointer.{means_kind}
use Rattle.rowan.proofs.WrapperLemmas.{find-token}
use Rattle.rowan.proofs.ast.support.token_of.Goals as goal

pub returns : goal.returns
returns g c =
    let means = means_kind g.L.Language.meaning g.L.Kind.PartialEq.eq c.args.kind in
    ap (option_map Token) c.first_token_of_kind.ensures
    ∙ find-token means (children_with_tokens (node_place c.args.parent))
