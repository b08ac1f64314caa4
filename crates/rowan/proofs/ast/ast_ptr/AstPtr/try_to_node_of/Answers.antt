use Rattle.std.proofs.Common.{sym, ◌∙◌, ap, Some}
use Rattle.std.specs.Option.{option_map}
use Rattle.rowan_api.specs.Refs.{node_place}
use Rattle.rowan.proofs.CarriedLemmas.{wrapper-found}
use Rattle.rowan.proofs.ast.ast_ptr.AstPtr.try_to_node_of.Goals as goal

pub returns-in_ok-to_owned-in-Some-clause-ok : goal.returns-in_ok-to_owned-in-Some-clause-ok
returns-in_ok-to_owned-in-Some-clause-ok g c =
    wrapper-found g.N.Language.Language.meaning g.N.Language.Kind.PartialEq.eq g.N.AstNode.casts
    g.N.AstNode.node_of c.self.inside.raw c.args.self.now (node_place c.args.root)
    c.in_ok-to_owned-in-Some.field-0 (option_map node_place c.try_to_node_ref.result) c.cast.result
    g.met.N.AstNode.equal_kinds c.self.invariant c.self.view_is c.try_to_node_ref.ensures
    (ap (option_map node_place) c.in-Some.is ∙ ap (λ d. Some d)
    (sym c.in_ok-to_owned-in-Some.ensures.ok))
    c.cast.ensures
