use Rattle.std.proofs.Common.{◌≡◌, [], ◌∷◌, Some, refl, sym, ◌∙◌, ap, subst, arith}
use Rattle.std.specs.Prelude.{IfSome}
use Rattle.std.specs.List.{slice_get}
use Rattle.rowan_green.specs.declared.utility_types.NodeOrToken.TheVariants.{Node}
use Rattle.rowan_green.specs.Term.{node_of}
use Rattle.rowan_builder.specs.Cache.{CacheValue, AreNumbered}
use Rattle.rowan_builder.proofs.NumberLemmas.{StandAt-elements, only_item}
use Rattle.rowan_builder.proofs.node_cache.NodeCache.only_parent.Goals as goal

pub returns : goal.returns
returns c = λ ts numbered.
    let s = c.self.inside in
    let cache : CacheValue = record { limit = s.limit; seen = s.table } in
    let n = c.in_ok-child.child in
    let os = c.args.children.now in
    let only : os ≡ Some n ∷ [] =
    only_item os (omega (arith, c.if-children-ne1.false))
    ∙ ap (λ o. o ∷ []) c.in_ok-child.was in
    let own : AreNumbered cache ts (Some n ∷ []) =
    subst (λ v. AreNumbered v ts (Some n ∷ [])) (sym c.self.view_is)
    (subst (AreNumbered c.args.self.now ts) only numbered) in
    subst (λ v. IfSome c.parent_number.result
    (λ k. slice_get v.seen k ≡ Some (Node (node_of c.args.kind.0 ts)))) c.self.view_is
    (c.parent_number.ensures ts (StandAt-elements cache ts (Some n ∷ []) (n ∷ []) own refl))
