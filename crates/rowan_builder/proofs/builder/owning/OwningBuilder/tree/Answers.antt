use Rattle.std.proofs.Common.{◌∷◌, [], length, refl, sym, ◌∙◌, ap, arith}
use Rattle.std.proofs.lemmas.List.{length-map}
use Rattle.rowan_green.specs.declared.utility_types.NodeOrToken.TheVariants.{Node, Token}
use Rattle.rowan_green.specs.Lent.{pointee}
use Rattle.rowan_green.specs.Waiting.{elements}
use Rattle.rowan_builder.proofs.BuilderLemmas.{elements-first}
use Rattle.rowan_green.specs.View.{child_term}
use Rattle.rowan_builder.proofs.WeaveLemmas.{HasTerms-weave}
use Rattle.rowan_builder.proofs.builder.owning.OwningBuilder.tree.Goals as goal

pub returns-in-Node-clause-ok : goal.returns-in-Node-clause-ok
returns-in-Node-clause-ok c =
    let s = c.self.inside in
    let cs = c.elements_from-elements.result.now in
    HasTerms-weave s.parents.items (elements s.finished) (Node c.in-Node.node.now ∷ [])
    c.args.self.now.word (ap (λ b. b.word) c.self.view_is)
    (sym c.elements_from-elements.ensures
    ∙ elements-first cs c.index-elements-0.result (Node c.in-Node.node.now)
    (omega (
      arith,
      c.if-len-ne1.false,
      c.len.ensures,
      ap length c.elements_from-elements.ensures,
      length-map cs child_term,
    ))
    c.index-elements-0.is (sym c.as_ref.ensures ∙ ap pointee c.in-Node.is))

pub returns-then-len-ne1-clause-err : goal.returns-then-len-ne1-clause-err
returns-then-len-ne1-clause-err c =
    let s = c.self.inside in (
      elements s.finished,
      HasTerms-weave s.parents.items (elements s.finished) (elements s.finished)
          c.args.self.now.word (ap (λ b. b.word) c.self.view_is) refl,
      λ e. c.if-len-ne1.true (c.len.ensures ∙ e),
    )

pub returns-in-Token-clause-err : goal.returns-in-Token-clause-err
returns-in-Token-clause-err c =
    let s = c.self.inside in
    let cs = c.elements_from-elements.result.now in (
      c.in-Token.field-0.now,
      HasTerms-weave s.parents.items (elements s.finished) (Token c.in-Token.field-0.now ∷ [])
          c.args.self.now.word (ap (λ b. b.word) c.self.view_is)
          (sym c.elements_from-elements.ensures
          ∙ elements-first cs c.index-elements-0.result (Token c.in-Token.field-0.now)
          (omega (
            arith,
            c.if-len-ne1.false,
            c.len.ensures,
            ap length c.elements_from-elements.ensures,
            length-map cs child_term,
          ))
          c.index-elements-0.is (sym c.as_ref.ensures ∙ ap pointee c.in-Token.is)),
    )
