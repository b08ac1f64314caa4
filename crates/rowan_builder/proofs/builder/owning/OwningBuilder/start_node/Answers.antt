use Rattle.std.proofs.Common.{◌++◌, ◌∷◌, [], List, length, sym, ◌∙◌, ap, subst, arith}
use Rattle.rowan_builder.specs.declared.builder.owning.Opening.{Opening}
use Rattle.rowan_green.specs.Word.{Open, spelled}
use Rattle.rowan_builder.specs.Weave.{weave, AreInOrder}
use Rattle.rowan_green.specs.Waiting.{elements}
use Rattle.rowan_builder.proofs.BuilderLemmas.{same_value}
use Rattle.rowan_builder.proofs.WeaveLemmas.{spelled-start, AreInOrder-push, AreInOrder-grow}
use Rattle.rowan_builder.proofs.builder.owning.OwningBuilder.start_node.Goals as goal

pub invariant_of-self-2 : goal.invariant_of-self-2
invariant_of-self-2 c =
    let s = c.self.inside in
    let o : Opening = record { kind = c.args.kind; first_child = c.len-first_child.result } in
    let P : List Opening → Type 0 = λ os. AreInOrder 0 os (length (elements s.finished)) in (
      subst P (sym c.in_ok-open.ensures.items)
          (AreInOrder-push 0 s.parents.items o (length (elements s.finished))
          (AreInOrder-grow 0 s.parents.items (length (elements s.finished)) o.first_child
          c.self.invariant.0 (omega arith))
          (omega arith)),
      c.self.invariant.1,
    )

pub returns-clause-ok : goal.returns-clause-ok
returns-clause-ok c =
    let s = c.self.inside in
    let o : Opening = record { kind = c.args.kind; first_child = c.len-first_child.result } in
    same_value _ _ _ _
    (ap (λ os. spelled (weave 0 os (elements s.finished))) c.in_ok-open.ensures.items
    ∙ spelled-start s.parents.items (elements s.finished) o c.self.invariant.0
    (omega (arith, c.len-first_child.ensures))
    ∙ ap (λ b. b.word ++ Open c.args.kind.0 ∷ []) c.self.view_is)
    (ap (λ b. b.cache) c.self.view_is)
