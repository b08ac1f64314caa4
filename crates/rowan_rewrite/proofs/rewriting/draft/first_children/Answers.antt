use Rattle.std.proofs.Common.{◌≡◌, [], ◌∷◌, ◌++◌, Some, sym, ◌∙◌, ap}
use Rattle.std.specs.Prelude.{slice_get}
use Rattle.rowan_green.specs.Term.{node_children}
use Rattle.rowan_rewrite.proofs.RewritingLemmas.{take-at}
use Rattle.rowan_rewrite.proofs.rewriting.draft.first_children.Goals as goal

pub loop-index-preserved : goal.loop-index-preserved
loop-index-preserved c =
    let cs = node_children c.args.node.now in
    let x = c.in_ok-to_owned.field-0 in
    let there : slice_get cs c.loop-index.index ≡ Some x =
    c.in-Some.ensures.some.1 ∙ ap Some (sym c.in_ok-to_owned.ensures.ok) in
    c.in_ok-push.ensures.items ∙ ap (λ ts. ts ++ x ∷ []) c.loop-index.invariant
    ∙ sym (take-at cs c.loop-index.index x there)
