use Rattle.std.proofs.Common.{◌++◌, ◌∷◌, [], sym, ◌∙◌, ap, append_assoc}
use Rattle.std.specs.Prelude.{slice_get}
use Rattle.std.proofs.lemmas.Result.{IfOk-weaker}
use Rattle.rowan_green.specs.declared.utility_types.NodeOrToken.TheVariants.{Node}
use Rattle.rowan_green.specs.Term.{node_children}
use Rattle.rowan_rewrite.specs.Drafts.{closed, done, inside_with}
use Rattle.rowan_rewrite.proofs.rewriting.draft.Draft.put_closed.Goals as goal

pub returns-in-Some-clause-done : goal.returns-in-Some-clause-done
returns-in-Some-clause-done c =
    let s = c.args.self in
    let front = inside_with s c.args.new.lead.items in
    let new = c.in-Some.node in
    IfOk-weaker c.put_node.result _ _
    (λ d is n at. is ∙ ap (λ ts. ts ++ Node new ∷ []) c.in_ok-draft.ensures.done
    ∙ append_assoc (done s) front (Node new ∷ [])
    ∙ ap (λ o. done s ++ (front ++ Node (closed n o) ∷ [])) (sym c.in-Some.is))
    c.put_node.ensures.done

pub returns-in-None-clause-done : goal.returns-in-None-clause-done
returns-in-None-clause-done c =
    let s = c.args.self in
    let front = inside_with s c.args.new.lead.items in
    let before = c.in_ok-draft.draft in
    let made = c.in_ok-draft.ensures in
    IfOk-weaker c.keep.result _ _
    (λ d is n at. is (Node n)
    (ap (λ m. slice_get (node_children m) before.next) made.node
    ∙ ap (slice_get (node_children s.node.now)) made.next ∙ at)
    ∙ ap (λ ts. ts ++ Node n ∷ []) made.done ∙ append_assoc (done s) front (Node n ∷ [])
    ∙ ap (λ o. done s ++ (front ++ Node (closed n o) ∷ [])) (sym c.in-None.is))
    c.keep.ensures.done
