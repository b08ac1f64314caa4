use Rattle.std.proofs.Common.{◌≡◌, suc, ◌+◌, ◌<◌, ◌++◌, ◌∷◌, map, length, take, drop, sym, ◌∙◌, ap}
use Rattle.std.proofs.Common.{subst, arith, add-one, drop-cons, append_assoc}
use Rattle.std.proofs.lemmas.Result.{err_from_is_err_and}
use Rattle.std.proofs.lemmas.List.{take-append-drop, map-append}
use Rattle.rowan_green.specs.declared.green.node.GreenChild.{GreenChild}
use Rattle.rowan_green.specs.Fits.{AreWithin, ChildPasses}
use Rattle.rowan_green.specs.Term.{Term}
use Rattle.rowan_green.specs.View.{child_term}
use Rattle.rowan_green.proofs.green.node.NodeDraft.push_shared.Goals as goal

pub returns-in_err-push-clause-err : goal.returns-in_err-push-clause-err
returns-in_err-push-clause-err c =
    let p = err_from_is_err_and c.from_residual-in_err-push.result
    c.from_residual-in_err-push.ensures.1 in
    let ts = c.args.self.now in
    let cs = c.args.children.now in
    let i = c.loop-child.child-index in
    let child : GreenChild = c.child-item.result in
    let x : Term = c.in_ok-to_owned.field-0 in
    let here : i < length cs = omega (arith, c.loop-child-test.true) in
    let is : x ≡ child_term child = c.in_ok-to_owned.ensures.ok ∙ c.as_ref.ensures in
    let at : drop i cs ≡ child ∷ drop (i + 1) cs =
    rw (add-one, drop-cons cs i child) (ap (λ y. y ∷ drop (suc i) cs) (sym c.child-item.is)) in
    let before = ts ++ map child_term (take i cs) in
    let after = map child_term (drop (i + 1) cs) in
    let terms = ap (map child_term) (sym (take-append-drop i cs) ∙ ap (λ ds. take i cs ++ ds) at)
    ∙ map-append child_term (take i cs) (child ∷ drop (i + 1) cs) in
    rw (p.1, p.2) (λ not_memory. record {
      before = before;
      child = x;
      after = after;
      parts = ap (λ us. ts ++ us) terms
          ∙ sym (append_assoc ts (map child_term (take i cs)) (child_term child ∷ after))
          ∙ ap (λ y. before ++ y ∷ after) (sym is);
      within = subst AreWithin c.loop-child.invariant c.push.ensures.within_before;
      passes = subst (λ us. ChildPasses us x c.in_err-push.field-0.0) c.loop-child.invariant
          (c.in_err-push.ensures.err not_memory);
    })
