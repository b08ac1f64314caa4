use Rattle.std.proofs.Common.{◌++◌, ◌∷◌, [], refl, sym, subst, ◌∙◌, ap, true, false}
use Rattle.std.proofs.lemmas.Result.{err_from_is_err_and}
use Rattle.std.proofs.iter.runs.Made.{run, to_end, to_item}
use Rattle.rowan_green.specs.Fits.{AreWithin, ChildPasses}
use Rattle.rowan_green.specs.Term.{node_of}
use Rattle.rowan_green.proofs.green.node.GreenNode.new.Goals as goal

pub returns-clause-ok : goal.returns-clause-ok
returns-clause-ok g c =
    let it = c.into_iter-element-iterator.result in
    let steps = g.I.IntoIter.Iterator.next_gives in
    let xs = c.loop-element.yielded in (
      it,
      subst (λ t. g.I.IntoIterator.into_iter_gives c.args.children t)
          (sym c.into_iter-element-iterator.ensures.into_iter_gives)
          c.into_iter-children.ensures.into_iter_gives,
      (
        run steps it xs true (to_end steps it xs
            (_, (_, c.loop-element.yielded_by, c.in-None.ensures.steps))),
        refl,
        refl,
        (
          c.in_ok-finish.ensures.ok ∙ ap (λ ts. node_of c.args.kind.0 ts) c.loop-element.invariant,
          subst AreWithin c.loop-element.invariant c.in_ok-finish.ensures.within,
        ),
      ),
    )

pub returns-in_err-push-clause-err : goal.returns-in_err-push-clause-err
returns-in_err-push-clause-err g c =
    let it = c.into_iter-element-iterator.result in
    let steps = g.I.IntoIter.Iterator.next_gives in
    let xs = c.loop-element.yielded in
    let x = c.in-Some.element in
    let p = err_from_is_err_and c.from_residual-in_err-push.result
    c.from_residual-in_err-push.ensures.1 in
    rw (p.1, p.2) (λ not_memory. (
      it,
      subst (λ t. g.I.IntoIterator.into_iter_gives c.args.children t)
          (sym c.into_iter-element-iterator.ensures.into_iter_gives)
          c.into_iter-children.ensures.into_iter_gives,
      (
        run steps it (xs ++ x ∷ []) false
            (to_item steps it _ xs x (_, c.loop-element.yielded_by, c.in-Some.ensures.steps)),
        refl,
        record {
          before = xs;
          child = x;
          after = [];
          parts = refl;
          within = subst AreWithin c.loop-element.invariant c.push.ensures.within_before;
          passes = subst (λ ts. ChildPasses ts x c.in_err-push.field-0.0) c.loop-element.invariant
              (c.in_err-push.ensures.err not_memory);
        },
      ),
    ))
