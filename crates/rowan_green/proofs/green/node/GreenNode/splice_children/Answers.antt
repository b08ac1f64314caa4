use Rattle.std.proofs.Common.{◌≢◌, ◌++◌, ◌∷◌, [], take, drop, refl, sym, subst, ◌∙◌, ap, true}
use Rattle.std.proofs.Common.{false, append_assoc}
use Rattle.std.proofs.lemmas.Result.{err_from_is_err_and}
use Rattle.std.proofs.iter.runs.Made.{run, to_end, to_item}
use Rattle.rowan_green.specs.declared.fault.Fault.TheVariants.{Memory}
use Rattle.rowan_green.specs.Edits.{spliced, IsEditOf}
use Rattle.rowan_green.specs.Fits.{AreWithin, ChildPasses, PassesLimit}
use Rattle.rowan_green.specs.Term.{node_of, node_kind, node_children}
use Rattle.std.proofs.lemmas.Result.{IfOk-weaker, IfErr-weaker}
use Rattle.rowan_green.proofs.green.node.GreenNode.splice_children.Goals as goal

pub returns-in_err-push-clause-err : goal.returns-in_err-push-clause-err
returns-in_err-push-clause-err g c =
    let it = c.into_iter-element-iterator.result in
    let steps = g.I.IntoIter.Iterator.next_gives in
    let before = take c.args.range.start (node_children c.args.self.now) in
    let xs = c.loop-element.yielded in
    let x = c.in-Some.element in
    let p = err_from_is_err_and c.from_residual-in_err-push.result
    c.from_residual-in_err-push.ensures.1 in
    rw (p.1, p.2) (λ not_memory. (
      it,
      subst (λ t. g.I.IntoIterator.into_iter_gives c.args.replace_with t)
          (sym c.into_iter-element-iterator.ensures.into_iter_gives)
          c.into_iter-new_children.ensures.into_iter_gives,
      (
        run steps it (xs ++ x ∷ []) false
            (to_item steps it _ xs x (_, c.loop-element.yielded_by, c.in-Some.ensures.steps)),
        refl,
        record {
          before = before ++ xs;
          child = x;
          after = [];
          parts = sym (append_assoc before xs (x ∷ []));
          within = subst AreWithin {y = before ++ xs} c.loop-element.invariant
              c.push.ensures.within_before;
          passes = subst (λ ts. ChildPasses ts x c.in_err-push.field-0.0) {y = before ++ xs}
              c.loop-element.invariant (c.in_err-push.ensures.err not_memory);
        },
      ),
    ))

pub returns-clause-ok : goal.returns-clause-ok
returns-clause-ok g c =
    let it = c.into_iter-element-iterator.result in
    let steps = g.I.IntoIter.Iterator.next_gives in
    let ts = node_children c.args.self.now in
    let k = node_kind c.args.self.now in
    let end = c.args.range.end in
    let xs = c.loop-element.yielded in
    let whole = ap (λ d. d ++ drop end ts) c.loop-element.invariant in
    IfOk-weaker c.finish_after.result
    (IsEditOf c.args.self.now (λ us. c.loop-element.draft ++ drop end us)) _
    (λ n p. (
      it,
      subst (λ t. g.I.IntoIterator.into_iter_gives c.args.replace_with t)
          (sym c.into_iter-element-iterator.ensures.into_iter_gives)
          c.into_iter-new_children.ensures.into_iter_gives,
      (
        run steps it xs true (to_end steps it xs
            (_, (_, c.loop-element.yielded_by, c.in-None.ensures.steps))),
        refl,
        refl,
        (
          p.0 ∙ ap (node_of k) whole,
          subst AreWithin {y = spliced ts c.args.range.start end xs} whole p.1,
        ),
      ),
    ))
    c.finish_after.ensures.ok

pub returns-clause-err : goal.returns-clause-err
returns-clause-err g c =
    let it = c.into_iter-element-iterator.result in
    let steps = g.I.IntoIter.Iterator.next_gives in
    let ts = node_children c.args.self.now in
    let end = c.args.range.end in
    let xs = c.loop-element.yielded in
    let whole = ap (λ d. d ++ drop end ts) c.loop-element.invariant in
    IfErr-weaker c.finish_after.result
    (λ e. e ≢ Memory → PassesLimit (c.loop-element.draft ++ drop end ts) e) _
    (λ e passes not_memory. (
      it,
      subst (λ t. g.I.IntoIterator.into_iter_gives c.args.replace_with t)
          (sym c.into_iter-element-iterator.ensures.into_iter_gives)
          c.into_iter-new_children.ensures.into_iter_gives,
      (
        run steps it xs true (to_end steps it xs
            (_, (_, c.loop-element.yielded_by, c.in-None.ensures.steps))),
        refl,
        subst (λ us. PassesLimit us e) {y = spliced ts c.args.range.start end xs} whole
            (passes not_memory),
      ),
    ))
    c.finish_after.ensures.err
