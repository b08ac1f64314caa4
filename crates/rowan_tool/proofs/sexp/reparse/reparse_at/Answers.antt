use Rattle.std.proofs.lemmas.Result.{IfErr-weaker, err_from_is_err_and}
use Rattle.rowan_tool.proofs.AncestorLemmas.{both-ok, reparsed-at, no-list-at, no-replacement-at}
use Rattle.rowan_tool.proofs.sexp.reparse.reparse_at.Goals as goal

pub returns-in_err-list-clause-err : goal.returns-in_err-list-clause-err
returns-in_err-list-clause-err c =
    let why = no-list-at c.args.green.now c.args.range c.in_ok-ancestors.ancestors.items
    c.args.new_text.now c.in_err-list.field-0.0 c.in_ok-ancestors.ensures.ok
    c.in_err-list.ensures.err in
    let p = err_from_is_err_and c.from_residual-in_err-list.result
    c.from_residual-in_err-list.ensures.1 in
    rw (p.1, p.2) why

pub returns-clause-ok : goal.returns-clause-ok
returns-clause-ok c =
    let above = c.in_ok-ancestors.ancestors.items in
    both-ok c.with_list.result _ _ _ (λ n root fits. reparsed-at c.args.green.now c.args.range above
    c.args.new_text.now c.in_ok-list.list n c.in_ok-ancestors.ensures.ok c.in_ok-list.ensures.ok
    (root c.args.green.now c.in_ok-ancestors.ensures.ancestors) fits) c.with_list.ensures.root
    c.with_list.ensures.fits

pub returns-clause-err : goal.returns-clause-err
returns-clause-err c =
    IfErr-weaker c.with_list.result _ _
    (λ e why. no-replacement-at c.args.green.now c.args.range c.in_ok-ancestors.ancestors.items
    c.args.new_text.now c.in_ok-list.list e c.in_ok-ancestors.ensures.ok c.in_ok-list.ensures.ok
    c.in_ok-ancestors.ensures.ancestors why) c.with_list.ensures.err
