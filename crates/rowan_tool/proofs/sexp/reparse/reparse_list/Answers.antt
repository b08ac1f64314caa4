use Rattle.std.proofs.Common.{subst}
use Rattle.std.proofs.lemmas.Result.{err_from_is_err_and, IfOk-weaker, IfErr-weaker}
use Rattle.std.specs.Result.{IfOk, IfErr}
use Rattle.rowan_green.specs.declared.utility_types.NodeOrToken.TheVariants.{Node}
use Rattle.rowan_table.specs.Replacement.{IsReplacement, WhyNoReplacement}
use Rattle.rowan_tool.proofs.ListReparsed.{HasList, has-list, no-list, no-replacement, new-text}
use Rattle.rowan_tool.proofs.ListReparsed.{new-parse}
use Rattle.rowan_tool.proofs.sexp.reparse.reparse_list.Goals as goal

pub returns-in_err-green-clause-err : goal.returns-in_err-green-clause-err
returns-in_err-green-clause-err c =
    let list = subst HasList c.syntax-node.ensures.node
    (has-list c.syntax-node.result.now c.syntax-node.ensures.casts) in
    let why = no-list c.args.list.now c.args.new_text.now c.in_err-green.field-0.0 list
    c.in_err-green.ensures.err in
    let p = err_from_is_err_and c.from_residual.result c.from_residual.ensures.1 in
    rw (p.1, p.2) why

pub returns-clause-text : goal.returns-clause-text
returns-clause-text c =
    let node = c.syntax-node.ensures.node in
    let list = subst HasList node (has-list c.syntax-node.result.now c.syntax-node.ensures.casts) in
    let new = c.in_ok-green.green in
    IfOk-weaker c.replace_with.result _ _
    (λ n r. new-text c.args.list.now c.args.new_text.now new n list c.in_ok-green.ensures.ok r)
    (subst (λ d. IfOk c.replace_with.result (IsReplacement d (Node new))) node
    c.replace_with.ensures.ok)

pub returns-clause-parse : goal.returns-clause-parse
returns-clause-parse c =
    let node = c.syntax-node.ensures.node in
    let list = subst HasList node (has-list c.syntax-node.result.now c.syntax-node.ensures.casts) in
    let new = c.in_ok-green.green in
    IfOk-weaker c.replace_with.result _ _
    (λ n r. new-parse c.args.list.now c.args.new_text.now new n list c.in_ok-green.ensures.ok r)
    (subst (λ d. IfOk c.replace_with.result (IsReplacement d (Node new))) node
    c.replace_with.ensures.ok)

pub returns-clause-err : goal.returns-clause-err
returns-clause-err c =
    let node = c.syntax-node.ensures.node in
    let list = subst HasList node (has-list c.syntax-node.result.now c.syntax-node.ensures.casts) in
    let new = c.in_ok-green.green in
    IfErr-weaker c.replace_with.result _ _
    (λ e why. no-replacement c.args.list.now c.args.new_text.now new e list c.in_ok-green.ensures.ok
    why) (subst (λ d. IfErr c.replace_with.result (WhyNoReplacement d (Node new))) node
    c.replace_with.ensures.err)
