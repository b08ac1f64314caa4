use Rattle.std.proofs.lemmas.Result.{err_from_is_err_and}
use Rattle.rowan_tool.proofs.EditLemmas.{edited-next, edited-text, refused-edit, accepted-within}
use Rattle.rowan_tool.proofs.sexp.reparse.reparse_all.Goals as goal

pub loop-range-preserved : goal.loop-range-preserved
loop-range-preserved c =
    edited-next c.args.text.now c.args.edits.now c.loop-range.range-index c.loop-range-item.result
    c.as_str.result.now c.loop-range.green c.in_ok-green-2.green
    (search) c.loop-range-item.is c.as_str.ensures.value c.loop-range.invariant
    c.in_ok-green-2.ensures.ok

pub returns-in_err-green-2-clause-err : goal.returns-in_err-green-2-clause-err
returns-in_err-green-2-clause-err c =
    let within = accepted-within c.parse.result c.in_ok-parse.parse c.args.text.now
    c.in_ok-parse.was c.parse.ensures.too_long in
    let p = err_from_is_err_and c.from_residual-in_err-green-2.result
    c.from_residual-in_err-green-2.ensures.1 in
    rw (p.1, p.2) (λ other. refused-edit c.args.text.now c.args.edits.now c.loop-range.range-index
    c.loop-range-item.result c.as_str.result.now c.loop-range.green c.in_err-green-2.field-0.0
    within (search) c.loop-range-item.is c.as_str.ensures.value c.loop-range.invariant
    c.in_err-green-2.ensures.err other)

pub returns-clause-text : goal.returns-clause-text
returns-clause-text c = edited-text c.args.text.now c.args.edits.now c.loop-range.range-index
    c.loop-range.green (search) c.loop-range.invariant
