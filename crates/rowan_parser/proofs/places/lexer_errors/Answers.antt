use Rattle.std.proofs.Common.{arith}
use Rattle.std.proofs.lemmas.List.{drop_more}
use Rattle.rowan_parser.proofs.Ranges.{lexer_more, lexer_end}
use Rattle.rowan_parser.proofs.places.lexer_errors.Goals as goal

pub loop-error-preserved : goal.loop-error-preserved
loop-error-preserved c =
    let next = drop_more c.args.complained.now c.loop-error.error-index _ (omega arith) in
    lexer_more _ _ _ _ _ _ _ next c.in_ok-push.ensures.items c.in_ok-told_error.ensures.ok
    c.loop-error.invariant

pub returns-clause-told : goal.returns-clause-told
returns-clause-told c = lexer_end _ _ c.loop-error.error-index _ (omega arith)
    c.loop-error.invariant
