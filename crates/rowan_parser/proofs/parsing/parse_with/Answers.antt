use Rattle.std.proofs.Common.{◌∙◌, ap}
use Rattle.std.proofs.lemmas.Result.{err_from_is_err_and}
use Rattle.rowan_events.specs.Tokens.{tokens_text}
use Rattle.rowan_parser.proofs.Parses.{parsed, no_tree}
use Rattle.rowan_parser.proofs.parsing.parse_with.Goals as goal

pub returns-in_err-green-clause-no_tree : goal.returns-in_err-green-clause-no_tree
returns-in_err-green-clause-no_tree g c =
    let p = err_from_is_err_and c.from_residual-in_err-green.result
    c.from_residual-in_err-green.ensures.1 in
    rw (p.1, p.2) (no_tree c.args.trivia c.kind_to_raw.result.0 c.in_ok-ran.ran.tokens.items
    c.as_slice.result.now c.as_slice-2.result.now c.args.text.now c.in_err-green.field-0.0
    c.as_slice.ensures.value c.in_ok-ran.ensures.ran.whole c.in_err-green.ensures.err)

pub returns-clause-text : goal.returns-clause-text
returns-clause-text g c = c.in_ok-green.ensures.text ∙ ap tokens_text c.as_slice.ensures.value
    ∙ c.in_ok-ran.ensures.ran.whole

pub returns-clause-parsed : goal.returns-clause-parsed
returns-clause-parsed g c = parsed _ c.args.trivia _ _ c.in_ok-ran.ran.tokens.items
    c.as_slice.result.now c.in_ok-ran.ran.events.items c.as_slice-2.result.now _ _
    c.as_slice.ensures.value c.as_slice-2.ensures.value (ap (λ k. k.0) c.kind_to_raw.ensures.raw)
    c.in_ok-ran.ensures.ran c.in_ok-green.ensures.shape c.in_ok-green.ensures.tokens
