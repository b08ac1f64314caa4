use Rattle.std.proofs.Common.{◌++◌, ◌∙◌, ap}
use Rattle.rowan_cursor.specs.Refs.{token_place}
use Rattle.rowan_print.specs.Printed.{raw_name, token_object, tree_json}
use Rattle.rowan_print.specs.Spelled.{value_tokens}
use Rattle.rowan_print.proofs.SpelledLemmas.{print-value, token-there}
use Rattle.rowan_print.proofs.json_text.token_text.Goals as goal

pub returns : goal.returns
returns g c =
    let name = raw_name g.L.Language.name g.L.Language.meaning in
    let cursor = token_place c.args.token in
    let token = c.green.result.now in
    let tokens = value_tokens (token_object (name token.kind) c.text_range.result token.text) in
    c.text_of.ensures
    ∙ print-value (tree_json name cursor) c.write_token.new.out.tokens
    (c.in_ok-write_token.ensures.1 ∙ ap (λ ts. ts ++ tokens) c.new-out.ensures.tokens
    ∙ ap value_tokens (token-there name cursor token c.text_range.result c.green.ensures
    c.text_range.ensures))
