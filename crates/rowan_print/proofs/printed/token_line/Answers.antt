use Rattle.std.proofs.Common.{◌++◌, string_bytes, sym, ◌∙◌, ap, subst}
use Rattle.rowan_green.specs.declared.utility_types.NodeOrToken.TheVariants.{Node}
use Rattle.rowan_terms.specs.Path.{offset}
use Rattle.rowan_cursor.specs.Refs.{token_place}
use Rattle.rowan_print.specs.Printed.{raw_name, IsPrinted, IsTermLine, IsTokenLine}
use Rattle.rowan_print.proofs.QuoteLemmas.{token-added, range-token}
use Rattle.rowan_print.proofs.printed.token_line.Goals as goal

pub returns : goal.returns
returns g c =
    let name = raw_name g.L.Language.name g.L.Language.meaning in
    let cursor = token_place c.args.token in
    let token = c.green-green.result.now in
    let at = offset (Node cursor.root) cursor.path in
    let added =
    token-added name at token c.kind.result.0 c.text_range.result c.text.result.now
    (string_bytes c.new-line.result) (string_bytes c.push_text_line.new.text) c.kind.ensures
    (c.text_range.ensures ∙ range-token cursor token c.green-green.ensures) c.text.ensures
    c.in_ok-push_text_line.ensures in
    let line = subst (IsTokenLine name at token)
    (sym (added.2 ∙ ap (λ us. us ++ added.0) c.new-line.ensures.bytes)) added.1 in
    subst (λ o. IsPrinted (IsTermLine name at) o (string_bytes c.push_text_line.new.text))
    (sym c.green-green.ensures) line
