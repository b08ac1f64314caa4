use Rattle.std.proofs.Common.{string_bytes, ◌∙◌, ap}
use Rattle.rowan_print.specs.Printed.{raw_name, extent}
use Rattle.rowan_print.proofs.PrintedLemmas.{on_ok}
use Rattle.rowan_print.proofs.QuoteLemmas.{token-added}
use Rattle.rowan_print.proofs.printed.push_token.Goals as goal

pub returns : goal.returns
returns g c =
    let name = raw_name g.L.Language.name g.L.Language.meaning in
    let range = c.at-range.ensures ∙ ap (extent c.args.start) c.text_len.ensures.len in
    on_ok c.push_text_line.result c.push_text_line.ensures
    (token-added name c.args.start c.args.token.now c.kind.result.0 c.at-range.result
    c.text.result.now (string_bytes c.args.text.now)
    (string_bytes c.push_text_line.new.text) c.kind.ensures range c.text.ensures)
