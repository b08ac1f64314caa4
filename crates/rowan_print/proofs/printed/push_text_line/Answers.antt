use Rattle.std.proofs.Common.{◌≡◌, ◌++◌, codes, string_bytes, sym, ◌∙◌, ap}
use Rattle.rowan_print.proofs.QuoteLemmas.{long-front, long-points, short-whole, short-points}
use Rattle.rowan_print.proofs.QuoteLemmas.{text-written, on_push}
use Rattle.rowan_print.proofs.printed.push_text_line.Goals as goal

pub returns-in_ok-push_escapes : goal.returns-in_ok-push_escapes
returns-in_ok-push_escapes g c =
    let all = c.args.all.now in
    let short = c.if-all-lt-LONG.true in
    let inner = string_bytes c.push_escapes.new.text in
    let ends : codes "\"" ≡ _ ++ codes "\"" =
    ap (λ us. us ++ codes "\"") (sym (short-points all short)) in
    on_push c.push_str.result (string_bytes c.push_str.new.self)
    (inner ++ codes "\"") inner c.push_str.ensures.bytes
    (text-written _ c.args.range all all (codes "\"") (string_bytes c.args.text.now)
    (string_bytes c.push_headline.new.text) inner (string_bytes c.push_str.new.self)
    (short-whole all short) ends c.in_ok-push_headline.ensures c.in_ok-push_escapes.ensures)

pub returns-in_ok-push_escapes-2 : goal.returns-in_ok-push_escapes-2
returns-in_ok-push_escapes-2 g c =
    let all = c.args.all.now in
    let long = c.if-all-lt-LONG.false in
    let inner = string_bytes c.push_escapes-else-all-lt-LONG.new.text in
    let ends : codes " ...\"" ≡ _ ++ codes "\"" =
    ap (λ us. us ++ codes "\"") (sym (long-points all long)) in
    on_push c.push_str-else-all-lt-LONG.result (string_bytes c.push_str-else-all-lt-LONG.new.self)
    (inner ++ codes " ...\"") inner c.push_str-else-all-lt-LONG.ensures.bytes
    (text-written _ c.args.range all c.front_of.result.now (codes " ...\"")
    (string_bytes c.args.text.now) (string_bytes c.push_headline.new.text) inner
    (string_bytes c.push_str-else-all-lt-LONG.new.self)
    (long-front all long ∙ sym c.front_of.ensures) ends c.in_ok-push_headline.ensures
    c.in_ok-push_escapes-2.ensures)
