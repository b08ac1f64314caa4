use Rattle.std.proofs.Common.{[], ◌∙◌}
use Rattle.rowan_print.proofs.SpelledLemmas.{spells-none, spells-token, spells-number}
use Rattle.rowan_print.proofs.json_text.write_range.Goals as goal

pub returns : goal.returns
returns c =
    let old = c.args.out.now in
    let key = spells-token _ old old c.key.new.self [] _ (spells-none old) c.in_ok-key.ensures in
    let opened = spells-token _ old _ c.begin_array.new.self _ _ key c.in_ok-begin_array.ensures in
    let start = spells-number _ old _ c.u64.new.self _ c.from-2.result c.args.range.start opened
    (c.from-2.ensures ∙ c.from.ensures ∙ c.start.ensures.offset) c.in_ok-u64.ensures in
    let end = spells-number _ old _ c.u64-2.new.self _ c.from-4.result c.args.range.end start
    (c.from-4.ensures ∙ c.from-3.ensures ∙ c.end.ensures.offset) c.in_ok-u64-2.ensures in
    let closed = spells-token _ old _ c.end_array.new.self _ _ end c.in_ok-end_array.ensures in
    spells-token c.end_object.result old _ c.end_object.new.self _ _ closed c.end_object.ensures
