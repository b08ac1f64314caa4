use Rattle.std.proofs.Common.{[]}
use Rattle.rowan_print.proofs.SpelledLemmas.{spells-none, spells-token}
use Rattle.rowan_print.proofs.json_text.write_beginning.Goals as goal

pub returns : goal.returns
returns c =
    let old = c.args.out.now in
    let object = spells-token _ old old c.begin_object.new.self [] _
    (spells-none old) c.in_ok-begin_object.ensures in
    let key = spells-token _ old _ c.key.new.self _ _ object c.in_ok-key.ensures in
    spells-token c.begin_array.result old _ c.begin_array.new.self _ _ key c.begin_array.ensures
