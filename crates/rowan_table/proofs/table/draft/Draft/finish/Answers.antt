use Rattle.rowan_table.proofs.DraftLemmas.{finished, finished_root}
use Rattle.rowan_table.proofs.table.draft.Draft.finish.Goals as goal

pub invariant_of-result : goal.invariant_of-result
invariant_of-result c =
    let w = finished c.args.self c.give_back-2.new.self c.give_back.new.list.items c.requires.draft
    c.requires.children c.requires.done c.give_back-2.ensures c.give_back.ensures in
    record {
      numbered = w.numbered;
      complete = w.complete;
    }

pub returns : goal.returns
returns c =
    finished_root c.args.self c.give_back-2.new.self c.give_back.new.list.items c.requires.draft
    c.requires.children c.requires.done c.give_back-2.ensures c.give_back.ensures
