use Rattle.std.proofs.Common.{length, sym, ◌∙◌, ap}
use Rattle.rowan_table.proofs.DraftLemmas.{part_turned}
use Rattle.rowan_table.proofs.table.draft.Draft.turn_round.Goals as goal

pub returns-clause-waiting : goal.returns-clause-waiting
returns-clause-waiting c =
    let waiting = c.args.self.now.waiting in
    part_turned waiting.items c.deref_mut.result.now c.reverse.new.self c.args.place waiting.len
    c.deref_mut.ensures.value (sym c.deref_mut.ensures.len ∙ ap length c.deref_mut.ensures.value)
    c.requires c.reverse.ensures.permutation
