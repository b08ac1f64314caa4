use Rattle.rowan_edit.proofs.RankLemmas.{has-room}
use Rattle.rowan_edit.proofs.ranked.has_room.Goals as goal

pub returns-clause-room : goal.returns-clause-room
returns-clause-room c = λ yes.
    has-room c.args.edits.now.entries c.args.rank.now c.requires c.is_behind.ensures.cut
    (c.is_behind.ensures.behind c.if-not-is_behind.false c.is_behind.ensures.cut)
    (c.is_before.ensures.before yes c.is_behind.ensures.cut)
