use Rattle.std.proofs.Common.{◌∙◌}
use Rattle.rowan_edit.proofs.RankedLemmas.{moved-first, moved-next, moved-ranked, moved-all}
use Rattle.rowan_edit.proofs.ranked.in_order.Goals as goal

pub loop-rank-init : goal.loop-rank-init
loop-rank-init c =
    moved-first c.args.edits.entries c.into_iter-rank-iterator.result
    c.reserve_exact.new.self.items
    (c.reserve_exact.ensures.items ∙ c.new-list.ensures.items)
    c.into_iter-rank-iterator.ensures.into_iter_gives.0

pub splice_of-requires : goal.splice_of-requires
splice_of-requires c =
    moved-ranked c.args.edits.entries c.loop-rank.rank-iterator c.next.new.self
    (c.in-Some.rank, c.in-Some.body) c.loop-rank.list.items c.loop-rank.invariant
    c.in-Some.ensures.steps c.requires

pub loop-rank-preserved : goal.loop-rank-preserved
loop-rank-preserved c =
    moved-next c.args.edits.entries c.loop-rank.rank-iterator c.next.new.self
    (c.in-Some.rank, c.in-Some.body) c.splice_of.result c.loop-rank.list.items
    c.push.new.self.items c.loop-rank.invariant c.in-Some.ensures.steps c.splice_of.ensures
    c.in_ok-push.ensures.items

pub returns-clause-ok : goal.returns-clause-ok
returns-clause-ok c =
    moved-all c.args.edits.entries c.loop-rank.rank-iterator c.loop-rank.list.items
    c.loop-rank.invariant c.in-None.ensures.steps.0
