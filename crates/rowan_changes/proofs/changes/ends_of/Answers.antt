use Rattle.std.proofs.Common.{◌≡◌, length, Some, refl, arith}
use Rattle.std.specs.Prelude.{slice_get}
use Rattle.std.proofs.lemmas.Option.{slice_get_read}
use Rattle.rowan_changes.proofs.ChangeLemmas.{begun, next-fits, more-begun, all-ends}
use Rattle.rowan_changes.proofs.changes.ends_of.Goals as goal

pub loop-change-init : goal.loop-change-init
loop-change-init c =
    begun c.args.list.now c.new-ends.result.items c.from-zero.result c.requires.follow
    c.new-ends.ensures.items c.from-zero.ensures

pub end_behind-new_end-requires-clause-fits : goal.end_behind-new_end-requires-clause-fits
end_behind-new_end-requires-clause-fits c =
    let cs = c.args.list.now in
    let k = c.loop-change.change-index in
    let d = c.change-item.result in
    let at : slice_get cs k ≡ Some d =
    slice_get_read cs (length cs) k d refl (omega (arith, c.loop-change-test.true))
    c.change-item.is in
    (next-fits cs k c.loop-change.ends.items c.loop-change.old_end c.loop-change.new_end d
    c.loop-change.invariant at c.requires.fits).limit

pub loop-change-preserved : goal.loop-change-preserved
loop-change-preserved c =
    let cs = c.args.list.now in
    let k = c.loop-change.change-index in
    let d = c.change-item.result in
    let at : slice_get cs k ≡ Some d =
    slice_get_read cs (length cs) k d refl (omega (arith, c.loop-change-test.true))
    c.change-item.is in
    more-begun cs k c.loop-change.ends.items c.push.new.self.items c.loop-change.old_end
    c.loop-change.new_end c.end_behind-new_end.result c.end-old_end.result d
    c.loop-change.invariant at c.end_behind-new_end.ensures c.in_ok-push.ensures.items
    c.end-old_end.ensures.offset

pub returns-clause-ok : goal.returns-clause-ok
returns-clause-ok c =
    all-ends c.args.list.now c.loop-change.change-index c.loop-change.ends.items
    c.loop-change.old_end c.loop-change.new_end c.loop-change.invariant
    (omega (arith, c.loop-change-test.false))
