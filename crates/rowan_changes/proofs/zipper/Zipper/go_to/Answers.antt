use Rattle.std.proofs.Common.{◌<◌, length, arith}
use Rattle.std.specs.Prelude.{slice_index_or}
use Rattle.std.proofs.lemmas.Result.{err_from_is_err_and}
use Rattle.rowan_changes.proofs.Ways.{way-begins, way-step, way-next, get-index}
use Rattle.rowan_changes.proofs.zipper.Zipper.go_to.Goals as goal

pub loop-depth-init : goal.loop-depth-init
loop-depth-init c =
    let e = c.in_ok-zipper.ensures in
    way-begins c.args.self c.in_ok-zipper.zipper c.args.path.now c.args.end c.shared-count.result
    c.requires.there c.requires.before c.shared-count.ensures.fork c.in_ok-zipper.ensures.root
    c.in_ok-zipper.ensures.tree c.in_ok-zipper.ensures.count c.in_ok-zipper.ensures.place
    c.in_ok-zipper.ensures.standing

pub open-requires : goal.open-requires
open-requires c =
    let path = c.args.path.now in
    let d = c.loop-depth.depth in
    let less : d < length path = omega arith in
    let s = way-step c.args.self c.loop-depth.zipper path c.args.end d (slice_index_or path d 0)
    c.loop-depth.invariant (get-index path d less) in
    record {
      before = s.before;
      node = (s.child, s.there);
      standing = c.loop-depth.invariant.standing;
    }

pub loop-depth-preserved : goal.loop-depth-preserved
loop-depth-preserved c =
    let path = c.args.path.now in
    let d = c.loop-depth.depth in
    let less : d < length path = omega arith in
    let e = c.in_ok-zipper-2.ensures in
    way-next c.args.self c.loop-depth.zipper c.in_ok-zipper-2.zipper path c.args.end d
    (slice_index_or path d 0) c.loop-depth.invariant (get-index path d less)
    c.in_ok-zipper-2.ensures.root c.in_ok-zipper-2.ensures.tree c.in_ok-zipper-2.ensures.path
    c.in_ok-zipper-2.ensures.child c.in_ok-zipper-2.ensures.room
    c.in_ok-zipper-2.ensures.standing

pub returns-in_err-zipper-clause-err : goal.returns-in_err-zipper-clause-err
returns-in_err-zipper-clause-err c =
    let p = err_from_is_err_and c.from_residual.result c.from_residual.ensures.1 in
    rw (p.1, p.2) (
      c.shared-count.result,
      c.shared-count.ensures.fork,
      c.in_err-zipper.ensures.err,
    )
