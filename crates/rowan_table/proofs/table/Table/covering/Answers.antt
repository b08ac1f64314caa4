use Rattle.std.proofs.Common.{refl}
use Rattle.rowan_table.specs.TableView.{root_of, path_at}
use Rattle.rowan_table.proofs.SearchLemmas.{covers_child, covers_itself}
use Rattle.rowan_table.proofs.table.Table.covering.Goals as goal

pub loop-child-preserved : goal.loop-child-preserved
loop-child-preserved c =
    let s = c.args.self.now in
    let child = path_at s c.in-Some.child.number in (
      c.in-Some.ensures.place,
      λ q h. c.loop-child.invariant.1 q (covers_child (root_of s) c.args.range
          (path_at s c.loop-child.covering.number) child q c.in-Some.ensures.child h),
    )

pub returns-clause-covers : goal.returns-clause-covers
returns-clause-covers c =
    let s = c.args.self.now in
    let here = path_at s c.loop-child.covering.number in
    c.loop-child.invariant.1 here (covers_itself (root_of s) c.args.range here
    (c.in_default.ensures.none refl))
