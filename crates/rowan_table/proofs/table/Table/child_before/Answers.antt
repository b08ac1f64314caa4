use Rattle.std.proofs.Common.{◌<◌, ◌≤◌, ◌+◌, ◌-◌, ◌/◌, subst, rules, arith}
use Rattle.rowan_green.specs.declared.utility_types.NodeOrToken.TheVariants.{Node}
use Rattle.rowan_terms.specs.Path.{offset}
use Rattle.rowan_table.specs.TableView.{root_of, path_at, entries_of}
use Rattle.rowan_table.proofs.SkipLemmas.{row_count, child_path, child_later, child_behind}
use Rattle.rowan_table.proofs.table.Table.child_before.Goals as goal

pub loop-child-init : goal.loop-child-init
loop-child-init c =
    let table = c.args.self.now in
    let row = c.child_numbers-children.result in
    let count = row_count (entries_of table) (root_of table) (path_at table c.args.number) row.start
    row.end c.child_numbers-children.ensures.row in
    record {
      from = omega arith;
      order = omega (arith, c.child_numbers-children.ensures.row.order, c.if-children.false);
      to = omega arith;
      before = λ h. absurd (omega (arith, h));
      behind = λ j h l. absurd (omega (arith, h, l, count));
    }

pub loop-child-preserved : goal.loop-child-preserved
loop-child-preserved c =
    let table = c.args.self.now in
    let root = root_of table in
    let p = path_at table c.args.number in
    let row = c.child_numbers-children.result in
    let inv = c.loop-child.invariant in
    let middle = c.loop-child.child + (c.loop-child.end - c.loop-child.child) / 2 in
    let from : c.loop-child.child < middle = omega (arith, c.loop-child-test.true) in
    let to : middle < c.loop-child.end = omega (arith, c.loop-child-test.true) in
    let past : c.args.offset ≤ c.start.result = search rules in
    let path = (child_path (entries_of table) root p row.start row.end middle
    c.child_numbers-children.ensures.row (omega (arith, inv.from, from))
    (omega (arith, inv.to, to))).0 in
    let here : c.args.offset ≤ offset (Node root) (path_at table middle) =
    omega (arith, past, c.start.ensures) in
    record {
      from = inv.from;
      order = from;
      to = omega (arith, inv.to, to);
      before = inv.before;
      behind = λ j h l. child_behind root p c.args.offset (middle - row.start) j (omega (arith, h))
          l (subst (λ q. c.args.offset ≤ offset (Node root) q) path here);
    }

pub returns-clause-child : goal.returns-clause-child
returns-clause-child c =
    let table = c.args.self.now in
    let row = c.child_numbers-children.result in
    let inv = c.loop-child.invariant in
    let here = child_path (entries_of table) (root_of table) (path_at table c.args.number) row.start
    row.end c.loop-child.child c.child_numbers-children.ensures.row inv.from
    (omega (arith, inv.order, inv.to)) in
    record {
      place = c.loop-child.child - row.start;
      path = here.0;
      count = here.1;
      before = λ h. inv.before (omega (arith, h));
      behind = λ j h l. inv.behind j (omega (
        arith,
        h,
        inv.from,
        inv.order,
        c.loop-child-test.false,
      )) l;
    }

pub returns-clause-later : goal.returns-clause-later
returns-clause-later c =
    let table = c.args.self.now in
    let row = c.child_numbers-children.result in
    let inv = c.loop-child.invariant in
    let here = child_path (entries_of table) (root_of table) (path_at table c.args.number) row.start
    row.end c.loop-child.child c.child_numbers-children.ensures.row inv.from
    (omega (arith, inv.order, inv.to)) in
    child_later (entries_of table) table.complete c.args.number c.loop-child.child
    (c.loop-child.child - row.start) c.requires
    (omega (arith, c.child_numbers-children.ensures.row.within, inv.order, inv.to)) here.0
