use Rattle.std.proofs.Common.{arith}
use Rattle.rowan_table.specs.declared.table.count.Count.{Count}
use Rattle.rowan_table.proofs.TotalLemmas.{entries_below-children, met-more, met-none}
use Rattle.rowan_table.proofs.table.count.is_past_numbers.Goals as goal

pub loop-node-init : goal.loop-node-init
loop-node-init c =
    let none : Count = record {
      known = 1;
      met = c.new.result;
    } in
    omega (
      arith,
      c.in_ok-meet.ensures.known,
      met-more none c.meet.new.self c.args.root c.in_ok-meet.ensures.met,
      met-none none c.new.ensures.items,
      entries_below-children c.args.root.now,
    )
