use Rattle.std.proofs.Common.{arith}
use Rattle.rowan_green.specs.Lent.{pointee}
use Rattle.rowan_print.proofs.PrintedLemmas.{child-within}
use Rattle.rowan_print.proofs.open_node.OpenNode.next_child.Goals as goal

pub overflow_add-from : goal.overflow_add-from
overflow_add-from c = omega (
  arith,
  c.requires,
  child-within c.args.self.now (pointee c.in-Some.found.1) c.requires c.in-Some.ensures.some.1,
  c.in-Some.ensures.some.0,
)

pub returns-clause-within : goal.returns-clause-within
returns-clause-within c = omega (
  arith,
  child-within c.args.self.now (pointee c.in-Some.found.1) c.requires c.in-Some.ensures.some.1,
  c.in-Some.ensures.some.0,
)
