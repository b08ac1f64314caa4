use Rattle.std.proofs.Common.{rules}
use Rattle.rowan_parser.proofs.Rules.{lists}
use Rattle.rowan_parser_shapes.proofs.shapes.list.Goals as goal
use Rattle.rowan_parser_shapes.proofs.shapes.list.Goals.{else-items-test}
use Rattle.rowan_parser_shapes.proofs.shapes.list.Goals.{then-items-test+then-not-eat}

pub items-preserved : goal.items-preserved
items-preserved c = search (rules, lists)

pub returns : goal.returns
returns c = elim c.items-test.branch [
  | else-items-test w ↦ search (rules, lists)
  | then-items-test+then-not-eat w ↦ search (rules, lists)
]
