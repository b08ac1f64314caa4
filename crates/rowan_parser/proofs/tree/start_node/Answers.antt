use Rattle.std.proofs.Common.{rules, ap}
use Rattle.rowan_parser.proofs.Steps.{IsBuilding-opens}
use Rattle.rowan_parser.proofs.tree.start_node.Goals as goal

pub returns-clause-ok : goal.returns-clause-ok
returns-clause-ok c = IsBuilding-opens _ _ _ c.args.progress _ _ c.requires
    (ap (λ b. b.word) c.in_ok-start_node.ensures.ok) (search rules)
