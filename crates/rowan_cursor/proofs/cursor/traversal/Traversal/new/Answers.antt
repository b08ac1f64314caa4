use Rattle.std.proofs.Common.{ap, map}
use Rattle.rowan_table.specs.Moves.{cursor_at, element_at, nodes_at}
use Rattle.rowan_table.specs.TableView.{root_of}
use Rattle.rowan_table.proofs.EventLemmas.{start-inside}
use Rattle.rowan_cursor.proofs.TraversalLemmas.{start-entered}
use Rattle.rowan_cursor.proofs.cursor.traversal.Traversal.new.Goals as goal

pub returns-clause-fits : goal.returns-clause-fits
returns-clause-fits c = λ t node.
    record {
      traversal = record { node = node; inside = start-inside t c.args.start node.within };
      tokens = tt;
    }

pub returns-clause-elements : goal.returns-clause-elements
returns-clause-elements c = λ t node.
    ap (λ ps. map (element_at (root_of t)) ps) (start-entered t c.args.start)

pub returns-clause-nodes : goal.returns-clause-nodes
returns-clause-nodes c = λ t node.
    ap (λ ps. map (cursor_at (root_of t)) (nodes_at (root_of t) ps)) (start-entered t c.args.start)
