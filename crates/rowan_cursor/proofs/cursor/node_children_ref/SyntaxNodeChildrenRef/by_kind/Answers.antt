use Rattle.rowan_cursor.specs.Kinds.{is_of_kind}
use Rattle.rowan_cursor.specs.Refs.{rest_of_nodes}
use Rattle.rowan_cursor.proofs.CountLemmas.{filter-short}
use Rattle.rowan_cursor.proofs.cursor.node_children_ref.SyntaxNodeChildrenRef.by_kind.Goals as goal

pub returns-clause-count : goal.returns-clause-count
returns-clause-count c =
    rw c.new.ensures (filter-short (is_of_kind c.args.kind.0) (rest_of_nodes c.args.self))
