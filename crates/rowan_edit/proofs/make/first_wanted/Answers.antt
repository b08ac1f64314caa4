use Rattle.std.proofs.Common.{◌≡◌}
use Rattle.rowan_table.specs.Preorder.{descendants}
use Rattle.rowan_api.specs.Refs.{node_place, rest_of_descendants}
use Rattle.rowan_edit.proofs.FromTextLemmas.{first-along, unwanted-along, first-here}
use Rattle.rowan_edit.proofs.make.first_wanted.Goals as goal

pub loop-node-init : goal.loop-node-init
loop-node-init g c =
    let rest = rest_of_descendants c.into_iter-node-iterator.result in
    let all = descendants (node_place c.args.root) in
    let e : rest ≡ all =
    rw c.into_iter-node-iterator.ensures.into_iter_gives c.descendants-node-items.ensures in (
      tt,
      tt,
      first-along g.L.Language.meaning (λ k b. g.W.Fn.post c.args.wanted (k, tt) b) rest all e,
      unwanted-along g.L.Language.meaning (λ k b. g.W.Fn.post c.args.wanted (k, tt) b) rest all e,
    )

pub returns-then-wanted-clause-some : goal.returns-then-wanted-clause-some
returns-then-wanted-clause-some g c =
    c.loop-node.invariant.2 c.green.result.now
    (first-here g.L.Language.meaning (λ k b. g.W.Fn.post c.args.wanted (k, tt) b) (rest_of_descendants c.loop-node.node-iterator)
    (rest_of_descendants c.next.new.self) (node_place c.in-Some.node) c.green.result.now
    c.in-Some.ensures.steps c.kind.result c.kind.ensures c.wanted.result c.wanted.ensures
    c.if-wanted.true c.green.ensures)
