use Rattle.rowan_green.specs.Term.{NodeTerm}
use Rattle.rowan_table.specs.Preorder.{descendants}
use Rattle.rowan_api.specs.Refs.{node_place, rest_of_descendants}
use Rattle.rowan_edit.specs.FromText.{IsFirstWanted, AreUnwanted}
use Rattle.rowan_edit.proofs.make.first_wanted.Given as goal

-- what is first, or wanted nowhere, from here on is so from the beginning
abbrev pub invariant-loop-node : goal.invariant-loop-node
invariant-loop-node g l =
    let meaning = g.L.Language.meaning in
    let wants = goal.W-post g l.wanted in
    let rest = rest_of_descendants l.node-iterator in
    let all = descendants (node_place l.fn.root) in
    (goal.iterator-loop-node g).can_next l.node-iterator
    × (goal.iterator-loop-node g).is_finite l.node-iterator
    × ((n : NodeTerm) → IsFirstWanted meaning wants rest n → IsFirstWanted meaning wants all n)
    × (AreUnwanted meaning wants rest → AreUnwanted meaning wants all)
