use Rattle.std.proofs.Common.{◌≡◌, ◌-◌, map, take, drop, vec_len, vec_capacity}
use Rattle.std.specs.Vec.{vec_ptr}
use Rattle.rowan_green.specs.View.{child_term, AreSound}
use Rattle.rowan_green.proofs.green.node.GreenChild.place.Given as goal

abbrev pub invariant-loop-index : goal.invariant-loop-index
invariant-loop-index l =
    AreSound l.text_len (take (l.index - l.first) (drop l.first l.children.items))
    × (map child_term l.children.items ≡ map child_term l.initial.children.items)
    × (vec_len l.children ≡ vec_len l.initial.children)
    × (vec_capacity l.children ≡ vec_capacity l.initial.children)
    × (vec_ptr l.children ≡ vec_ptr l.initial.children)
