use Rattle.std.proofs.Common.{◌≡◌, ◌-◌, ◌≤◌}
use Rattle.std.specs.Prelude.{string_bytes}
use Rattle.rowan_green.specs.Term.{node_children, joined_text}
use Rattle.rowan_changes.proofs.ElementLemmas.{part}
use Rattle.rowan_changes.proofs.edited.text_of.Given as goal

abbrev pub invariant-loop-index : goal.invariant-loop-index
invariant-loop-index l =
    let from = l.fn.children.start in
    (from ≤ l.index)
    × (l.index - from ≤ l.fn.children.end - from)
    × (string_bytes l.text
    ≡ joined_text (part from (l.index - from) (node_children l.node)))
