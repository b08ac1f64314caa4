use Rattle.std.proofs.Common.{◌≡◌, map, ◌++◌}
use Rattle.std.specs.List.{flat_map}
use Rattle.rowan.specs.Preorder.{preorder_with_tokens, event_symbols}
use Rattle.rowan.specs.RawRefs.{node_place}
use Rattle.rowan.specs.RawWalks.{rest_of_events}
use Rattle.toml_format.specs.Skeleton.{kept, mark_symbol}
use Rattle.toml_format.proofs.skeleton.marks_of.Given as goal

-- the marks so far, and what is still to come
abbrev pub invariant-loop-event : goal.invariant-loop-event
invariant-loop-event l =
    goal.iterator-loop-event.can_next l.event-iterator
    × goal.iterator-loop-event.is_finite l.event-iterator
    × (map mark_symbol l.marks.items
    ++ kept (flat_map event_symbols (rest_of_events l.event-iterator))
    ≡ kept (flat_map event_symbols (preorder_with_tokens (node_place l.fn.root))))
