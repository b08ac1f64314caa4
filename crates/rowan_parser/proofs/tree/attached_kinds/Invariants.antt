use Rattle.std.proofs.Common.{◌≡◌, ◌||◌, ℕ, length}
use Rattle.std.specs.List.{list_any}
use Rattle.rowan_parser.specs.Events.{is_pair}
use Rattle.rowan_events.specs.Seen.{has}
use Rattle.rowan_parser.proofs.tree.attached_kinds.Given as goal

abbrev pub invariant-loop-pair : goal.invariant-loop-pair
invariant-loop-pair l =
    (k : ℕ) → (has l.kinds.0 k || list_any (is_pair l.node.0 k) l.rest)
    ≡ list_any (is_pair l.node.0 k) l.trivia.attached.now

abbrev pub decreases-loop-pair : goal.decreases-loop-pair
decreases-loop-pair l = length l.rest
