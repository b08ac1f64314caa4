use Rattle.rowan_cursor.specs.Refs.{node_place}
use Rattle.rowan_cursor.specs.RefWalks.{rest_of_events}
use Rattle.rowan_print.specs.Printed.{raw_name}
use Rattle.rowan_print.specs.Unfinished.{values_of}
use Rattle.rowan_print.proofs.JsonLemmas.{Makes}
use Rattle.rowan_print.proofs.json_value.node_json.Given as goal

abbrev pub invariant-loop-event : goal.invariant-loop-event
invariant-loop-event g l =
    (goal.iterator-loop-event g).can_next l.event-iterator
    × (goal.iterator-loop-event g).is_finite l.event-iterator
    × Makes (raw_name g.L.Language.name g.L.Language.meaning) (node_place l.fn.node)
    (values_of l.draft) (rest_of_events l.event-iterator)
