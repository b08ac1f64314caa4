use Rattle.std.proofs.Common.{arith, ◌∙◌}
use Rattle.serde_json.specs.Data.{null}
use Rattle.serde_json.specs.View.{view}
use Rattle.rowan_cursor.specs.Refs.{node_place}
use Rattle.rowan_cursor.specs.RefWalks.{rest_of_events}
use Rattle.rowan_print.specs.Printed.{raw_name}
use Rattle.rowan_print.specs.Unfinished.{values_of}
use Rattle.rowan_print.proofs.JsonLemmas.{makes-first, makes-all, empty-length, last-mapped}
use Rattle.rowan_print.proofs.json_value.node_json.Goals as goal

pub loop-event-init : goal.loop-event-init
loop-event-init g c =
    let name = raw_name g.L.Language.name g.L.Language.meaning in (
      tt,
      tt,
      makes-first name (node_place c.args.node) (rest_of_events c.into_iter-event-iterator.result)
          (values_of c.new-draft.result) c.new-draft.ensures.inner c.new-draft.ensures.outer
          (rw c.into_iter-event-iterator.ensures.into_iter_gives
          c.preorder_with_tokens-event-items.ensures),
    )

pub returns : goal.returns
returns g c =
    let name = raw_name g.L.Language.name g.L.Language.meaning in
    let draft = c.loop-event.draft in
    last-mapped view draft.inner.items c.pop.new.self.items c.pop.result c.unwrap_or_default.result
    null c.pop.ensures.items
    (λ none. let gone = rw none at c.pop.ensures.cases in empty-length draft.inner.items
    (omega (arith, gone.0, draft.inner.ok.0)))
    c.unwrap_or_default.ensures
    ∙ makes-all name (node_place c.args.node) (rest_of_events c.loop-event.event-iterator)
    (values_of draft) c.loop-event.invariant.2 c.in-None.ensures.steps.0
