use Rattle.std.proofs.Common.{◌∙◌, refl, ap, reverse}
use Rattle.rowan_predictive.specs.View.{top_of}
use Rattle.rowan_predictive.proofs.Anchors.{anchors-more}
use Rattle.rowan_predictive.proofs.machine.Machine.expect.Goals as goal

pub returns-clause-anchors : goal.returns-clause-anchors
returns-clause-anchors c =
    anchors-more c.args.entries.now c.args.self.now.stack.items c.push.new.self.items
    (record { item = c.args.item; anchors = c.union-anchors.result }) c.args.item
    c.awaited.result.0 c.anchors_of-below.result.0 c.in_ok-push.ensures.items refl c.awaited.ensures
    (c.anchors_of-below.ensures ∙ ap (λ fs. top_of (reverse fs)) c.as_slice.ensures.value)
    c.union-anchors.ensures c.requires
