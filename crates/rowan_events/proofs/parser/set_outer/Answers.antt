use Rattle.std.specs.Prelude.{slice_set}
use Rattle.rowan_events.specs.declared.event.Event.{Event}
use Rattle.rowan_events.specs.Log.{around_by, outer_at}
use Rattle.std.proofs.Common.{◌≡◌, ℕ, ◌-◌, sym, ◌∙◌, arith, ap}
use Rattle.rowan_events.proofs.Taking.{outer_at-past, outer_at-set}
use Rattle.rowan_events.proofs.parser.set_outer.Goals as goal

pub returns-then-inner-len : goal.returns-then-inner-len
returns-then-inner-len c = λ h.
    let es = c.args.events.now.items in
    let i = c.args.inner in
    let far : c.in-Ok.distance ≡ c.args.outer - c.args.inner = c.in-Ok.ensures.1
    ∙ c.saturating_sub.ensures in
    ap (λ (e : Event). slice_set es i e)
    (c.around_by-event.ensures ∙ ap (λ (e : Event). around_by c.in-Ok.distance e) c.index.ensures)
    ∙ outer_at-set es i c.in-Ok.distance c.index.result.now (omega (arith, c.len.ensures))
    ∙ ap (λ (d : ℕ). outer_at i d es) far

pub returns-else-inner-len : goal.returns-else-inner-len
returns-else-inner-len c = λ h. sym (outer_at-past _ _ _ (omega (arith, c.len.ensures)))
