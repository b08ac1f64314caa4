use Rattle.std.proofs.Common.{◌≡◌, ℕ, ◌∷◌, ◌++◌, [], ◌+◌, List, refl, sym, ap, ◌∙◌, reverse, slice_get, true, false}
use Rattle.rowan_events.specs.Seen.{has}
use Rattle.rowan_predictive.specs.declared.rules.Action.{Action}
use Rattle.rowan_predictive.specs.declared.rules.Action.TheVariants.{Skip}
use Rattle.rowan_predictive.specs.Machine.{State, is_anchor, skips}
use Rattle.rowan_predictive.specs.View.{state_of, top_of, items_of}
use Rattle.rowan_predictive.proofs.Anchors.{top-anchors, recovered}
use Rattle.rowan_predictive.proofs.machine.Machine.recover.Goals as goal

pub returns-in_ok-push-clause-state : goal.returns-in_ok-push-clause-state
returns-in_ok-push-clause-state c =
    let entries = c.args.entries.now in
    let old = state_of c.args.self.now in
    let mid = state_of c.complain.new.self in
    let next = slice_get c.args.kinds.now c.args.self.now.place in
    let kept : (kind : ℕ) → has c.anchors_of.result.0 kind ≡ is_anchor entries old.stack kind =
    λ kind. ap (λ n. has n kind) (c.anchors_of.ensures
    ∙ ap (λ fs. top_of (reverse fs)) c.as_slice.ensures.value
    ∙ ap (λ v. top_of (reverse v.items)) c.in_ok-complain.ensures.stack)
    ∙ top-anchors entries (reverse c.args.self.now.stack.items) c.requires.anchors kind in
    let is : skips entries c.args.number old.stack next ≡ true =
    sym (c.skips.ensures old.stack kept ∙ ap (skips entries c.args.number old.stack) c.next_token-next.ensures)
    ∙ c.if-skips.true in
    recovered entries next c.args.number true old mid _ is c.in_ok-complain.ensures.state
    (ap (λ (es : List Action). let s : State = record {
      stack = items_of (reverse c.expect.new.self.stack.items);
      actions = es;
      errors = c.expect.new.self.errors.items;
      place = c.expect.new.self.place + 1;
      fresh = c.expect.new.self.fresh;
    } in s) c.in_ok-push.ensures.items
    ∙ ap (λ (s : State). let t : State = record {
      stack = s.stack;
      actions = s.actions ++ (Skip ∷ []);
      errors = s.errors;
      place = s.place + 1;
      fresh = s.fresh;
    } in t) c.in_ok-expect.ensures.state)

pub returns-else-skips-clause-state : goal.returns-else-skips-clause-state
returns-else-skips-clause-state c =
    let entries = c.args.entries.now in
    let old = state_of c.args.self.now in
    let mid = state_of c.complain.new.self in
    let next = slice_get c.args.kinds.now c.args.self.now.place in
    let kept : (kind : ℕ) → has c.anchors_of.result.0 kind ≡ is_anchor entries old.stack kind =
    λ kind. ap (λ n. has n kind) (c.anchors_of.ensures
    ∙ ap (λ fs. top_of (reverse fs)) c.as_slice.ensures.value
    ∙ ap (λ v. top_of (reverse v.items)) c.in_ok-complain.ensures.stack)
    ∙ top-anchors entries (reverse c.args.self.now.stack.items) c.requires.anchors kind in
    let is : skips entries c.args.number old.stack next ≡ false =
    sym (c.skips.ensures old.stack kept ∙ ap (skips entries c.args.number old.stack) c.next_token-next.ensures)
    ∙ c.if-skips.false in
    recovered entries next c.args.number false old mid mid is c.in_ok-complain.ensures.state refl
