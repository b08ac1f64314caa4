use Rattle.std.proofs.Common.{◌∙◌, ap, Some}
use Rattle.rowan_cursor.proofs.TraversalLemmas.{skip_before-elements, skip_before-nodes}
use Rattle.rowan_cursor.proofs.TraversalLemmas.{skip_to_parent-elements, skip_to_parent-nodes}
use Rattle.rowan_cursor.proofs.TraversalLemmas.{has_parent, inside-above}
use Rattle.rowan_cursor.proofs.cursor.traversal.Traversal.skip_subtree.Goals as goal

pub returns-then-number-self-clause-events : goal.returns-then-number-self-clause-events
returns-then-number-self-clause-events c =
    skip_before-elements c.args.table.now c.args.self.now c.in-Enter.number
    (c.in-Some.is ∙ ap (λ e. Some e) c.in-Enter.is) c.if-number-self.true

pub returns-then-number-self-clause-node_events : goal.returns-then-number-self-clause-node_events
returns-then-number-self-clause-node_events c = λ h.
    skip_before-nodes c.args.table.now c.args.self.now c.in-Enter.number
    (c.in-Some.is ∙ ap (λ e. Some e) c.in-Enter.is) c.if-number-self.true

pub returns-in-Some-parent-clause-fits : goal.returns-in-Some-parent-clause-fits
returns-in-Some-parent-clause-fits c =
    let w = c.args.self.now in
    record {
      node = c.requires.node;
      inside = inside-above c.args.table.now w.start c.in-Enter.number c.in-Some-parent.parent
          w.next
          (c.in-Some.is ∙ ap (λ e. Some e) c.in-Enter.is) c.requires.inside c.if-number-self.false
          c.in-Some-parent.ensures.earlier c.in-Some-parent.ensures.found.path;
    }

pub returns-in-Some-parent-clause-events : goal.returns-in-Some-parent-clause-events
returns-in-Some-parent-clause-events c =
    skip_to_parent-elements c.args.table.now c.args.self.now c.in-Enter.number
    c.in-Some-parent.parent
    (c.in-Some.is ∙ ap (λ e. Some e) c.in-Enter.is) c.requires c.if-number-self.false
    c.in-Some-parent.ensures.found.path

pub returns-in-Some-parent-clause-node_events : goal.returns-in-Some-parent-clause-node_events
returns-in-Some-parent-clause-node_events c = λ h.
    skip_to_parent-nodes c.args.table.now c.args.self.now c.in-Enter.number c.in-Some-parent.parent
    (c.in-Some.is ∙ ap (λ e. Some e) c.in-Enter.is) c.requires c.if-number-self.false
    c.in-Some-parent.ensures.found.path c.in-Some-parent.ensures.found.node.is

pub returns-in_default-parent-clause-events : goal.returns-in_default-parent-clause-events
returns-in_default-parent-clause-events c =
    let w = c.args.self.now in
    absurd (has_parent c.args.table.now w.start c.in-Enter.number w.next
    (c.in-Some.is ∙ ap (λ e. Some e) c.in-Enter.is) c.requires.inside c.if-number-self.false
    c.in_default-parent.ensures.found.path)

pub returns-in_default-parent-clause-node_events : goal.returns-in_default-parent-clause-node_events
returns-in_default-parent-clause-node_events c = λ h.
    let w = c.args.self.now in
    absurd (has_parent c.args.table.now w.start c.in-Enter.number w.next
    (c.in-Some.is ∙ ap (λ e. Some e) c.in-Enter.is) c.requires.inside c.if-number-self.false
    c.in_default-parent.ensures.found.path)
