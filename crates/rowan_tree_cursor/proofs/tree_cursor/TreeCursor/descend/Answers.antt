use Rattle.std.proofs.Common.{refl, ◌∙◌}
use Rattle.rowan_terms.proofs.Paths.{begins-self}
use Rattle.rowan_tree_cursor.proofs.TreeCursorSearchLemmas.{WentToChild, went, went-below, went-smaller}
use Rattle.rowan_tree_cursor.proofs.TreeCursorSearchLemmas.{covers-on, ended}
use Rattle.rowan_tree_cursor.proofs.tree_cursor.TreeCursor.descend.Goals as goal

pub loop-init : goal.loop-init
loop-init c = (refl, begins-self c.args.self.now.path, λ q h. h)

pub loop-preserved : goal.loop-preserved
loop-preserved c =
    let top = c.args.self.now in
    let old = c.loop.self in
    let new = c.goto_child_at_range.new.self in
    let step : WentToChild c.args.range old new =
    went c.args.range old new c.in_ok-goto_child_at_range.field-0 c.if-branch.true
    c.in_ok-goto_child_at_range.ensures.ok in (
      step.root ∙ c.loop.invariant.0,
      went-below c.args.range top old new c.loop.invariant.1 step,
      covers-on c.args.range top old new step c.loop.invariant.0 c.loop.invariant.2,
    )

pub loop-smaller : goal.loop-smaller
loop-smaller c =
    let old = c.loop.self in
    let new = c.goto_child_at_range.new.self in
    let step : WentToChild c.args.range old new =
    went c.args.range old new c.in_ok-goto_child_at_range.field-0 c.if-branch.true
    c.in_ok-goto_child_at_range.ensures.ok in
    went-smaller c.args.range old new step

pub returns-clause-ok : goal.returns-clause-ok
returns-clause-ok c = ended c.args.range c.args.self.now c.loop.self c.goto_child_at_range.new.self
    c.in_ok-goto_child_at_range.field-0 c.if-branch.false c.in_ok-goto_child_at_range.ensures.ok
    c.loop.invariant.0 c.loop.invariant.2
