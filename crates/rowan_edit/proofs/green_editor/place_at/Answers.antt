use Rattle.std.proofs.Common.{◌<◌, ◌≤◌, length, Some, refl, sym, ◌∙◌, ap, subst}
use Rattle.std.proofs.Common.{arith}
use Rattle.std.specs.Prelude.{slice_index_or}
use Rattle.rowan_green.specs.declared.utility_types.NodeOrToken.TheVariants.{Node}
use Rattle.rowan_green.specs.Term.{node_children}
use Rattle.rowan_changes.proofs.Untouched.{get-past}
use Rattle.rowan_green.specs.Lent.{pointee}
use Rattle.rowan_green.specs.Span.{Span}
use Rattle.rowan_changes.proofs.Ways.{get-index, no-step, leads-first, leads-limit, leads-next}
use Rattle.rowan_changes.proofs.Ways.{leads-all, LeadsSoFar}
use Rattle.rowan_edit.proofs.green_editor.place_at.Goals as goal

pub returns-in_default-clause-none : goal.returns-in_default-clause-none
returns-in_default-clause-none c = λ none m e.
    (let path = c.args.path.now in
    let k = c.loop-index.index-index in
    let n = c.loop-index.node.now in
    let i = slice_index_or path k 0 in
    let less : k < length path = omega (arith, c.loop-index-test.true) in
    let past : length (node_children n) ≤ i = c.in_default.ensures.none.0 refl in
    no-step c.args.root.now n path k i (get-index path k less) c.loop-index.invariant.rest
    (λ child g. omega (arith, past, get-past (node_children n) i (Node child) g)) m e)

pub loop-index-init : goal.loop-index-init
loop-index-init c =
    subst (LeadsSoFar c.args.root.now c.args.path.now 0 c.args.root.now) (sym c.from-start.ensures)
    (leads-first c.args.root.now c.args.path.now)

pub at-requires : goal.at-requires
at-requires c =
    let path = c.args.path.now in
    let k = c.loop-index.index-index in
    leads-limit c.args.root.now c.loop-index.node.now path k (slice_index_or path k 0)
    c.loop-index.start _ _ c.text_len-text_len.ensures.fits c.loop-index.invariant
    c.in-Some.ensures.some.1 c.in-Some.ensures.some.0

pub loop-index-preserved : goal.loop-index-preserved
loop-index-preserved c =
    let path = c.args.path.now in
    let k = c.loop-index.index-index in
    let less : k < length path = omega (arith, c.loop-index-test.true) in
    leads-next c.args.root.now c.loop-index.node.now c.in-Node.child.now path k
    (slice_index_or path k 0) c.loop-index.start c.in-Some.found.0 c.end-start.result
    c.loop-index.invariant
    (get-index path k less)
    (c.in-Some.ensures.some.1 ∙ ap (λ e. Some (pointee e)) c.in-Node.is)
    c.in-Some.ensures.some.0
    (omega (arith, c.end-start.ensures.offset, ap (λ (r : Span). r.end) c.at.ensures))

pub returns-clause-some : goal.returns-clause-some
returns-clause-some c =
    (leads-all c.args.root.now c.loop-index.node.now c.args.path.now c.loop-index.index-index
    c.loop-index.start c.text_len-text_len.ensures.fits c.loop-index.invariant
    (omega (arith, c.loop-index-test.false))).stands

pub returns-clause-start : goal.returns-clause-start
returns-clause-start c =
    (leads-all c.args.root.now c.loop-index.node.now c.args.path.now c.loop-index.index-index
    c.loop-index.start c.text_len-text_len.ensures.fits c.loop-index.invariant
    (omega (arith, c.loop-index-test.false))).start

pub returns-clause-fits : goal.returns-clause-fits
returns-clause-fits c =
    (leads-all c.args.root.now c.loop-index.node.now c.args.path.now c.loop-index.index-index
    c.loop-index.start c.text_len-text_len.ensures.fits c.loop-index.invariant
    (omega (arith, c.loop-index-test.false))).fits
