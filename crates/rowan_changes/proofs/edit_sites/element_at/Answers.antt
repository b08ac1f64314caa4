use Rattle.std.proofs.Common.{◌<◌, ◌≤◌, length, drop, Some, refl, sym, ◌∙◌, ap, arith}
use Rattle.std.specs.Prelude.{slice_index_or}
use Rattle.rowan_green.specs.Lent.{pointee}
use Rattle.rowan_terms.specs.Path.{subterm_of}
use Rattle.rowan_green.specs.Term.{node_children}
use Rattle.rowan_changes.proofs.ElementLemmas.{token-below, none-below}
use Rattle.rowan_changes.proofs.Ways.{get-index}
use Rattle.rowan_changes.proofs.edit_sites.element_at.Goals as goal

pub returns-in_default : goal.returns-in_default
returns-in_default c =
    let path = c.args.path.now in
    let k = c.loop-index.index-index in
    let less : k < length path = omega (arith, c.loop-index-test.true) in
    sym (token-below c.in_default.field-0.now path k (slice_index_or path k 0)
    (get-index path k less))
    ∙ ap (λ e. subterm_of (Some (pointee e)) (drop k path)) (sym c.in_default.is)
    ∙ c.loop-index.invariant

pub returns-in_default-child_ref : goal.returns-in_default-child_ref
returns-in_default-child_ref c =
    let path = c.args.path.now in
    let k = c.loop-index.index-index in
    let i = slice_index_or path k 0 in
    let n = c.in-Node.node.now in
    let less : k < length path = omega (arith, c.loop-index-test.true) in
    let past : length (node_children n) ≤ i = c.in_default-child_ref.ensures.none.0 refl in
    sym (none-below n path k i (get-index path k less) past)
    ∙ ap (λ e. subterm_of (Some (pointee e)) (drop k path)) (sym c.in-Node.is)
    ∙ c.loop-index.invariant
