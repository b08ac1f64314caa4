use Rattle.std.proofs.Common.{◌++◌, ◌∷◌, take, drop, get_or, suc, sym, ◌∙◌, ap, Some}
use Rattle.std.proofs.lemmas.List.{take_more}
use Rattle.rowan_table.specs.Moves.{element_below}
use Rattle.rowan_script.proofs.Places.{place-split, child-there, none-below, token-below}
use Rattle.rowan_script.proofs.script.places.element_at.Goals as goal

pub loop-place-preserved : goal.loop-place-preserved
loop-place-preserved c =
    let start = c.args.node.now in let ps = c.args.path.now in let k = c.loop-place.place-index in
    ap (element_below start) (take_more ps k 0 c.loop-place-test.true)
    ∙ child-there start c.in-Node.parent (take k ps) (get_or ps k 0) (Some c.in-Some.child)
    (c.loop-place.invariant ∙ ap (λ e. Some e) c.in-Node.is) (sym c.in-Some.is
    ∙ c.in_ok-child.ensures.ok)

-- a place below a token
pub returns-in_default-clause-ok : goal.returns-in_default-clause-ok
returns-in_default-clause-ok c =
    let start = c.args.node.now in let ps = c.args.path.now in let k = c.loop-place.place-index in
    sym (ap (element_below start) (place-split ps k 0 c.loop-place-test.true)
    ∙ token-below start c.in_default.field-0 (take k ps) (get_or ps k 0) (drop (suc k) ps)
    (c.loop-place.invariant ∙ ap (λ e. Some e) c.in_default.is))

-- a place that is not there
pub returns-in_default-2-clause-ok : goal.returns-in_default-2-clause-ok
returns-in_default-2-clause-ok c =
    let start = c.args.node.now in let ps = c.args.path.now in let k = c.loop-place.place-index in
    sym (ap (element_below start) (place-split ps k 0 c.loop-place-test.true)
    ∙ none-below start (take k ps) (get_or ps k 0) (drop (suc k) ps)
    (child-there start c.in-Node.parent (take k ps) (get_or ps k 0) _
    (c.loop-place.invariant ∙ ap (λ e. Some e) c.in-Node.is) (sym c.in_default-2.is
    ∙ c.in_ok-child.ensures.ok)))
