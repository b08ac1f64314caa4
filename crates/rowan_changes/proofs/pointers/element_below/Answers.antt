use Rattle.std.proofs.Common.{take, drop, get_or, suc, sym, ◌∙◌, ap, Some}
use Rattle.std.specs.Option.{option_map}
use Rattle.std.proofs.lemmas.List.{take_more}
use Rattle.rowan_table.specs.Moves.{element_below}
use Rattle.rowan_api.specs.Refs.{node_place, token_place, element_place}
use Rattle.rowan_script.proofs.Places.{place-split, child-there, none-below, token-below}
use Rattle.rowan_changes.proofs.pointers.element_below.Goals as goal

pub loop-place-preserved : goal.loop-place-preserved
loop-place-preserved g c =
    let start = node_place c.args.node in
    let ps = c.args.path.now in
    let k = c.loop-place.place-index in
    ap (element_below start) (take_more ps k 0 c.loop-place-test.true)
    ∙ child-there start (node_place c.in-Node.parent) (take k ps) (get_or ps k 0)
    (Some (element_place c.in-Some.child))
    (c.loop-place.invariant ∙ ap (λ e. Some (element_place e)) c.in-Node.is)
    (sym (ap (option_map element_place) c.in-Some.is) ∙ c.child_or_token_at_index.ensures)

-- a place below a token
pub returns-in_default : goal.returns-in_default
returns-in_default g c =
    let start = node_place c.args.node in
    let ps = c.args.path.now in
    let k = c.loop-place.place-index in
    sym (ap (element_below start) (place-split ps k 0 c.loop-place-test.true)
    ∙ token-below start (token_place c.in_default.field-0) (take k ps) (get_or ps k 0)
    (drop (suc k) ps)
    (c.loop-place.invariant ∙ ap (λ e. Some (element_place e)) c.in_default.is))

-- a place that is not there
pub returns-in_default-child_or_token_at_index : goal.returns-in_default-child_or_token_at_index
returns-in_default-child_or_token_at_index g c =
    let start = node_place c.args.node in
    let ps = c.args.path.now in
    let k = c.loop-place.place-index in
    sym (ap (element_below start) (place-split ps k 0 c.loop-place-test.true)
    ∙ none-below start (take k ps) (get_or ps k 0) (drop (suc k) ps)
    (child-there start (node_place c.in-Node.parent) (take k ps) (get_or ps k 0) _
    (c.loop-place.invariant ∙ ap (λ e. Some (element_place e)) c.in-Node.is)
    (sym (ap (option_map element_place) c.in_default-child_or_token_at_index.is)
    ∙ c.child_or_token_at_index.ensures)))
