use Rattle.std.proofs.Common.{◌≡◌, [], ◌++◌, take, drop, length, None, ◌∙◌, ap, arith}
use Rattle.std.specs.Iterator.Adapters.{once_item}
use Rattle.std.specs.Option.{option_to_list}
use Rattle.rowan_green.specs.Term.{node_of, node_kind, node_children}
use Rattle.rowan_green.proofs.EditLemmas.{node_of-children}
use Rattle.rowan_table.proofs.DraftLemmas.{no_items}
use Rattle.rowan_table.proofs.table.draft.twin_of.Goals as goal

pub returns-in-Ok : goal.returns-in-Ok
returns-in-Ok c =
    let n = c.args.node.now in
    let made = c.in-Ok.ensures.ok in
    let run = made.2.0 in
    let none : once_item run.from ≡ None = ap once_item (made.2.1 ∙ made.1)
    ∙ c.empty.ensures.item in
    let given = c.empty.ensures.runs run run.seen in
    let items : run.items ≡ [] = no_items run.items
    (omega (arith, given.0, run.long, ap (λ o. length (option_to_list o)) none)) in
    made.2.3.0 ∙ ap (λ xs. node_of (node_kind n)
    (take 0 (node_children n) ++ xs ++ drop 0 (node_children n))) items ∙ node_of-children n
