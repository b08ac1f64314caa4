use Rattle.std.proofs.Common.{◌≡◌, ◌++◌, ◌∷◌, [], ◌∙◌, ap}
use Rattle.rowan_table.specs.Nodes.{inner, inners}
use Rattle.rowan_table.proofs.NodeListLemmas.{inners-append}
use Rattle.rowan_table.proofs.table.nodes.Nodes.push.Goals as goal

pub returns-clause-ok : goal.returns-clause-ok
returns-clause-ok c =
    let ns = c.self.inside.greens.items in
    let fs = c.self.inside.first_children.items in
    let n = c.args.green in
    let f = c.args.first_child in
    let greens : c.push_reserved.new.self.items ≡ ns ++ n ∷ [] = c.push_reserved.ensures.items
    ∙ ap (λ xs. xs ++ n ∷ []) c.in_ok-reserve_one.ensures.items in
    let firsts : c.push_reserved-2.new.self.items ≡ fs ++ f ∷ [] = c.push_reserved-2.ensures.items
    ∙ ap (λ xs. xs ++ f ∷ []) c.in_ok-reserve_one-2.ensures.items in
    ap (λ xs. inners xs c.push_reserved-2.new.self.items) greens ∙ ap (inners (ns ++ n ∷ [])) firsts
    ∙ inners-append ns fs n f c.self.invariant
    ∙ ap (λ xs. xs ++ inner n f ∷ []) c.self.view_is
