use Rattle.std.proofs.Common.{◌≡◌, [], ◌++◌, length, sym, ◌∙◌, ap, rules}
use Rattle.std.proofs.lemmas.List.{nil_from_length}
use Rattle.rowan_green.specs.Term.{node_of, node_kind, node_children}
use Rattle.rowan_green.proofs.EditLemmas.{node_of-children}
use Rattle.rowan_rewrite.proofs.rewriting.draft.with_front.Goals as goal

pub returns-then-is_empty-clause-ok : goal.returns-then-is_empty-clause-ok
returns-then-is_empty-clause-ok c =
    let n = c.args.node.now in
    let zero : length c.args.front.items ≡ 0 = search rules in
    let none : c.args.front.items ≡ [] = nil_from_length c.args.front.items zero in
    let same : c.in_ok-clone.field-0 ≡ n = search rules in
    same ∙ sym (node_of-children n)
    ∙ ap (λ ts. node_of (node_kind n) (ts ++ node_children n)) (sym none)
