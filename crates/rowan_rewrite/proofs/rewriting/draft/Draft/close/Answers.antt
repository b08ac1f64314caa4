use Rattle.std.proofs.Common.{take, sym, ◌∙◌, ap}
use Rattle.std.proofs.lemmas.List.{take_all}
use Rattle.rowan_green.specs.Term.{node_of, node_kind, node_children}
use Rattle.rowan_green.proofs.EditLemmas.{node_of-children}
use Rattle.rowan_rewrite.specs.Drafts.{items_or}
use Rattle.rowan_rewrite.proofs.rewriting.draft.Draft.close.Goals as goal

pub returns-in-None-clause-node : goal.returns-in-None-clause-node
returns-in-None-clause-node c =
    let s = c.args.self in
    let n = s.node.now in
    let kept = take s.next (node_children n) in
    sym (ap (λ o. node_of (node_kind n) (items_or o kept)) c.in-None.is
    ∙ ap (node_of (node_kind n)) (take_all s.next (node_children n) c.requires)
    ∙ node_of-children n)
