use Rattle.std.proofs.Common.{[], ◌∷◌, ◌++◌, take, sym, ◌∙◌, ap}
use Rattle.rowan_green.specs.Term.{node_children}
use Rattle.rowan_rewrite.specs.Drafts.{items_or}
use Rattle.rowan_rewrite.proofs.RewritingLemmas.{take-at}
use Rattle.rowan_rewrite.proofs.rewriting.draft.Draft.keep.Goals as goal

pub returns-in-None-clause-done : goal.returns-in-None-clause-done
returns-in-None-clause-done c = λ t at.
    (let s = c.args.self in
    let kept = take s.next (node_children s.node.now) in
    take-at (node_children s.node.now) s.next t at
    ∙ ap (λ o. items_or o kept ++ t ∷ []) (sym c.in-None.is))
