use Rattle.std.proofs.Common.{◌≡◌, ◌++◌, take, sym, ◌∙◌, ap, subst}
use Rattle.std.proofs.lemmas.List.{take_all}
use Rattle.std.proofs.lemmas.Result.{IfOk-weaker, IfErr-weaker}
use Rattle.rowan_green.specs.Fits.{WhyNoNode}
use Rattle.rowan_green.specs.Term.{node_of, node_kind, node_children}
use Rattle.rowan_rewrite.specs.Drafts.{done, items_or}
use Rattle.rowan_rewrite.proofs.rewriting.draft.Draft.close_root.Goals as goal
use Rattle.rowan_rewrite.proofs.rewriting.draft.Draft.close_root.Goals.{After-with_front}

all-kept : (c : After-with_front) → node_children c.args.self.node.now ≡ done c.args.self
all-kept c =
    let s = c.args.self in
    let children = node_children s.node.now in
    sym (take_all s.next children c.requires)
    ∙ ap (λ o. items_or o (take s.next children)) (sym c.in-None.is)

pub returns-in-None-clause-ok : goal.returns-in-None-clause-ok
returns-in-None-clause-ok c =
    let s = c.args.self in
    IfOk-weaker c.with_front.result _ _
    (λ n is. is
    ∙ ap (λ ts. node_of (node_kind s.node.now) (s.lead.items ++ ts)) (all-kept c))
    c.with_front.ensures.ok

pub returns-in-None-clause-err : goal.returns-in-None-clause-err
returns-in-None-clause-err c =
    let s = c.args.self in
    IfErr-weaker c.with_front.result _ _
    (λ e why. subst (λ ts. WhyNoNode (s.lead.items ++ ts) e) (all-kept c) why)
    c.with_front.ensures.err
