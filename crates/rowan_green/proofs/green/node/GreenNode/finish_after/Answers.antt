use Rattle.std.proofs.Common.{◌++◌, map, length, sym, ◌∙◌, ap, subst, arith}
use Rattle.std.proofs.lemmas.List.{length-map}
use Rattle.std.proofs.lemmas.Result.{err_from_is_err_and}
use Rattle.rowan_green.specs.Fits.{FitsNode, AreWithin, PassesLimit}
use Rattle.rowan_green.specs.Term.{node_of, node_kind, node_children}
use Rattle.rowan_green.specs.View.{child_term}
use Rattle.rowan_green.proofs.ChildList.{drop-children}
use Rattle.rowan_green.proofs.Terms.{FitsNode-node_of}
use Rattle.rowan_green.proofs.green.node.GreenNode.finish_after.Goals as goal

pub split_at-requires : goal.split_at-requires
split_at-requires c =
    let terms = c.child_slice.ensures.terms in
    omega (arith, c.requires, ap length terms, length-map c.child_slice.result.now child_term)

pub returns-in_err-push_shared-clause-err : goal.returns-in_err-push_shared-clause-err
returns-in_err-push_shared-clause-err c =
    let p = err_from_is_err_and c.from_residual.result c.from_residual.ensures.1 in
    let terms = c.child_slice.ensures.terms in
    let back = ap (map child_term) c.split_at.ensures.back
    ∙ drop-children c.args.index c.child_slice.result.now (node_children c.args.self.now)
    terms in
    rw (p.1, p.2) (λ not_memory.
    subst (λ ts. PassesLimit (c.args.draft ++ ts) c.in_err-push_shared.field-0.0) back
    (c.in_err-push_shared.ensures.err not_memory))

pub returns-clause-ok : goal.returns-clause-ok
returns-clause-ok c =
    let terms = c.child_slice.ensures.terms in
    let back = ap (map child_term) c.split_at.ensures.back
    ∙ drop-children c.args.index c.child_slice.result.now (node_children c.args.self.now)
    terms in
    let whole = c.in_ok-push_shared.ensures.ok ∙ ap (λ ts. c.args.draft ++ ts) back in (
      c.in_ok-finish.ensures.ok ∙ ap (λ k. node_of k c.push_shared.new.self) c.kind.ensures.kind
          ∙ ap (node_of (node_kind c.args.self.now)) whole,
      subst AreWithin whole c.in_ok-finish.ensures.within,
    )

pub returns-clause-fits : goal.returns-clause-fits
returns-clause-fits c =
    let draft = c.push_shared.new.self in
    subst (λ n. FitsNode n) (sym c.in_ok-finish.ensures.ok)
    (FitsNode-node_of c.kind.result.0 draft c.in_ok-finish.ensures.within
    c.in_ok-finish.ensures.fit)
