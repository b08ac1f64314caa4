use Rattle.std.proofs.Common.{sym, ◌∙◌, ap, subst}
use Rattle.std.proofs.lemmas.Result.{err_from_is_err_and}
use Rattle.rowan_green.specs.declared.utility_types.NodeOrToken.TheVariants.{Node}
use Rattle.rowan_green.specs.Fits.{Fits}
use Rattle.rowan_terms.specs.Path.{put}
use Rattle.rowan_table.specs.TableView.{root_of, path_at}
use Rattle.rowan_table.proofs.ReplaceLemmas.{IsChildPath, put-above, unfit-above}
use Rattle.rowan_table.proofs.TokenLemmas.{no_parent}
use Rattle.rowan_table.proofs.table.Table.replace_node.Goals as goal

pub returns-in_err-green-clause-err : goal.returns-in_err-green-clause-err
returns-in_err-green-clause-err c =
    let s = c.args.self.now in
    let root = root_of s in
    let here = path_at s c.loop-parent.current in
    let above = path_at s c.in-Some.parent in
    let n = c.node.result.now in
    let green = c.loop-parent.green in
    let fault = c.in_err-green.field-0.0 in
    let place : IsChildPath root here above c.index.result n = record {
      parent = c.in-Some.ensures.found.path;
      index = c.index.ensures;
      node = c.node.ensures;
    } in
    let p = err_from_is_err_and c.from_residual.result c.from_residual.ensures.1 in
    rw (p.1, p.2) (λ not_memory. (
      c.in_err-green.ensures.text not_memory,
      subst (λ t. ¬ Fits t) c.loop-parent.invariant.1
          (unfit-above root here above c.index.result n (Node green) fault place
          (c.in_err-green.ensures.err not_memory)),
    ))

pub loop-parent-preserved : goal.loop-parent-preserved
loop-parent-preserved c =
    let s = c.args.self.now in
    let root = root_of s in
    let here = path_at s c.loop-parent.current in
    let above = path_at s c.in-Some.parent in
    let n = c.node.result.now in
    let green = c.loop-parent.green in
    let place : IsChildPath root here above c.index.result n = record {
      parent = c.in-Some.ensures.found.path;
      index = c.index.ensures;
      node = c.node.ensures;
    } in (
      c.in-Some.ensures.found.node,
      put-above root here above c.index.result n c.in_ok-green.green (Node green) place
          c.in_ok-green.ensures.ok.0 ∙ c.loop-parent.invariant.1,
      c.in_ok-green.ensures.fits,
    )

pub returns-clause-root : goal.returns-clause-root
returns-clause-root c =
    let s = c.args.self.now in
    let top = no_parent (path_at s c.loop-parent.current) c.in_default.ensures.found.path in
    sym (ap (λ p. put (Node (root_of s)) p (Node c.loop-parent.green)) top)
    ∙ c.loop-parent.invariant.1
