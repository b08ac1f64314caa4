use Rattle.std.proofs.Common.{◌≢◌, ◌≤◌, ◌++◌, ◌∷◌, [], length, take, sym, ◌∙◌, ap, subst}
use Rattle.std.proofs.Common.{arith, length-append}
use Rattle.std.proofs.lemmas.Result.{err_from_is_err_and}
use Rattle.rowan_green.specs.declared.fault.Fault.TheVariants.{Memory}
use Rattle.rowan_changes.specs.OpenNode.{path_below}
use Rattle.rowan_changes.specs.Zipper.{tree_of, place_of, path_of, Leads, PassesBelow}
use Rattle.rowan_changes.proofs.ZipperLemmas.{closed-once, place-once, leads-less, path-of-place}
use Rattle.rowan_changes.proofs.ZipperLemmas.{passes-around}
use Rattle.rowan_changes.proofs.zipper.Zipper.close_to.Goals as goal

pub loop-above-preserved : goal.loop-above-preserved
loop-above-preserved c =
    let all = c.loop-above.above.items in
    let rest = c.pop.new.self.items in
    let outer = c.in-Some.outer in
    let inner = c.loop-above.inner in
    let root = c.args.self.root.now in
    let split = c.in-Some.ensures.items in
    let left : c.args.count ≤ length rest =
    omega (arith, c.loop-above-test.true, ap length split, length-append rest (outer ∷ [])) in (
      left,
      closed-once all rest outer inner c.in_ok-inner.inner c.in_ok-close.field-0 split
          c.in_ok-inner.ensures.closed c.in_ok-close.ensures.ok ∙ c.loop-above.invariant.1,
      ap (λ k. path_below rest ++ k ∷ []) c.in_ok-inner.ensures.kept
          ∙ place-once all rest outer inner.kept (place_of c.args.self) split
          c.loop-above.invariant.2,
      subst (Leads root rest) (sym c.in_ok-inner.ensures.node)
          (leads-less root rest outer inner.node.now
          (subst (λ ns. Leads root ns inner.node.now) split c.loop-above.invariant.3)),
    )

pub returns-in_err-close-clause-err : goal.returns-in_err-close-clause-err
returns-in_err-close-clause-err c =
    let p = err_from_is_err_and c.from_residual.result c.from_residual.ensures.1 in
    let all = c.loop-above.above.items in
    let inner = c.loop-above.inner in
    let self = c.args.self in
    let fault = c.in_err-close.field-0.0 in
    let at = path-of-place all inner.kept (path_of self) self.inner.kept c.loop-above.invariant.2 in
    rw (p.1, p.2) (λ (other : fault ≢ Memory). (
    let passes : PassesBelow self c.args.count fault = record {
      depth = length all;
      below = omega (arith, c.loop-above-test.true);
      within = at.1;
      passes = passes-around all inner (tree_of self) (take (length all) (path_of self)) fault
          (c.in_err-close.ensures.err other) c.loop-above.invariant.1 at.0;
    } in
    passes))
