use Rattle.std.proofs.Common.{◌≡◌, ◌≢◌, ◌+◌, ◌-◌, ◌<◌, length, sym, ◌∙◌, ap, subst, arith}
use Rattle.std.specs.Prelude.{Some}
use Rattle.std.specs.Option.{option_map}
use Rattle.std.proofs.lemmas.Result.{err_from_is_err_and}
use Rattle.rowan_green.specs.declared.fault.Fault.TheVariants.{Memory}
use Rattle.rowan_green.specs.declared.utility_types.NodeOrToken.TheVariants.{Node}
use Rattle.rowan_green.specs.Fits.{Fits}
use Rattle.rowan_green.specs.Lent.{pointee}
use Rattle.rowan_terms.specs.Path.{put}
use Rattle.rowan_green.specs.Term.{term_kind}
use Rattle.rowan_table.specs.Cursor.{Cursor, kind}
use Rattle.rowan_table.specs.Replacement.{with_replacement}
use Rattle.rowan_table.proofs.ReplaceLemmas.{keeps, put-own}
use Rattle.rowan_tree_cursor.proofs.TreeCursorLemmas.{IsLast, frame-at, put-up, unfit-up}
use Rattle.rowan_tree_cursor.proofs.TreeCursorReplaceLemmas.{put-top, why}
use Rattle.rowan_tree_cursor.proofs.tree_cursor.TreeCursor.replace.Goals as goal

pub returns-in_err-node-clause-err : goal.returns-in_err-node-clause-err
returns-in_err-node-clause-err c =
    let s = c.self.inside in
    let root = s.root.now in
    let all = s.above.items in
    let k = c.loop-depth.depth - 1 in
    let m = c.loop-depth.depth in
    let f = c.index-frame.result.now in
    let u = c.loop-depth.element in
    let fault = c.in_err-node.field-0.0 in
    let next : m ≡ k + 1 = omega (arith, c.loop-depth-test.true) in
    let less : k < length all =
    omega (arith, c.loop-depth-test.true, c.loop-depth.invariant.0) in
    let last : IsLast root all k f =
    frame-at root all k m f c.loop-depth.invariant.1 next less c.index-frame.ensures in
    let p = err_from_is_err_and c.from_residual.result c.from_residual.ensures.1 in
    rw (p.1, p.2) (why c.args.self.now c.args.replacement fault (λ (other : fault ≢ Memory). (
      c.in_err-node.ensures.text other,
      subst (λ (d : Cursor). ¬ Fits (put (Node d.root) d.path c.args.replacement)) c.self.view_is
          (subst (λ t. ¬ Fits t) c.loop-depth.invariant.2
          (unfit-up root all k m f u fault last next (c.in_err-node.ensures.err other))),
    )))

pub loop-depth-preserved : goal.loop-depth-preserved
loop-depth-preserved c =
    let s = c.self.inside in
    let root = s.root.now in
    let all = s.above.items in
    let k = c.loop-depth.depth - 1 in
    let m = c.loop-depth.depth in
    let f = c.index-frame.result.now in
    let next : m ≡ k + 1 = omega (arith, c.loop-depth-test.true) in
    let less : k < length all =
    omega (arith, c.loop-depth-test.true, c.loop-depth.invariant.0) in
    let last : IsLast root all k f =
    frame-at root all k m f c.loop-depth.invariant.1 next less c.index-frame.ensures in (
      omega (arith, less),
      last.above,
      put-up root all k m f c.loop-depth.element c.in_ok-node.node last next
          c.in_ok-node.ensures.ok.0 ∙ c.loop-depth.invariant.2,
      c.in_ok-node.ensures.fits,
      λ t h. absurd (cc h),
    )

pub returns-in-Node-clause-rest : goal.returns-in-Node-clause-rest
returns-in-Node-clause-rest c =
    let s = c.self.inside in
    let now = c.args.self.now in
    let u = c.args.replacement in
    let zero : c.loop-depth.depth ≡ 0 = omega (arith, c.loop-depth-test.false) in
    let same : Node c.in-Node.root ≡ with_replacement now u =
    sym c.in-Node.is
    ∙ sym (put-top s.root.now s.above.items c.loop-depth.depth c.loop-depth.element zero)
    ∙ c.loop-depth.invariant.2
    ∙ ap (λ (d : Cursor). put (Node d.root) d.path u) c.self.view_is in
    let here : kind now ≡ Some (term_kind (pointee s.element)) =
    ap kind (sym c.self.view_is) ∙ ap (option_map term_kind) c.self.invariant.stands in
    keeps now u c.in-Node.root (term_kind (pointee s.element)) here same

pub returns-in-Node-clause-own : goal.returns-in-Node-clause-own
returns-in-Node-clause-own c = λ own.
    (let s = c.self.inside in
    let now = c.args.self.now in
    let u = c.args.replacement in
    let zero : c.loop-depth.depth ≡ 0 = omega (arith, c.loop-depth-test.false) in
    let same : Node c.in-Node.root ≡ with_replacement now u =
    sym c.in-Node.is
    ∙ sym (put-top s.root.now s.above.items c.loop-depth.depth c.loop-depth.element zero)
    ∙ c.loop-depth.invariant.2
    ∙ ap (λ (d : Cursor). put (Node d.root) d.path u) c.self.view_is in
    put-own now u c.in-Node.root own same)
