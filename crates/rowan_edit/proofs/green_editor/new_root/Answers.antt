use Rattle.std.proofs.Common.{◌≡◌, ◌≢◌, length, sym, ◌∙◌, ap, subst, arith}
use Rattle.std.proofs.lemmas.Result.{err_from_is_err_and}
use Rattle.rowan_green.specs.declared.fault.Fault.TheVariants.{Memory}
use Rattle.rowan_changes.specs.Edit.{lies_before}
use Rattle.rowan_changes.specs.GreenEditor.{edit_of, edits_of}
use Rattle.rowan_changes.specs.Limits.{PassesLimitIn}
use Rattle.rowan_changes.specs.Zipper.{path_of, place_of, Fork, HasPlace}
use Rattle.rowan_edit.proofs.PlanLemmas.{left-first, last-left, next-left, all-made}
use Rattle.rowan_edit.proofs.PlanLemmas.{fails-later}
use Rattle.rowan_changes.proofs.Ways.{ok-from, err-from}
use Rattle.rowan_edit.proofs.green_editor.new_root.Goals as goal

pub loop-edit-init : goal.loop-edit-init
loop-edit-init c =
    let z = c.new-zipper.result in (
      c.new-zipper.ensures.root,
      c.new-zipper.ensures.standing,
      left-first c.args.root.now (edits_of c.args.edits.items) z c.requires
          c.new-zipper.ensures.tree c.new-zipper.ensures.place,
    )

pub go_to-requires-clause-there : goal.go_to-requires-clause-there
go_to-requires-clause-there c =
    let z = c.loop-edit.zipper in
    let s = c.in-Some.edit in
    let last = last-left c.args.root.now c.loop-edit.left.items c.pop.new.self.items s
    (edits_of c.args.edits.items) z c.in-Some.ensures.items c.loop-edit.invariant.2 in
    subst (λ n. HasPlace n c.deref.result.now s.end) (sym c.loop-edit.invariant.0)
    (subst (λ p. HasPlace c.args.root.now p s.end) (sym c.deref.ensures.value) last.of)

pub go_to-requires-clause-before : goal.go_to-requires-clause-before
go_to-requires-clause-before c =
    let z = c.loop-edit.zipper in
    let s = c.in-Some.edit in
    let last = last-left c.args.root.now c.loop-edit.left.items c.pop.new.self.items s
    (edits_of c.args.edits.items) z c.in-Some.ensures.items c.loop-edit.invariant.2 in
    ap (λ p. lies_before p s.end (place_of z)) c.deref.ensures.value ∙ last.before

pub splice-requires-clause-order : goal.splice-requires-clause-order
splice-requires-clause-order c =
    (last-left c.args.root.now c.loop-edit.left.items c.pop.new.self.items c.in-Some.edit
    (edits_of c.args.edits.items) c.loop-edit.zipper c.in-Some.ensures.items c.loop-edit.invariant.2).start

pub loop-edit-preserved : goal.loop-edit-preserved
loop-edit-preserved c =
    let z = c.loop-edit.zipper in
    let s = c.in-Some.edit in
    let rest = c.pop.new.self.items in
    let last = last-left c.args.root.now c.loop-edit.left.items rest s (edits_of c.args.edits.items) z
    c.in-Some.ensures.items c.loop-edit.invariant.2 in (
      c.in_ok-zipper-2.ensures.root ∙ c.in_ok-zipper.ensures.root ∙ c.loop-edit.invariant.0,
      c.in_ok-zipper-2.ensures.standing,
      next-left c.args.root.now (edits_of rest) (edit_of s) (edits_of c.args.edits.items) z
          c.in_ok-zipper.zipper c.in_ok-zipper-2.zipper last c.in_ok-zipper.ensures.tree
          (c.in_ok-zipper.ensures.path ∙ c.deref.ensures.value) c.in_ok-zipper-2.ensures.tree
          c.in_ok-zipper-2.ensures.place,
    )

pub returns-in_err-zipper-clause-err : goal.returns-in_err-zipper-clause-err
returns-in_err-zipper-clause-err c =
    let p = err_from_is_err_and c.from_residual.result c.from_residual.ensures.1 in
    let z = c.loop-edit.zipper in
    let s = c.in-Some.edit in
    let rest = c.pop.new.self.items in
    let fault = c.in_err-zipper.field-0.0 in
    let last = last-left c.args.root.now c.loop-edit.left.items rest s (edits_of c.args.edits.items) z
    c.in-Some.ensures.items c.loop-edit.invariant.2 in
    let why = c.in_err-zipper.ensures.err in
    rw (p.1, p.2) (λ (other : fault ≢ Memory).
    fails-later c.args.root.now (edits_of rest) (edit_of s) (edits_of c.args.edits.items) z why.0 fault last
    (subst (λ q. Fork (path_of z) q why.0) c.deref.ensures.value why.1) (why.2 other))

pub returns-clause-ok : goal.returns-clause-ok
returns-clause-ok c =
    let none : length c.loop-edit.left.items ≡ 0 = omega (arith, c.in_default.ensures.cases.0) in
    let done = all-made c.args.root.now c.loop-edit.left.items (edits_of c.args.edits.items)
    c.loop-edit.zipper none c.loop-edit.invariant.2 in
    ok-from c.close.result (λ n h. h ∙ done) c.close.ensures.ok

pub returns-clause-err : goal.returns-clause-err
returns-clause-err c =
    let none : length c.loop-edit.left.items ≡ 0 = omega (arith, c.in_default.ensures.cases.0) in
    let done = all-made c.args.root.now c.loop-edit.left.items (edits_of c.args.edits.items)
    c.loop-edit.zipper none c.loop-edit.invariant.2 in
    err-from c.close.result (λ e h other. subst (λ t. PassesLimitIn t e) done (h other))
    c.close.ensures.err
