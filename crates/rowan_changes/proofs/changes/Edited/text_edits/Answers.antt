use Rattle.std.proofs.Common.{◌≡◌, List, length, Some, refl, sym, ◌∙◌, ap, subst, arith}
use Rattle.std.specs.Prelude.{slice_get}
use Rattle.std.proofs.lemmas.Option.{slice_get_read}
use Rattle.rowan_green.specs.declared.utility_types.NodeOrToken.TheVariants.{Node}
use Rattle.rowan_green.specs.Term.{Term}
use Rattle.rowan_changes.specs.declared.changes.Change.{Change}
use Rattle.rowan_changes.specs.Changes.{changes_of}
use Rattle.rowan_changes.proofs.EditedLemmas.{edit-at, text-next}
use Rattle.rowan_changes.proofs.changes.Edited.text_edits.Goals as goal

pub loop-index-preserved : goal.loop-index-preserved
loop-index-preserved c = λ es h.
    (let k = c.loop-index.index in
    let cs = c.as_slice-changes.result.now in
    let d = c.index-changes-index.result in
    let t : Term = Node c.args.self.now.sites.root in
    let there : slice_get cs k ≡ Some d =
    slice_get_read cs (length cs) k d refl (omega (arith, c.loop-index-test.true))
    c.index-changes-index.is in
    let at : slice_get (changes_of t es) k ≡ Some d =
    subst (λ (xs : List Change). slice_get xs k ≡ Some d) (c.as_slice-changes.ensures ∙ h.changes)
    there in
    let r = edit-at t es k d at in
    text-next t es k r.0 c.loop-index.edits.items c.push.new.self.items _ r.1
    (c.loop-index.invariant es h)
    (record {
      range = ap (λ (x : Change). x.range) (sym r.2);
      text = c.in_ok-text.ensures.ok es r.0 h r.1;
    }) c.in_ok-push.ensures.items)
