use Rattle.std.proofs.Common.{◌≡◌, ◌≤◌, length, Some, refl, subst, arith}
use Rattle.std.specs.Prelude.{slice_get}
use Rattle.std.proofs.lemmas.Option.{slice_get_read}
use Rattle.rowan_green.specs.Fits.{byte_limit}
use Rattle.rowan_green.specs.Term.{sum_of_lens}
use Rattle.rowan_changes.specs.declared.changes.Change.{Change}
use Rattle.rowan_changes.specs.GreenEditor.{IsChangeOf}
use Rattle.rowan_changes.proofs.ChangeLemmas.{pairs-next}
use Rattle.rowan_changes.proofs.edit.changes_of.Goals as goal

pub loop-edit-preserved : goal.loop-edit-preserved
loop-edit-preserved c =
    let ss = c.args.edits.now in
    let k = c.loop-edit.edit-index in
    let s = c.edit-item.result in
    let made : Change = record { range = s.range; new_len = c.len_of.result } in
    let at : slice_get ss k ≡ Some s =
    slice_get_read ss (length ss) k s refl (omega (arith, c.loop-edit-test.true))
    c.edit-item.is in
    let is : IsChangeOf s made = record {
      range = refl;
      len = subst (λ ts. sum_of_lens ts ≤ byte_limit → c.len_of.result ≡ sum_of_lens ts)
          c.deref.ensures.value c.len_of.ensures;
    } in
    pairs-next ss k s c.loop-edit.changes.items c.push.new.self.items made c.loop-edit.invariant at
    c.in_ok-push.ensures.items is
