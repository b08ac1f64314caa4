use Rattle.std.proofs.Common.{◌≡◌, suc, length, Some, refl, sym, ◌∙◌, arith}
use Rattle.std.specs.Prelude.{slice_get}
use Rattle.std.proofs.lemmas.Option.{slice_get_read}
use Rattle.rowan_changes.proofs.SiteListLemmas.{all-carried, last-ends, placed-length}
use Rattle.rowan_changes.proofs.Ways.{ok-from}
use Rattle.rowan_changes.proofs.edit_sites.moved_by_all.Goals as goal

pub carry-requires-clause-before : goal.carry-requires-clause-before
carry-requires-clause-before c =
    let es = c.args.edits.now in
    let k = c.in-Some.last in
    let e = c.index-edits-last.result in
    let count : length es ≡ suc k = omega (arith, c.in-Some.ensures) in
    let at : slice_get es k ≡ Some e =
    slice_get_read es (length es) k e refl (omega (arith, count)) c.index-edits-last.is in
    last-ends es k e c.args.path.now c.requires.before at

pub carry-requires-clause-len : goal.carry-requires-clause-len
carry-requires-clause-len c =
    let es = c.args.edits.now in
    let k = c.in-Some.last in
    let e = c.index-edits-last.result in
    let count : length es ≡ suc k = omega (arith, c.in-Some.ensures) in
    let at : slice_get es k ≡ Some e =
    slice_get_read es (length es) k e refl (omega (arith, count)) c.index-edits-last.is in
    placed-length _ e (c.requires.placed.each k e at)

pub returns-clause-ok : goal.returns-clause-ok
returns-clause-ok c =
    let es = c.args.edits.now in
    let k = c.in-Some.last in
    let e = c.index-edits-last.result in
    let p = c.args.path.now in
    let count : length es ≡ suc k = omega (arith, c.in-Some.ensures) in
    let at : slice_get es k ≡ Some e =
    slice_get_read es (length es) k e refl (omega (arith, count)) c.index-edits-last.is in
    let same = all-carried es k e p c.requires.placed at count
    (last-ends es k e p c.requires.before at) in
    ok-from c.carry.result (λ v h. h ∙ sym same) c.carry.ensures.ok
