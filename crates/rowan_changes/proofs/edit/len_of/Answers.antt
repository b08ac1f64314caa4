use Rattle.std.proofs.Common.{◌≡◌, ◌+◌, length, take, Some, refl, arith}
use Rattle.std.specs.Prelude.{slice_get}
use Rattle.std.proofs.lemmas.Option.{slice_get_read}
use Rattle.rowan_green.specs.Term.{sum_of_lens}
use Rattle.rowan_changes.proofs.ShiftLemmas.{sum-next, start-within}
use Rattle.rowan_changes.proofs.edit.len_of.Goals as goal

pub returns-in_default : goal.returns-in_default
returns-in_default c = λ few.
    (let ts = c.args.elements.now in
    let i = c.loop-element.element-index in
    let t = c.element-item.result in
    let at : slice_get ts i ≡ Some t =
    slice_get_read ts (length ts) i t refl (omega (arith, c.loop-element-test.true))
    c.element-item.is in
    absurd (omega (
      arith,
      few,
      c.loop-element.invariant,
      c.in_default.ensures,
      c.text_len.ensures.len,
      sum-next ts i t at,
      start-within ts (i + 1),
    )))

pub loop-element-preserved : goal.loop-element-preserved
loop-element-preserved c =
    let ts = c.args.elements.now in
    let i = c.loop-element.element-index in
    let t = c.element-item.result in
    let at : slice_get ts i ≡ Some t =
    slice_get_read ts (length ts) i t refl (omega (arith, c.loop-element-test.true))
    c.element-item.is in
    let sum : c.in-Some.more ≡ sum_of_lens (take (i + 1) ts) =
    omega (
      arith,
      c.in-Some.ensures.1,
      c.loop-element.invariant,
      c.text_len.ensures.len,
      sum-next ts i t at,
    ) in
    sum
