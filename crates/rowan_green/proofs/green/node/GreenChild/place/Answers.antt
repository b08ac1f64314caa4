use Rattle.std.proofs.Common.{◌≡◌, ◌<◌, map, length, refl, sym, ◌∙◌, ap, subst, arith}
use Rattle.std.proofs.Math.Seq.{map-set_same}
use Rattle.std.proofs.lemmas.Option.{slice_get_read, same_Some}
use Rattle.rowan_green.specs.Fits.{Fits}
use Rattle.rowan_green.specs.Term.{term_len}
use Rattle.rowan_green.specs.View.{child_term}
use Rattle.rowan_green.proofs.Placed.{AreSound-placed, passes_count, passes_text}
use Rattle.rowan_green.proofs.green.node.GreenChild.place.Goals as goal

pub returns-then-index-first-ge-MAX_CHILDREN-clause-err :
    goal.returns-then-index-first-ge-MAX_CHILDREN-clause-err
returns-then-index-first-ge-MAX_CHILDREN-clause-err c =
    let l = c.loop-index in
    let within : l.index < length l.children.items =
    omega (
      arith,
      c.loop-index-test.true,
      c.len-index-end.ensures,
      l.children.ok.0,
      l.invariant.2,
    ) in
    passes_count c.args.first l.index l.text_len l.children.items (omega arith) within l.invariant.0
    c.index.result.now (map child_term c.args.children.now.items) c.index.ensures l.invariant.1
    (omega (arith, c.if-index-first-ge-MAX_CHILDREN.true))

pub returns-in_default-clause-err : goal.returns-in_default-clause-err
returns-in_default-clause-err c =
    let l = c.loop-index in
    let within : l.index < length l.children.items =
    omega (
      arith,
      c.loop-index-test.true,
      c.len-index-end.ensures,
      l.children.ok.0,
      l.invariant.2,
    ) in
    passes_text c.args.first l.index l.text_len l.children.items (omega arith) within l.invariant.0
    c.index.result.now (map child_term c.args.children.now.items) c.index.ensures l.invariant.1
    (omega (arith, c.if-index-first-ge-MAX_CHILDREN.false))
    (omega (arith, c.in_default.ensures, c.text_len.ensures.len, ap term_len c.as_ref.ensures))

pub loop-index-preserved : goal.loop-index-preserved
loop-index-preserved c =
    let l = c.loop-index in
    let cs = l.children.items in
    let child = c.index.result.now in
    let old = c.index_mut.result.now in
    let new = c.set_rel_offset.new.self in
    let within : l.index < length cs =
    omega (
      arith,
      c.loop-index-test.true,
      c.len-index-end.ensures,
      l.children.ok.0,
      l.invariant.2,
    ) in
    let same : old ≡ child =
    same_Some old child (sym (slice_get_read cs (length cs) l.index old refl within
    c.index_mut.ensures.value)
    ∙ slice_get_read cs (length cs) l.index child refl within c.index.ensures) in
    let term = c.set_rel_offset.ensures.term ∙ ap child_term same in
    let fits : Fits (child_term new) =
    subst Fits (c.as_ref.ensures ∙ sym term) c.text_len.ensures.fits in (
      AreSound-placed c.args.first l.index l.text_len cs (omega arith) within l.invariant.0
          c.from-text_len-in-loop-index.result new c.set_rel_offset.ensures.offset
          (omega (arith, c.if-index-first-ge-MAX_CHILDREN.false)) fits
          (omega (
            arith,
            c.in-Some.ensures,
            c.text_len.ensures.len,
            ap term_len c.as_ref.ensures,
            ap term_len term,
          )) (omega arith),
      map-set_same child_term cs l.index new old
          (c.set_rel_offset.ensures.term ∙ ap child_term c.index_mut.ensures.value) ∙ l.invariant.1,
      l.invariant.2,
      l.invariant.3,
      l.invariant.4,
    )
