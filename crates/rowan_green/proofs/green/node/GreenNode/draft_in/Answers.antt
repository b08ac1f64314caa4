use Rattle.std.proofs.Common.{◌≡◌, map, take, length, sym, ◌∙◌, ap, subst, arith}
use Rattle.std.proofs.lemmas.List.{length-map, take_all}
use Rattle.rowan_green.specs.Search.{child_start}
use Rattle.rowan_green.specs.Term.{node_len, sum_of_lens}
use Rattle.rowan_green.specs.View.{child_term, AreSound}
use Rattle.rowan_green.proofs.ChildList.{take-children}
use Rattle.rowan_green.proofs.SearchLemmas.{offset-is}
use Rattle.rowan_green.proofs.Sound.{AreSound-take}
use Rattle.rowan_green.proofs.green.node.GreenNode.draft_in.Goals as goal
use Rattle.rowan_green.proofs.green.node.GreenNode.draft_in.Goals.{in-Some, in-None}

pub split_at-requires : goal.split_at-requires
split_at-requires c =
    let terms = c.child_slice-shared.ensures.terms in
    omega (
      arith,
      c.requires.index,
      ap length terms,
      length-map c.child_slice-shared.result.now child_term,
    )

pub invariant_of-result : goal.invariant_of-result
invariant_of-result c =
    let cs = c.child_slice-shared.result.now in
    let ts = map child_term cs in
    let i = c.args.index in
    let len_of = node_len c.args.self.now in
    let sound : AreSound len_of cs = c.child_slice-shared.ensures.sound in
    let shared : c.loop-child.children.block.list.items ≡ take i cs =
    c.loop-child.invariant ∙ ap (λ k. take k cs)
    (omega (
      arith,
      c.loop-child-test.false,
      c.loop-child.auto.child-index-end,
      c.split_at.ensures.front_len,
    )) in
    let len : c.match-get.text_len ≡ child_start ts i = elim c.match-get.branch [
      | in-Some w ↦ w.text_len-is ∙ w.rel_offset-text_len.ensures
          ∙ offset-is cs i w.in-Some.next.now sound.offsets w.in-Some.ensures.lookup.1
          w.in-Some.ensures.lookup.3.0
      | in-None w ↦ w.text_len-is ∙ w.text_len-text_len.ensures.len ∙ sound.sum
          ∙ ap sum_of_lens (sym (take_all i ts
          (omega (arith, w.in-None.ensures.lookup.3, length-map cs child_term))))
    ] in
    subst (AreSound c.match-get.text_len) (sym shared)
    (AreSound-take i len_of c.match-get.text_len cs sound len)

pub returns : goal.returns
returns c =
    let cs = c.child_slice-shared.result.now in
    let terms = c.child_slice-shared.ensures.terms in
    let shared : c.loop-child.children.block.list.items ≡ take c.args.index cs =
    c.loop-child.invariant ∙ ap (λ k. take k cs)
    (omega (
      arith,
      c.loop-child-test.false,
      c.loop-child.auto.child-index-end,
      c.split_at.ensures.front_len,
    )) in
    ap (map child_term) shared ∙ take-children c.args.index cs _ terms
