use Rattle.std.proofs.Common.{◌≡◌, ◌+◌, map, ap, sym, ◌∙◌, arith}
use Rattle.std.proofs.lemmas.List.{length-map}
use Rattle.rowan_green.specs.Search.{child_start, child_end}
use Rattle.rowan_green.specs.View.{child_term}
use Rattle.rowan_green.proofs.SearchLemmas.{child_start-le, child_end-last, offset-is}
use Rattle.rowan_green.proofs.green.node.GreenChild.rel_range.Goals as goal
use Rattle.rowan_green.proofs.green.node.GreenChild.rel_range.Goals.{in-Some, in-None}

pub new-requires : goal.new-requires
new-requires c =
    let cs = c.args.children.now in
    let ts = map child_term cs in
    let k = c.args.index in
    let child = c.index-children-index in
    let start = c.rel_offset-start.ensures
    ∙ offset-is cs k child.result c.requires.placed child.is c.requires.place in
    let end : c.match-get.end ≡ child_end ts k = elim c.match-get.branch [
      | in-Some w ↦ w.end-is ∙ w.rel_offset-end.ensures
          ∙ offset-is cs (k + 1) w.in-Some.next.now c.requires.placed w.in-Some.ensures.lookup.1
          w.in-Some.ensures.lookup.3.0
      | in-None w ↦ w.end-is ∙ c.requires.sum
          ∙ sym (child_end-last ts k
          (omega (
            arith,
            c.requires.place,
            length-map cs child_term,
            w.in-None.ensures.lookup.3,
          )))
    ] in
    omega (arith, start, end, child_start-le ts k (k + 1) (omega arith))

pub returns : goal.returns
returns c =
    let cs = c.args.children.now in
    let ts = map child_term cs in
    let k = c.args.index in
    let child = c.index-children-index in
    let start : c.rel_offset-start.result ≡ child_start ts k =
    c.rel_offset-start.ensures
    ∙ offset-is cs k child.result c.requires.placed child.is c.requires.place in
    let end : c.match-get.end ≡ child_end ts k = elim c.match-get.branch [
      | in-Some w ↦ w.end-is ∙ w.rel_offset-end.ensures
          ∙ offset-is cs (k + 1) w.in-Some.next.now c.requires.placed w.in-Some.ensures.lookup.1
          w.in-Some.ensures.lookup.3.0
      | in-None w ↦ w.end-is ∙ c.requires.sum
          ∙ sym (child_end-last ts k
          (omega (
            arith,
            c.requires.place,
            length-map cs child_term,
            w.in-None.ensures.lookup.3,
          )))
    ] in
    c.new.ensures ∙ ap (λ n. record { start = n; end = c.match-get.end }) start
    ∙ ap (λ n. record { start = child_start ts k; end = n }) end
