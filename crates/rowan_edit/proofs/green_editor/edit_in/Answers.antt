use Rattle.std.proofs.Common.{length, ap, arith}
use Rattle.rowan_edit.specs.declared.ranked.Body.{Body}
use Rattle.rowan_edit.proofs.PlaceLemmas.{is-edit}
use Rattle.rowan_edit.proofs.green_editor.edit_in.Goals as goal

pub returns-clause-ok : goal.returns-clause-ok
returns-clause-ok c =
    let body : Body = record { range = c.range_of-range.result; new = c.args.new } in
    is-edit c.args.root.now (c.in_ok-rank.rank, body) c.args.parent.now c.args.children.start
    c.args.children.end c.args.count c.in-Some.place.node.now c.in-Some.place.start
    c.in_ok-rank.ensures.place c.in_ok-rank.ensures.end c.in_ok-rank.ensures.count
    c.in-Some.ensures.some c.in-Some.ensures.start (omega (arith, c.if-children.false)) (omega (
      arith,
      c.if-children-len.false,
      c.len.ensures.value,
      ap length c.children.ensures.list,
    )) c.range_of-range.ensures
