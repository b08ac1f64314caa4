use Rattle.std.proofs.Common.{length, fold, sym, ◌∙◌, ap, ◌-◌}
use Rattle.std.specs.Hash as fed
use Rattle.rowan_green.specs.Lent.{pointee}
use Rattle.rowan_table.specs.Moves.{children_of}
use Rattle.rowan_table.specs.TableView.{root_of, path_at, cursor_of, entries_of}
use Rattle.rowan_table.proofs.HashLemmas.{fed_in_turn, fed_place-is}
use Rattle.rowan_table.proofs.SkipLemmas.{row_count}
use Rattle.rowan_table.proofs.table.Table.hash_element.Goals as goal

pub returns : goal.returns
returns g c =
    let t = c.args.self.now in
    let n = c.args.number in
    let term = pointee c.element-element.result in
    let row = c.child_numbers-children.result in
    let write = g.H.Hasher.write in
    let count = row_count (entries_of t) (root_of t) (path_at t n) row.start row.end
    c.child_numbers-children.ensures.row
    ∙ ap (λ o. length (children_of o)) c.element-element.ensures in
    fed_in_turn write c.args.state.now c.hash.new.state c.hash-2.new.state c.hash-3.new.state
    c.hash-4.new.state (fed.u32 c.from.result) (fed.u16 c.kind.result.0) (fed.u32 c.from-2.result)
    (fed.usize (row.end - row.start)) c.hash.ensures c.hash-2.ensures c.hash-3.ensures
    c.hash-4.ensures
    ∙ ap (fold write c.args.state.now) (sym (fed_place-is (cursor_of t n) term c.from.result
    c.kind.result.0 c.from-2.result (row.end - row.start) c.element-element.ensures
    (c.from.ensures ∙ c.start.ensures) c.kind.ensures (c.from-2.ensures ∙ c.text_len.ensures.len)
    count))
