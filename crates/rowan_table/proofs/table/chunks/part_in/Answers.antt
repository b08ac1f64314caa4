use Rattle.std.proofs.Common.{◌≡◌, ◌<◌, ◌≤◌, ◌-◌, length, rules}
use Rattle.rowan_table.proofs.ChunkLemmas.{part_end}
use Rattle.rowan_table.proofs.table.chunks.part_in.Goals as goal

pub range-requires-clause-end_boundary : goal.range-requires-clause-end_boundary
range-requires-clause-end_boundary c =
    let order : c.args.at ≤ c.args.slice.end = search rules in
    let within : c.min-to.result ≤ length c.args.text.now = search rules in
    let until : c.min-to.result < length c.args.text.now
    → c.min-to.result ≡ c.args.slice.end - c.args.at = λ l. search rules in
    part_end c.args.text.now c.args.at c.args.slice.end c.min-to.result c.utf8.text c.requires.end
    order within until
