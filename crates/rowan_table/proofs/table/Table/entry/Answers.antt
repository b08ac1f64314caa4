use Rattle.std.proofs.Common.{◌<◌, length, refl, arith}
use Rattle.std.proofs.lemmas.List.{length-map}
use Rattle.std.proofs.lemmas.Option.{slice_get_read}
use Rattle.rowan_table.specs.Table.{facts_of}
use Rattle.rowan_table.specs.TableView.{entries_of}
use Rattle.rowan_table.proofs.NodeLemmas.{facts_at}
use Rattle.rowan_table.proofs.TableLemmas.{is_entry}
use Rattle.rowan_table.proofs.table.Table.entry.Goals as goal

pub returns : goal.returns
returns c =
    let s = c.args.self.now in
    let e = c.index.result.now in
    let within : c.args.number < length s.entries.items =
    omega (arith, c.requires, length-map s.entries.items (facts_of s.nodes)) in
    let at = slice_get_read s.entries.items _ c.args.number e refl within c.index.ensures in
    is_entry (entries_of s) s.complete c.args.number (facts_of s.nodes e)
    (facts_at s.nodes s.entries.items c.args.number e at)
