use Rattle.std.proofs.Common.{ap, arith}
use Rattle.rowan_terms.specs.Path.{len_of}
use Rattle.rowan_table.specs.TableView.{entries_of}
use Rattle.rowan_table.proofs.TableLemmas.{slice_get-some, is_entry}
use Rattle.rowan_table.proofs.table.Table.end_of_node.Goals as goal

pub at-requires : goal.at-requires
at-requires c =
    let s = c.args.self.now in
    let e = slice_get-some (entries_of s) c.args.number c.requires.within in
    let d = is_entry (entries_of s) s.complete c.args.number e.0 e.1 in
    omega (arith, c.start.ensures, d.start, d.end, ap len_of c.node.ensures, c.text_len.ensures.len)
