-- Where a slice ends.
use Rattle.std.proofs.Common.{◌≤◌, arith}
use Rattle.rowan_green.specs.declared.utility_types.NodeOrToken.TheVariants.{Node}
use Rattle.rowan_green.specs.Fits.{byte_limit}
use Rattle.rowan_terms.specs.Path.{subterm}
use Rattle.rowan_table.specs.declared.table.slice.Slice.{Slice}
use Rattle.rowan_table.specs.declared.table.Table.{Table}
use Rattle.rowan_table.specs.Chunks.{IsSliceOf}
use Rattle.rowan_table.specs.TableView.{root_of, path_at, entries_of}
use Rattle.rowan_table.proofs.ChunkLemmas.{len-text}
use Rattle.rowan_table.proofs.TableLemmas.{slice_get-some, is_entry}

-- a slice ends at an offset that has a number
pub slice_ends : (table : Table) (s : Slice) → IsSliceOf table s → s.end ≤ byte_limit
slice_ends table s is =
    let e = slice_get-some (entries_of table) s.node is.node.within in
    let entry = is_entry (entries_of table) table.complete s.node e.0 e.1 in
    let text = len-text (subterm (Node (root_of table)) (path_at table s.node)) in
    omega (arith, is.slice.to, text, entry.start, entry.end)
