use Rattle.rowan_table.proofs.SliceLemmas.{slice_text-len}
use Rattle.rowan_cursor.proofs.laws.a_slice_is_as_long_as_its_range.Goals as goal

pub returns : goal.returns
returns c = slice_text-len
