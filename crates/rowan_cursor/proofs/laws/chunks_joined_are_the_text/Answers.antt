use Rattle.rowan_table.proofs.SliceLemmas.{chunks-joined}
use Rattle.rowan_cursor.proofs.laws.chunks_joined_are_the_text.Goals as goal

pub returns : goal.returns
returns c = chunks-joined
