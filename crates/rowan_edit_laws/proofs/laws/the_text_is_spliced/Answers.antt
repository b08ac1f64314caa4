use Rattle.rowan_changes.proofs.TextLaw.{text-edited}
use Rattle.rowan_edit_laws.proofs.laws.the_text_is_spliced.Goals as goal

pub returns : goal.returns
returns c = text-edited
