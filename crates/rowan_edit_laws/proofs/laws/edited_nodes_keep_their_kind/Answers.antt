use Rattle.rowan_edit_laws.proofs.SiteLaw.{node-edited}
use Rattle.rowan_edit_laws.proofs.laws.edited_nodes_keep_their_kind.Goals as goal

pub returns : goal.returns
returns c = node-edited
