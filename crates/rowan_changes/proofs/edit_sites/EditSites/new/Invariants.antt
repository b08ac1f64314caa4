use Rattle.rowan_changes.proofs.SiteListLemmas.{AreBegun}
use Rattle.rowan_changes.proofs.edit_sites.EditSites.new.Given as goal

abbrev pub invariant-loop-edit : goal.invariant-loop-edit
invariant-loop-edit l = AreBegun l.edits l.edit-index l.list.items
