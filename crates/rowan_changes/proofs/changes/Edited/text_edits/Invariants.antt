use Rattle.std.proofs.Common.{List, take}
use Rattle.rowan_green.specs.declared.utility_types.NodeOrToken.TheVariants.{Node}
use Rattle.rowan_changes.specs.Edit.{Edit}
use Rattle.rowan_changes.specs.TextEdits.{IsEdited, AreTextEdits}
use Rattle.rowan_changes.proofs.changes.Edited.text_edits.Given as goal

abbrev pub invariant-loop-index : goal.invariant-loop-index
invariant-loop-index l =
    (es : List Edit) → IsEdited l.self.sites.root es l.self
    → AreTextEdits (Node l.self.sites.root) (take l.index es) l.edits.items
