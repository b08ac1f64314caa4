-- Written by rowan_grammar from settings.ungram: change that, and not this file.
-- The nodes in wrappers: in borrowed ones, and in those of more than one kind.
use Rattle.std.specs.Prelude.{ℕ}
use Rattle.rowan.specs.Cursor.{Cursor}
use Rattle.rowan.specs.Refs.{node_place}
use Rattle.guide_language.specs.declared.nodes.NodeOfRef.{NodeOfRef}

-- where the node of a borrowed wrapper stands
abbrev pub place_in : {kind : ℕ} → NodeOfRef kind → Cursor
place_in wrapper = node_place wrapper.syntax
