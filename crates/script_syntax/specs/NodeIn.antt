-- Written by rowan_grammar from script.ungram: change that, and not this file.
-- The nodes in wrappers: in borrowed ones, and in those of more than one kind.
use Rattle.std.specs.Prelude.{ℕ}
use Rattle.rowan.specs.Cursor.{Cursor}
use Rattle.rowan.specs.Refs.{node_place}
use Rattle.script_syntax.specs.declared.nodes.NodeOfRef.{NodeOfRef}
use Rattle.script_syntax.specs.declared.nodes.DeclarationRef.{DeclarationRef}

-- where the node of a borrowed wrapper stands
abbrev pub place_in : {kind : ℕ} → NodeOfRef kind → Cursor
place_in wrapper = node_place wrapper.syntax

abbrev pub place_in_declaration : DeclarationRef → Cursor
place_in_declaration (DeclarationRef.Function node) = place_in node
place_in_declaration (DeclarationRef.Union node) = place_in node
