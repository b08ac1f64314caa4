-- Written by rowan_grammar from toml.ungram: change that, and not this file.
-- The nodes in wrappers: in borrowed ones, and in those of more than one kind.
use Rattle.std.specs.Prelude.{ℕ}
use Rattle.rowan.specs.Cursor.{Cursor}
use Rattle.rowan.specs.Refs.{node_place}
use Rattle.toml_syntax.specs.declared.nodes.NodeOfRef.{NodeOfRef}
use Rattle.toml_syntax.specs.declared.nodes.SectionRef.{SectionRef}
use Rattle.toml_syntax.specs.declared.nodes.ValueRef.{ValueRef}

-- where the node of a borrowed wrapper stands
abbrev pub place_in : {kind : ℕ} → NodeOfRef kind → Cursor
place_in wrapper = node_place wrapper.syntax

abbrev pub place_in_section : SectionRef → Cursor
place_in_section (SectionRef.Table node) = place_in node
place_in_section (SectionRef.ArrayTable node) = place_in node

abbrev pub place_in_value : ValueRef → Cursor
place_in_value (ValueRef.Scalar node) = place_in node
place_in_value (ValueRef.Array node) = place_in node
place_in_value (ValueRef.InlineTable node) = place_in node
