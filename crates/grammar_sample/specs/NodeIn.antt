-- Written by rowan_grammar from sample.ungram: change that, and not this file.
-- The nodes in wrappers: in borrowed ones, and in those of more than one kind.
use Rattle.std.specs.Prelude.{ℕ}
use Rattle.rowan.specs.Cursor.{Cursor}
use Rattle.rowan.specs.Refs.{node_place}
use Rattle.grammar_sample.specs.declared.nodes.NodeOfRef.{NodeOfRef}
use Rattle.grammar_sample.specs.declared.nodes.Section.{Section}
use Rattle.grammar_sample.specs.declared.nodes.KeyPart.{KeyPart}
use Rattle.grammar_sample.specs.declared.nodes.Composed.{Composed}
use Rattle.grammar_sample.specs.declared.nodes.Literal.{Literal}
use Rattle.grammar_sample.specs.declared.nodes.Value.{Value}
use Rattle.grammar_sample.specs.declared.nodes.SectionRef.{SectionRef}
use Rattle.grammar_sample.specs.declared.nodes.KeyPartRef.{KeyPartRef}
use Rattle.grammar_sample.specs.declared.nodes.ComposedRef.{ComposedRef}
use Rattle.grammar_sample.specs.declared.nodes.LiteralRef.{LiteralRef}
use Rattle.grammar_sample.specs.declared.nodes.ValueRef.{ValueRef}

-- where the node of a borrowed wrapper stands
abbrev pub place_in : {kind : ℕ} → NodeOfRef kind → Cursor
place_in wrapper = node_place wrapper.syntax

abbrev pub node_in_section : Section → Cursor
node_in_section (Section.Table node) = node
node_in_section (Section.ArrayTable node) = node

abbrev pub place_in_section : SectionRef → Cursor
place_in_section (SectionRef.Table node) = place_in node
place_in_section (SectionRef.ArrayTable node) = place_in node

abbrev pub node_in_key_part : KeyPart → Cursor
node_in_key_part (KeyPart.BareKey node) = node
node_in_key_part (KeyPart.QuotedKey node) = node

abbrev pub place_in_key_part : KeyPartRef → Cursor
place_in_key_part (KeyPartRef.BareKey node) = place_in node
place_in_key_part (KeyPartRef.QuotedKey node) = place_in node

abbrev pub node_in_composed : Composed → Cursor
node_in_composed (Composed.Array node) = node
node_in_composed (Composed.InlineTable node) = node

abbrev pub place_in_composed : ComposedRef → Cursor
place_in_composed (ComposedRef.Array node) = place_in node
place_in_composed (ComposedRef.InlineTable node) = place_in node

abbrev pub node_in_literal : Literal → Cursor
node_in_literal (Literal.TextLiteral node) = node
node_in_literal (Literal.IntegerLiteral node) = node
node_in_literal (Literal.FloatLiteral node) = node
node_in_literal (Literal.BooleanLiteral node) = node
node_in_literal (Literal.MomentLiteral node) = node

abbrev pub place_in_literal : LiteralRef → Cursor
place_in_literal (LiteralRef.TextLiteral node) = place_in node
place_in_literal (LiteralRef.IntegerLiteral node) = place_in node
place_in_literal (LiteralRef.FloatLiteral node) = place_in node
place_in_literal (LiteralRef.BooleanLiteral node) = place_in node
place_in_literal (LiteralRef.MomentLiteral node) = place_in node

abbrev pub node_in_value : Value → Cursor
node_in_value (Value.Literal node) = node_in_literal node
node_in_value (Value.Composed node) = node_in_composed node
node_in_value (Value.Reference node) = node
node_in_value (Value.Call node) = node

abbrev pub place_in_value : ValueRef → Cursor
place_in_value (ValueRef.Literal node) = place_in_literal node
place_in_value (ValueRef.Composed node) = place_in_composed node
place_in_value (ValueRef.Reference node) = place_in node
place_in_value (ValueRef.Call node) = place_in node
