use Rattle.std.proofs.Common.{◌≡◌, ◌+◌, ◌≤◌, length}
use Rattle.std.specs.Str.{chars, IsUtf8}
use Rattle.std.specs.Str.Iter.{chars_rest}
use Rattle.rowan_lines.specs.Lines.{utf16_len}
use Rattle.rowan_lines.proofs.line_index.utf16_len.Given as goal

abbrev pub invariant-loop-character : goal.invariant-loop-character
invariant-loop-character l = record {
  utf8 : IsUtf8 (chars_rest l.rest);
  counted : l.len + utf16_len (chars (chars_rest l.rest)) ≡ utf16_len (chars l.text);
  within : l.len + length (chars_rest l.rest) ≤ length l.text;
}

abbrev pub decreases-loop-character : goal.decreases-loop-character
decreases-loop-character l = length (chars_rest l.rest)
