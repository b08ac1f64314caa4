-- What was written are the escapes of the characters that came.
use Rattle.std.proofs.Common.{◌≡◌, ◌++◌, List, ℕ, chars, string_bytes, IsUtf8}
use Rattle.std.specs.Str.Iter.{chars_rest}
use Rattle.rowan_print.specs.Printed.{AreEscapes}
use Rattle.rowan_print.proofs.printed.push_escapes.Given as goal

abbrev pub invariant-loop-character : goal.invariant-loop-character
invariant-loop-character l = record {
  utf8 : IsUtf8 (chars_rest l.character-iterator);
  added : List ℕ;
  wrote : string_bytes l.text ≡ string_bytes l.fn.text ++ added;
  whole : (rest : List ℕ) → AreEscapes (chars (chars_rest l.character-iterator)) rest
      → AreEscapes (chars l.part) (added ++ rest);
}
