use Rattle.std.proofs.Common.{◌≡◌, ◌++◌, length}
use Rattle.std.specs.Prelude.{string_bytes}
use Rattle.std.specs.Str.{IsUtf8}
use Rattle.std.specs.Str.Iter.{chars_rest}
use Rattle.rowan_lines.specs.Pictures.{pictured}
use Rattle.rowan_lines.proofs.pictures.push_pictured.Given as goal

abbrev pub invariant-loop-character : goal.invariant-loop-character
invariant-loop-character l = record {
  utf8 : IsUtf8 (chars_rest l.rest);
  put : string_bytes l.out ++ pictured (chars_rest l.rest)
      ≡ string_bytes l.fn.out ++ pictured l.text;
}

abbrev pub decreases-loop-character : goal.decreases-loop-character
decreases-loop-character l = length (chars_rest l.rest)
