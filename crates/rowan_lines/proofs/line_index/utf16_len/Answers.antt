use Rattle.std.proofs.Common.{◌≡◌, ◌++◌, arith}
use Rattle.std.specs.Char.{encode_utf8}
use Rattle.std.specs.Str.Iter.{chars_rest}
use Rattle.rowan_lines.proofs.Columns.{utf16-units, utf8-rest, units-counted, units-within, units-none}
use Rattle.rowan_lines.proofs.line_index.utf16_len.Goals as goal

pub loop-character-preserved : goal.loop-character-preserved
loop-character-preserved c =
    let before = c.loop-character.invariant in
    let first : chars_rest c.loop-character.rest ≡ encode_utf8 c.in-Some.character ++ chars_rest
    c.next.new.self = c.in-Some.ensures.steps.0 in
    let units = utf16-units c.in-Some.character c.len_utf16-len.result c.len_utf16-len.ensures.bmp
    c.len_utf16-len.ensures.surrogate_pair in
    record {
      utf8 = utf8-rest _ _ c.in-Some.character before.utf8 first;
      counted = units-counted _ _ c.in-Some.character _ _ _ before.utf8 first units before.counted;
      within = units-within _ _ c.in-Some.character _ _ _ first units before.within;
    }

pub returns : goal.returns
returns c = omega (
  arith,
  c.loop-character.invariant.counted,
  units-none
      (chars_rest c.loop-character.rest) c.in_default.ensures.steps.0.0,
)
