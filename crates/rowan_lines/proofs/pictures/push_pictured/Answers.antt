use Rattle.std.proofs.Common.{◌≡◌, ◌++◌}
use Rattle.std.proofs.lemmas.Str.{IsUtf8-past_char}
use Rattle.std.specs.Char.{encode_utf8}
use Rattle.std.specs.Str.Iter.{chars_rest}
use Rattle.rowan_lines.proofs.PictureLemmas.{pictured_more, pictured_none}
use Rattle.rowan_lines.proofs.pictures.push_pictured.Goals as goal

pub loop-character-preserved : goal.loop-character-preserved
loop-character-preserved c =
    let before = c.loop-character.invariant in
    let first : chars_rest c.loop-character.rest ≡ encode_utf8 c.in-Some.character ++ chars_rest
    c.next.new.self = c.in-Some.ensures.steps.0 in
    record {
      utf8 = IsUtf8-past_char _ _ c.in-Some.character before.utf8 first;
      put = pictured_more _ _ _ _ _ c.in-Some.character before.utf8 first
          c.in_ok-push_picture.ensures.ok before.put;
    }

pub returns-clause-ok : goal.returns-clause-ok
returns-clause-ok c = pictured_none _ _ _ c.in_default.ensures.steps.0.0 c.loop-character.invariant.put
