use Rattle.std.proofs.Common.{◌≡◌, ◌++◌, ap, Some, length, length-append, arith}
use Rattle.std.proofs.lemmas.Str.{length-encode}
use Rattle.std.specs.Char.{encode_utf8}
use Rattle.std.specs.Str.Iter.{chars_rest}
use Rattle.rowan_lines.proofs.Columns.{utf16-units, utf8-rest}
use Rattle.rowan_lines.proofs.Utf16Ends.{all-step, there-step, last-there, last-all, none-empty, none-less}
use Rattle.rowan_lines.proofs.line_index.utf16_end.Goals as goal

pub characters-preserved : goal.characters-preserved
characters-preserved c =
    let before = c.characters.invariant in
    let one = c.in_ok-character.character in
    let first : chars_rest c.characters.rest ≡ encode_utf8 one ++ chars_rest c.next.new.self =
    c.in_ok-character.ensures.steps.0 in
    let units = utf16-units one c.len_utf16-units.result c.len_utf16-units.ensures.bmp
    c.len_utf16-units.ensures.surrogate_pair in
    record {
      utf8 = utf8-rest _ _ one before.utf8 first;
      within = omega (
        arith,
        ap length first,
        length-append (encode_utf8 one) (chars_rest c.next.new.self),
        length-encode one,
        before.within,
        c.len_utf8-end.ensures.value,
      );
      all = all-step _ _ _ one _ _ _ _ _ _ before.utf8 first units (omega arith) (omega arith)
          (omega arith) before.all;
      there = there-step _ _ _ one _ _ _ _ _ _ before.utf8 first units (omega arith) (omega arith)
          before.there;
    }

pub returns-in_err-character-clause-all : goal.returns-in_err-character-clause-all
returns-in_err-character-clause-all c = λ k h. absurd (none-empty _ _ _ _ _
    c.in_err-character.ensures.steps.0.0 (omega arith) c.characters.invariant.all k h)

pub returns-in_err-left-clause-all : goal.returns-in_err-left-clause-all
returns-in_err-left-clause-all c =
    let before = c.characters.invariant in
    let one = c.in_ok-character.character in
    let first : chars_rest c.characters.rest ≡ encode_utf8 one ++ chars_rest c.next.new.self =
    c.in_ok-character.ensures.steps.0 in
    let units = utf16-units one c.len_utf16-units.result c.len_utf16-units.ensures.bmp
    c.len_utf16-units.ensures.surrogate_pair in
    λ k h. absurd (none-less _ _ _ one _ _ _ _ before.utf8 first units (omega arith) (omega arith)
    before.all k h)

pub returns-clause-there : goal.returns-clause-there
returns-clause-there c = last-there _ _ _ _ _ (omega arith) c.characters.invariant.there

pub returns-clause-all : goal.returns-clause-all
returns-clause-all c = λ k h. ap (λ n. Some n) (last-all _ _ _ _ _ (omega arith)
    c.characters.invariant.all k h)
