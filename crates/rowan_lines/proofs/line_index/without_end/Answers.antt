use Rattle.std.proofs.Common.{◌≡◌, ◌∙◌, ◌∷◌, [], ◌++◌, sym, ap, arith}
use Rattle.std.proofs.lemmas.Str.Pattern.{strip_suffix_char}
use Rattle.std.specs.Prelude.{Some, None}
use Rattle.rowan_lines.specs.Lines.{without_end}
use Rattle.rowan_lines.proofs.LineEnds.{unwrapped, without_none}
use Rattle.rowan_lines.proofs.line_index.without_end.Goals as goal

pub returns-in_default : goal.returns-in_default
returns-in_default c = sym (without_none c.args.line.now
    (strip_suffix_char 10 c.args.line.now None c.in_default.ensures.cases (omega arith)))

pub returns : goal.returns
returns c =
    let first : c.args.line.now ≡ c.in-Some.line.now ++ 10 ∷ [] = strip_suffix_char 10
    c.args.line.now (Some c.in-Some.line) c.in-Some.ensures.cases (omega arith) in
    let second = strip_suffix_char 13 c.in-Some.line.now c.strip_suffix-2.result
    c.strip_suffix-2.ensures.cases (omega arith) in
    sym (ap without_end first ∙ unwrapped c.in-Some.line c.unwrap_or.result
    c.strip_suffix-2.result second c.unwrap_or.ensures)
