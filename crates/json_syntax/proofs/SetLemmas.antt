-- Written by rowan_grammar from json.ungram: change that, and not this file.
-- What the sets of tokens have.
use Rattle.std.specs.Prelude.{◌≡◌, refl}
use Rattle.rowan_parser.specs.Seen.{has}
use Rattle.json_syntax.specs.declared.kinds.Kind.{Kind}
use Rattle.json_syntax.specs.declared.kinds.TheConstants.{BLANK, ENDS}
use Rattle.json_syntax.specs.Kinds.{number_of, is_in_blank, is_in_ends}

pub blank_has : (k : Kind) → has BLANK.0 (number_of k) ≡ is_in_blank k
blank_has Kind.Whitespace = refl
blank_has Kind.Comment = refl
blank_has Kind.String = refl
blank_has Kind.Number = refl
blank_has Kind.Word = refl
blank_has Kind.LBrace = refl
blank_has Kind.RBrace = refl
blank_has Kind.LBracket = refl
blank_has Kind.RBracket = refl
blank_has Kind.Comma = refl
blank_has Kind.Colon = refl
blank_has Kind.Unknown = refl
blank_has Kind.Object = refl
blank_has Kind.Member = refl
blank_has Kind.Array = refl
blank_has Kind.Literal = refl
blank_has Kind.Error = refl
blank_has Kind.Root = refl

pub ends_has : (k : Kind) → has ENDS.0 (number_of k) ≡ is_in_ends k
ends_has Kind.Whitespace = refl
ends_has Kind.Comment = refl
ends_has Kind.String = refl
ends_has Kind.Number = refl
ends_has Kind.Word = refl
ends_has Kind.LBrace = refl
ends_has Kind.RBrace = refl
ends_has Kind.LBracket = refl
ends_has Kind.RBracket = refl
ends_has Kind.Comma = refl
ends_has Kind.Colon = refl
ends_has Kind.Unknown = refl
ends_has Kind.Object = refl
ends_has Kind.Member = refl
ends_has Kind.Array = refl
ends_has Kind.Literal = refl
ends_has Kind.Error = refl
ends_has Kind.Root = refl
