-- Of trivia before a node, those that stay outside of it, by the tokens that are attached to it.
use Rattle.std.specs.Prelude.{ℕ, suc, ◌&&◌, ltb, Bool, cond, not, List, [], ◌∷◌}
use Rattle.std.specs.List.{list_any}
use Rattle.rowan_lines.specs.Lines.{line_ends}
use Rattle.rowan_events.specs.declared.lexer.Token.{Token}

-- a blank line: two lines end in a token that is not attached
abbrev pub is_blank : (Token → Bool) → Token → Bool
is_blank attached token = not (attached token) && ltb 1 (line_ends token.text.now)

-- those before the first one that is attached and behind which no blank line stands
abbrev pub outside_of : (Token → Bool) → List Token → ℕ
outside_of attached [] = 0
outside_of attached (token ∷ tokens) =
    cond (attached token && not (list_any (is_blank attached) tokens)) 0
    (suc (outside_of attached tokens))
