-- Elements that are tokens: a definition of a user's own, with a case for each variant of a type of
-- `rowan`.
use Rattle.std.specs.Prelude.{Bool, true, false}
use Rattle.rowan.specs.Types.NodeOrToken.TheVariants.{Node, Token}
use Rattle.rowan.specs.Moves.{Element}

-- whether it is a token
abbrev pub is_token : Element → Bool
is_token (Node c) = false
is_token (Token c) = true
