-- A node or token that is lent, and functions of a node or a token.
use Rattle.std.specs.Prelude.{Option, Some, None}
use Rattle.std.specs.Borrow.{Bor}
use Rattle.rowan_green.specs.declared.utility_types.NodeOrToken.{NodeOrToken}
use Rattle.rowan_green.specs.declared.utility_types.NodeOrToken.TheVariants.{Node, Token}

-- what the reference to a node or a token points to
abbrev pub pointee : {N T : Type 0} → NodeOrToken (Bor N) (Bor T) → NodeOrToken N T
pointee (Node n) = Node n.now
pointee (Token t) = Token t.now

-- what one of two functions gives
abbrev pub by_kind : {N T A : Type 0} → (N → A) → (T → A) → NodeOrToken N T → A
by_kind f g (Node n) = f n
by_kind f g (Token t) = g t

-- the node, where it is one
abbrev pub into_node : {N T : Type 0} → NodeOrToken N T → Option N
into_node (Node n) = Some n
into_node (Token t) = None

-- the token, where it is one
abbrev pub into_token : {N T : Type 0} → NodeOrToken N T → Option T
into_token (Node n) = None
into_token (Token t) = Some t
