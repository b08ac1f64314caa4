-- The tree that events spell: where its nodes begin and end, and where trivia stand in it.
use Rattle.std.specs.Prelude.{◌≡◌, ℕ, zero, suc, ◌==◌, ◌&&◌, Bool, true, false, cond, not}
use Rattle.std.specs.Prelude.{List, [], ◌∷◌, ◌++◌, map, take, drop, take_while}
use Rattle.std.specs.Prelude.{Option, Some, None}
use Rattle.std.specs.List.{list_any, filter}
use Rattle.rowan_green.specs.declared.green.SyntaxKind.{SyntaxKind}
use Rattle.rowan_green.specs.Term.{token_of}
use Rattle.rowan_green.specs.Word.{Symbol, Leaf}
use Rattle.rowan_green.specs.Word as word
use Rattle.rowan_events.specs.declared.event.Event.{Event}
use Rattle.rowan_events.specs.declared.event.Event.TheVariants.{Open, Around, Close, Nothing}
use Rattle.rowan_events.specs.declared.event.Event.TheVariants as event
use Rattle.rowan_events.specs.declared.lexer.Token.{Token}
use Rattle.rowan_events.specs.declared.token_set.TokenSet.{TokenSet}
use Rattle.rowan_parser.specs.declared.tree.Trivia.{Trivia}
use Rattle.rowan_parser.specs.Outside.{outside_of}
use Rattle.rowan_events.specs.Seen.{has}
use Rattle.rowan_parser.specs.Shape.{Step, Enter, Take, TakeAs, Exit, steps as steps_of}
use Rattle.rowan_parser.specs.Shape.{Forest, none, token_then, joined_then, node_then}
use Rattle.rowan_events.specs.Tokens.{token_term, tokens_text}

-- ---- trivia

abbrev pub is_trivia : Trivia → Token → Bool
is_trivia trivia token = has trivia.kinds.0 token.kind.0

-- this pair says that tokens of this kind belong to such a node
abbrev pub is_pair : ℕ → ℕ → SyntaxKind × TokenSet → Bool
is_pair node kind pair = (pair.0.0 == node) && has pair.1.0 kind

-- trivia of this kind belong to a node of that kind which begins behind them
abbrev pub is_attached : Trivia → ℕ → Token → Bool
is_attached trivia node token = list_any (is_pair node token.kind.0) trivia.attached.now

-- how many of the trivia that come next stay outside of a node of this kind which begins behind them
abbrev pub outside : Trivia → ℕ → List Token → ℕ
outside trivia node tokens =
    outside_of (is_attached trivia node) (take_while (is_trivia trivia) tokens)

-- the tokens from the first one on that does not pass
abbrev pub past : (Token → Bool) → List Token → List Token
past p [] = []
past p (token ∷ tokens) = cond (p token) (past p tokens) (token ∷ tokens)

-- the tokens that a grammar sees
abbrev pub seen : Trivia → List Token → List Token
seen trivia tokens = filter (λ token. not (is_trivia trivia token)) tokens

-- so many tokens that are no trivia, and all that stands before the last of these
abbrev pub up_to : Trivia → ℕ → List Token → List Token
up_to trivia n [] = []
up_to trivia zero (token ∷ tokens) = []
up_to trivia (suc n) (token ∷ tokens) =
    token ∷ up_to trivia (cond (is_trivia trivia token) (suc n) n) tokens

-- the tokens behind these
abbrev pub behind : Trivia → ℕ → List Token → List Token
behind trivia n [] = []
behind trivia zero (token ∷ tokens) = token ∷ tokens
behind trivia (suc n) (token ∷ tokens) =
    behind trivia (cond (is_trivia trivia token) (suc n) n) tokens

-- ---- what events spell

abbrev pub leaves : List Token → List Symbol
leaves tokens = map (λ token. Leaf (token_term token)) tokens

-- these tokens as one leaf of this kind, if there are any
abbrev pub one_leaf : ℕ → List Token → List Symbol
one_leaf kind [] = []
one_leaf kind (token ∷ tokens) = Leaf (token_of kind (tokens_text (token ∷ tokens))) ∷ []

-- A node begins before the first one of these tokens that is no trivia: behind the trivia that stay
-- outside of it, and around those that are left, which belong to it.
abbrev pub opening : Trivia → ℕ → List Token → List Symbol
opening trivia kind tokens =
    leaves (take (outside trivia kind tokens) tokens)
    ++ word.Open kind
    ∷ leaves (take_while (is_trivia trivia) (drop (outside trivia kind tokens) tokens))

abbrev pub closings : ℕ → List Symbol
closings zero = []
closings (suc n) = word.Close ∷ closings n

-- What the steps of events spell where so many nodes are open and these tokens are left. A step
-- that ends a node where none is open says nothing. Behind the steps all open nodes end, and all
-- tokens that are left follow.
abbrev pub spelled_by : Trivia → ℕ → List Step → List Token → List Symbol
spelled_by trivia n [] tokens = closings n ++ leaves tokens
spelled_by trivia n (Enter kind ∷ steps) tokens =
    opening trivia kind tokens ++ spelled_by trivia (suc n) steps (past (is_trivia trivia) tokens)
spelled_by trivia n (Take ∷ steps) tokens =
    leaves (take_while (is_trivia trivia) tokens)
    ++ (leaves (take 1 (past (is_trivia trivia) tokens))
    ++ spelled_by trivia n steps (drop 1 (past (is_trivia trivia) tokens)))
spelled_by trivia n (TakeAs kind count ∷ steps) tokens =
    leaves (take_while (is_trivia trivia) tokens)
    ++ (one_leaf kind (up_to trivia count (past (is_trivia trivia) tokens))
    ++ spelled_by trivia n steps (behind trivia count (past (is_trivia trivia) tokens)))
spelled_by trivia zero (Exit ∷ steps) tokens = spelled_by trivia zero steps tokens
spelled_by trivia (suc n) (Exit ∷ steps) tokens = word.Close ∷ spelled_by trivia n steps tokens

-- the word of the tree: a root of this kind around all that the events spell
abbrev pub tree_word : ℕ → Trivia → List Token → List Event → List Symbol
tree_word root trivia tokens events =
    word.Open root ∷ (spelled_by trivia 0 (steps_of events) tokens ++ word.Close ∷ [])

-- the next tokens become one leaf
abbrev pub joins : Event → Bool
joins (Open kind outer) = false
joins (Around kind outer) = false
joins Close = false
joins event.Token = false
joins (event.Joined kind count) = true
joins Nothing = false

abbrev pub join_some : List Event → Bool
join_some events = list_any joins events

-- ---- forests over tokens

-- the tokens behind those of a forest
abbrev pub after : Trivia → Forest → List Token → List Token
after trivia none tokens = tokens
after trivia (token_then f) tokens = after trivia f (drop 1 (past (is_trivia trivia) tokens))
after trivia (joined_then kind n f) tokens =
    after trivia f (behind trivia n (past (is_trivia trivia) tokens))
after trivia (node_then kind inside f) tokens =
    after trivia f (after trivia inside (past (is_trivia trivia) tokens))

-- The forest over the tokens that come next. A node begins behind the trivia before it, but those
-- that are attached to it, and ends behind its last token.
abbrev pub grown : Trivia → Forest → List Token → List Symbol
grown trivia none tokens = []
grown trivia (token_then f) tokens =
    leaves (take_while (is_trivia trivia) tokens)
    ++ (leaves (take 1 (past (is_trivia trivia) tokens))
    ++ grown trivia f (drop 1 (past (is_trivia trivia) tokens)))
grown trivia (joined_then kind n f) tokens =
    leaves (take_while (is_trivia trivia) tokens)
    ++ (one_leaf kind (up_to trivia n (past (is_trivia trivia) tokens))
    ++ grown trivia f (behind trivia n (past (is_trivia trivia) tokens)))
grown trivia (node_then kind inside f) tokens =
    opening trivia kind tokens
    ++ (grown trivia inside (past (is_trivia trivia) tokens)
    ++ word.Close ∷ grown trivia f (after trivia inside (past (is_trivia trivia) tokens)))

-- ---- steps of the builder

-- the node that begins at an event: its kind, and how many events on the one around it begins
abbrev pub begun : Event → Option (SyntaxKind × ℕ)
begun (Open kind outer) = Some (kind, outer)
begun (Around kind outer) = Some (kind, outer)
begun Close = None
begun event.Token = None
begun (event.Joined kind count) = None
begun Nothing = None

-- the first token is there and passes
abbrev pub begins_with : (Token → Bool) → List Token → Bool
begins_with p [] = false
begins_with p (token ∷ tokens) = p token

-- these symbols were put behind the word, and these are the tokens behind the first ones
pub record Puts (tokens : List Token) (old symbols : List Symbol) (others : List Token)
    (new : List Symbol) (put : ℕ) : Type 0 where
  pub word : new ≡ old ++ symbols
  pub left : drop put tokens ≡ others
