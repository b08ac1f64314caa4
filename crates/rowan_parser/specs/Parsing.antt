-- From a text to its tree: the tokens of a lexer, what a grammar did over those that are no trivia,
-- and the tree of its events.
use Rattle.std.specs.Prelude.{◌≡◌, ℕ, ◌+◌, ◌<◌, ◌==◌, ◌||◌, Bool, true, false, cond, List, [], ◌∷◌}
use Rattle.std.specs.Prelude.{◌++◌, map, length, get_or, min, string_bytes}
use Rattle.std.specs.Borrow.{MutBor}
use Rattle.std.specs.Fn.{Once}
use Rattle.std.specs.List.{list_any}
use Rattle.rowan_green.specs.declared.fault.Fault.{Fault}
use Rattle.rowan_green.specs.declared.fault.Fault.TheVariants.{TextTooLong, TooManyChildren, Memory}
use Rattle.rowan_green.specs.declared.utility_types.NodeOrToken.TheVariants.{Node}
use Rattle.rowan_green.specs.Fits.{byte_limit}
use Rattle.rowan_terms.specs.Path.{tokens as tokens_of}
use Rattle.rowan_green.specs.Span.{Span}
use Rattle.rowan_green.specs.Term.{NodeTerm}
use Rattle.rowan_green.specs.Word.{Symbol, node_word, word_text}
use Rattle.rowan_parser.specs.Building.{HasTooManyChildren}
use Rattle.rowan_parser.specs.Events.{is_trivia, tree_word, join_some}
use Rattle.rowan_events.specs.Log.{Seen, Piece}
use Rattle.rowan_events.specs.Running.{Makes}
use Rattle.rowan_events.specs.Seen.{started}
use Rattle.rowan_events.specs.Told.{Told}
use Rattle.rowan_events.specs.Tokens.{tokens_text, token_terms, AreSaid}
use Rattle.rowan_events.specs.declared.event.Event.{Event}
use Rattle.rowan_events.specs.declared.lexer.LexError.{LexError}
use Rattle.rowan_events.specs.declared.lexer.Lexeme.{Lexeme}
use Rattle.rowan_events.specs.declared.lexer.Token.{Token}
use Rattle.rowan_lines.specs.declared.syntax_error.SyntaxError.{SyntaxError}
use Rattle.rowan_events.specs.declared.parser.Spot.{Spot}
use Rattle.rowan_events.specs.declared.parser.Spot.TheVariants.{Here, Behind, Given, Over}
use Rattle.rowan_parser.specs.declared.tree.Trivia.{Trivia}

-- ---- what a grammar sees

abbrev pub has_line_end : List ℕ → Bool
has_line_end bytes = list_any (λ byte. byte == 10) bytes

-- The tokens that are no trivia. It is said where the first token starts, whether it touches the one
-- before, and whether a line ended since the last one that is no trivia.
abbrev pub pieces_since : ℕ → Bool → Bool → Trivia → List Token → List Piece
pieces_since start is_joined is_after_line trivia [] = []
pieces_since start is_joined is_after_line trivia (token ∷ tokens) =
    let next = start + length token.text.now in
    cond (is_trivia trivia token)
    (pieces_since next false (is_after_line || has_line_end token.text.now) trivia tokens)
    (record {
      kind = token.kind.0;
      text = token.text.now;
      start = start;
      is_joined = is_joined;
      is_after_line = is_after_line;
    } ∷ pieces_since next true false trivia tokens)

abbrev pub pieces : Trivia → List Token → List Piece
pieces trivia tokens = pieces_since 0 false false trivia tokens

-- ---- errors

-- where the tokens that are no trivia stand, if the first token starts at this offset
abbrev pub ranges_from : ℕ → Trivia → List Token → List Span
ranges_from start trivia [] = []
ranges_from start trivia (token ∷ tokens) =
    cond (is_trivia trivia token)
    (ranges_from (start + length token.text.now) trivia tokens)
    (record { start = start; end = start + length token.text.now }
    ∷ ranges_from (start + length token.text.now) trivia tokens)

abbrev pub empty_at : ℕ → Span
empty_at offset = record { start = offset; end = offset }

-- where the first n of these ranges end, or all of them where they are fewer
abbrev pub end_behind : List Span → ℕ → ℕ
end_behind ranges n = get_or (0 ∷ map (λ range. range.end) ranges) (min n (length ranges)) 0

-- range number n, or the empty one behind the last where there is none
abbrev pub nth_range : List Span → ℕ → Span
nth_range ranges n = get_or ranges n (empty_at (end_behind ranges n))

-- Where a complaint stands before which so many tokens were taken. These are the ranges of all
-- tokens.
abbrev pub range_at : List Span → ℕ → Spot → Span
range_at ranges n Here = nth_range ranges n
range_at ranges n Behind = empty_at (end_behind ranges n)
range_at ranges n (Given range) = range
range_at ranges n (Over first end) = record {
  start = min (nth_range ranges first).start (end_behind ranges end);
  end = end_behind ranges end;
}

-- an error: the bytes of its message, and its range
pub record Error : Type 0 where
  pub message : List ℕ
  pub range : Span

abbrev pub error_value : SyntaxError → Error
error_value error = record { message = string_bytes error.message; range = error.range }

-- the error of a complaint
abbrev pub error_of : Trivia → List Token → Told → Error
error_of trivia tokens told = record {
  message = told.message;
  range = range_at (ranges_from 0 trivia tokens) told.place told.spot;
}

-- the error that a lexer told
abbrev pub lexer_error : LexError → Error
lexer_error error = record {
  message = error.message.now;
  range = record { start = error.range.start; end = error.range.end };
}

-- ---- a run

-- The tokens are what the lexer tells, one after the other, from the start of the text to its end.
-- The grammar ran over those that are no trivia. In the end its parser had these events. The errors
-- are those that the lexer told, and then those of the parser's complaints.
pub record IsRun {X G : Type 0} (says : X → List ℕ → Lexeme → X → Type 0) (lexer : X)
    (calls : Once G (MutBor Seen × Unit {0}) (Unit {0} × (MutBor Seen × Unit {0})))
    (grammar : G) (trivia : Trivia) (text : List ℕ)
    (tokens : List Token) (events : List Event) (errors : List SyntaxError) : Type 0 where
  pub complained : List LexError
  pub said : AreSaid says lexer 0 tokens complained
  pub whole : tokens_text tokens ≡ text
  pub complaints : List Told
  pub makes : Makes calls grammar (started (pieces trivia tokens)) events complaints
  pub told : map error_value errors
      ≡ map lexer_error complained ++ map (error_of trivia tokens) complaints

-- why a text is not run over
abbrev pub WhyNotRun : List ℕ → Fault → Type 0
WhyNotRun text TextTooLong = byte_limit < length text
WhyNotRun text Memory = Unit {0}
WhyNotRun text _ = ⊥

-- ---- a parse

-- A run had these errors, and this is the tree of its events over its tokens, with a root of this
-- raw kind.
pub record IsParsed (runs : List Token → List Event → List SyntaxError → Type 0)
    (trivia : Trivia) (root : ℕ) (errors : List SyntaxError) (tree : NodeTerm) : Type 0 where
  pub tokens : List Token
  pub events : List Event
  pub ran : runs tokens events errors
  pub spells : node_word tree ≡ tree_word root trivia tokens events
  pub leaves : join_some events ≡ false → tokens_of (Node tree) ≡ token_terms tokens

-- the tree of a run has a node with too many children
pub record HasWideTree (runs : List Token → List Event → List SyntaxError → Type 0)
    (trivia : Trivia) (root : ℕ) : Type 0 where
  pub tokens : List Token
  pub events : List Event
  pub errors : List SyntaxError
  pub ran : runs tokens events errors
  pub too_many : HasTooManyChildren (tree_word root trivia tokens events)

-- why a text has no tree
abbrev pub WhyNotParsed : (List Token → List Event → List SyntaxError → Type 0)
    → Trivia → ℕ → List ℕ → Fault → Type 0
WhyNotParsed runs trivia root text TextTooLong = byte_limit < length text
WhyNotParsed runs trivia root text TooManyChildren = HasWideTree runs trivia root
WhyNotParsed runs trivia root text Memory = Unit {0}
WhyNotParsed runs trivia root text _ = ⊥

-- This word is that of a tree of the text, of which a node has too many children.
pub record IsTooWide (text : List ℕ) : Type 0 where
  pub word : List Symbol
  pub is_text : word_text word ≡ text
  pub too_many : HasTooManyChildren word

-- why a text has no tree, whatever runs over it
abbrev pub WhyNoTree : List ℕ → Fault → Type 0
WhyNoTree text TextTooLong = byte_limit < length text
WhyNoTree text TooManyChildren = IsTooWide text
WhyNoTree text Memory = Unit {0}
WhyNoTree text _ = ⊥
