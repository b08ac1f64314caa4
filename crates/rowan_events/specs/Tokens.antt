-- Tokens as a lexer gives them: a kind and a slice of the text.
use Rattle.std.specs.Prelude.{◌≡◌, ℕ, ◌<◌, ◌≤◌, ◌+◌, max, List, [], ◌∷◌, ◌++◌, map, length}
use Rattle.std.specs.Prelude.{Option, Some, None}
use Rattle.std.specs.Borrow.{Bor}
use Rattle.std.specs.List.{flat_map}
use Rattle.std.specs.Str.{IsCharBoundary}
use Rattle.rowan_green.specs.Term.{TokenTerm, token_of}
use Rattle.rowan_events.specs.declared.lexer.LexError.{LexError}
use Rattle.rowan_events.specs.declared.lexer.Lexeme.{Lexeme}
use Rattle.rowan_events.specs.declared.lexer.Token.{Token}

-- the texts of the tokens, one after the other
abbrev pub tokens_text : List Token → List ℕ
tokens_text tokens = flat_map (λ token. token.text.now) tokens

abbrev pub token_term : Token → TokenTerm
token_term token = token_of token.kind.0 token.text.now

-- the tokens as leaves of a tree
abbrev pub token_terms : List Token → List TokenTerm
token_terms tokens = map token_term tokens

-- The first place from this one on at which a character of the text ends, and the end of the text
-- where the place is past it.
pub record IsNextEnd (text : List ℕ) (place end : ℕ) : Type 0 where
  pub border : IsCharBoundary text end
  pub reached : place ≤ length text → place ≤ end
  pub first : (i : ℕ) → place ≤ i → i < end → IsCharBoundary text i → ⊥
  pub past : length text < place → end ≡ length text

-- A lexer tells of the text that is left this kind, this message and a length, and is then the later
-- one. The token has that kind. It ends where a character ends: at that length, or else at the next
-- such place, and behind at least one byte.
pub record IsSaid {X : Type 0} (says : X → List ℕ → Lexeme → X → Type 0)
    (lexer : X) (rest : List ℕ) (token : Token) (message : Option (Bor (List ℕ)))
    (later : X) : Type 0 where
  pub len : ℕ
  pub said : says lexer rest (record { kind = token.kind; len = len; message = message }) later
  pub cut : IsNextEnd rest (max len 1) (length token.text.now)

-- the complaint about a token from the offset `start` to `end`, if there is one
abbrev pub said_of : Option (Bor (List ℕ)) → ℕ → ℕ → List LexError
said_of None start end = []
said_of (Some message) start end =
    record { range = record { start = start; end = end }; message = message } ∷ []

-- The lexer tells each token, in turn, of its text and of those behind it. The first one begins at
-- the offset `start`. The errors are its complaints.
abbrev pub AreSaid : {X : Type 0} → (X → List ℕ → Lexeme → X → Type 0)
    → X → ℕ → List Token → List LexError → Type 0
AreSaid says lexer start [] errors = errors ≡ []
AreSaid {X} says lexer start (token ∷ tokens) errors =
    let end = start + length token.text.now in
    (later : X) × (message : Option (Bor (List ℕ))) × (others : List LexError)
    × IsSaid says lexer (tokens_text (token ∷ tokens)) token message later
    × (errors ≡ said_of message start end ++ others)
    × AreSaid says later end tokens others

-- the complaint is about something in a text of so many bytes
abbrev pub lies_within : ℕ → LexError → Type 0
lies_within len error = (error.range.start ≤ error.range.end) × (error.range.end ≤ len)
