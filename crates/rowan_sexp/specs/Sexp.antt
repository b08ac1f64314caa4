-- The tokens of an s-expression.
use Rattle.std.specs.Prelude.{◌≡◌, ℕ, ◌<◌, ◌==◌, Bool, true, false, ◌||◌, List, [], ◌∷◌, ◌++◌}
use Rattle.std.specs.Prelude.{length, take, drop, codes, ⊤, if◌then◌else◌}
use Rattle.std.specs.Char.{is_whitespace, is_not_whitespace, encode_utf8}
use Rattle.std.specs.List.{flat_map, AllByRecursion}
use Rattle.std.specs.Str.{NoCharPasses, IsCharBoundary}
use Rattle.rowan_sexp.specs.declared.sexp.lang.SyntaxKind.{SyntaxKind}
use Rattle.rowan_sexp.specs.declared.sexp.lang.SyntaxKind.TheVariants.{L_PAREN, R_PAREN, WORD}
use Rattle.rowan_sexp.specs.declared.sexp.lang.SyntaxKind.TheVariants.{WHITESPACE, ERROR, LIST}
use Rattle.rowan_sexp.specs.declared.sexp.lang.SyntaxKind.TheVariants.{ATOM, ROOT}
use denote.Ref.{Bor}

-- the raw kind of each kind
abbrev pub number_of : SyntaxKind → ℕ
number_of L_PAREN = 0
number_of R_PAREN = 1
number_of WORD = 2
number_of WHITESPACE = 3
number_of ERROR = 4
number_of LIST = 5
number_of ATOM = 6
number_of ROOT = 7

-- the kind that a raw kind means: the one with its number, or ERROR
abbrev pub kind_of : ℕ → SyntaxKind
kind_of n =
    if n == 0 then L_PAREN
    else (if n == 1 then R_PAREN
    else (if n == 2 then WORD
    else (if n == 3 then WHITESPACE
    else (if n == 5 then LIST
    else (if n == 6 then ATOM
    else (if n == 7 then ROOT
    else ERROR))))))

-- how the kinds are called
abbrev pub name_of : SyntaxKind → List ℕ
name_of L_PAREN = codes "L_PAREN"
name_of R_PAREN = codes "R_PAREN"
name_of WORD = codes "WORD"
name_of WHITESPACE = codes "WHITESPACE"
name_of ERROR = codes "ERROR"
name_of LIST = codes "LIST"
name_of ATOM = codes "ATOM"
name_of ROOT = codes "ROOT"

-- a token: its kind and its text
abbrev pub LexedToken : Type 0
LexedToken = SyntaxKind × Bor (List ℕ)

-- the texts of the tokens, one after the other
abbrev pub tokens_text : List LexedToken → List ℕ
tokens_text tokens = flat_map (λ token. token.1.now) tokens

-- what no word contains: '(', ')' and white space
abbrev pub is_delimiter : ℕ → Bool
is_delimiter c = (c == 40 || c == 41) || is_whitespace c

-- a text that is not empty, none of whose characters passes the test
pub record IsRun (ends : ℕ → Bool) (text : List ℕ) : Type 0 where
  pub nonempty : 0 < length text
  pub inside : NoCharPasses ends text

-- a token of this kind can have this text; a token has one of four kinds
abbrev pub IsTextOf : SyntaxKind → List ℕ → Type 0
IsTextOf L_PAREN text = text ≡ codes "("
IsTextOf R_PAREN text = text ≡ codes ")"
IsTextOf WORD text = IsRun is_delimiter text
IsTextOf WHITESPACE text = IsRun is_not_whitespace text
IsTextOf ERROR text = ⊥
IsTextOf LIST text = ⊥
IsTextOf ATOM text = ⊥
IsTextOf ROOT text = ⊥

-- the token has a text of its kind
abbrev pub IsToken : LexedToken → Type 0
IsToken token = IsTextOf token.0 token.1.now

-- neighbours of these kinds would be one token
abbrev pub are_one : SyntaxKind → SyntaxKind → Bool
are_one WORD WORD = true
are_one WHITESPACE WHITESPACE = true
are_one _ _ = false

-- no two neighbours would be one token
abbrev pub AreApart : List LexedToken → Type 0
AreApart [] = ⊤
AreApart (token ∷ []) = ⊤
AreApart (token ∷ next ∷ tokens) = (are_one token.0 next.0 ≡ false) × AreApart (next ∷ tokens)

-- the tokens of a text
pub record IsLexed (text : List ℕ) (tokens : List LexedToken) : Type 0 where
  -- their texts are the text
  pub whole : tokens_text tokens ≡ text
  -- each is a parenthesis, a word or white space
  pub each : AllByRecursion IsToken tokens
  -- words and white space are as long as can be
  pub apart : AreApart tokens

-- What the lexer's parts say of the first token of a text.

-- the text is empty, or begins with a character that passes the test
abbrev pub IsStopped : (ℕ → Bool) → List ℕ → Type 0
IsStopped ends text =
    0 < length text
    → (c : ℕ) × (rest : List ℕ) × (ends c ≡ true) × (text ≡ encode_utf8 c ++ rest)

-- a token of this kind ends where this rest begins
abbrev pub EndsBefore : SyntaxKind → List ℕ → Type 0
EndsBefore WORD rest = IsStopped is_delimiter rest
EndsBefore WHITESPACE rest = IsStopped is_not_whitespace rest
EndsBefore _ rest = ⊤

-- the token is the first of the text, as long as can be, and the rest is what is left
pub record IsCut (text : List ℕ) (token : LexedToken) (rest : List ℕ) : Type 0 where
  pub whole : text ≡ token.1.now ++ rest
  pub fit : IsTextOf token.0 token.1.now
  pub longest : EndsBefore token.0 rest

-- the first token of the text has this kind and this length in bytes
pub record BeginsWith (text : List ℕ) (kind : SyntaxKind) (len : ℕ) : Type 0 where
  pub border : IsCharBoundary text len
  pub fit : IsTextOf kind (take len text)
  pub longest : EndsBefore kind (drop len text)
