-- What a grammar sees when it looks at the tokens that are left.
use Rattle.std.specs.Prelude.{ℕ, ◌+◌, ◌==◌, ◌&&◌, ◌||◌, ◌/◌, ◌%◌, ◌^◌, ltb, Bool, true, false}
use Rattle.std.specs.Prelude.{if◌then◌else◌, length}
use Rattle.std.specs.Prelude.{List, [], ◌∷◌, map, drop, Option, Some, None, slice_get}
use Rattle.std.specs.Option.{option_map}
use Rattle.rowan_green.specs.Fits.{byte_limit}
use Rattle.rowan_green.specs.Span.{Span}
use Rattle.rowan_events.specs.Log.{Seen, Piece}
use Rattle.rowan_events.specs.declared.parser.SeenToken.{SeenToken}

abbrev pub piece : SeenToken → Piece
piece t = record {
  kind = t.kind.0;
  text = t.text.now;
  start = t.start;
  is_joined = t.is_joined;
  is_after_line = t.is_after_line;
}

-- these tokens, from number n on
abbrev pub pieces_from : ℕ → List SeenToken → List Piece
pieces_from n tokens = drop n (map piece tokens)

-- a parser before its first call
abbrev pub started : List Piece → Seen
started left = record { left = left; taken = 0; events = []; errors = []; is_whole = true }

abbrev pub start_of : List SeenToken → Seen
start_of tokens = started (pieces_from 0 tokens)

-- the kind of the token so many places ahead, by what raw kinds mean
abbrev pub kind_ahead : {K : Type 0} → (ℕ → K) → List Piece → ℕ → Option K
kind_ahead meaning left n = option_map (λ t. meaning t.kind) (slice_get left n)

-- whether the first token has a kind, by what raw kinds mean and when kinds are equal
abbrev pub is_at : {K : Type 0} → (ℕ → K) → (K → K → Bool) → K → List Piece → Bool
is_at meaning same kind [] = false
is_at meaning same kind (t ∷ left) = same (meaning t.kind) kind

-- whether kind number k is in the set that these bits say
abbrev pub has : ℕ → ℕ → Bool
has bits k = ltb k 128 && (bits / 2 ^ k) % 2 == 1

-- whether the first token has one of these kinds
abbrev pub is_in : (ℕ → Bool) → List Piece → Bool
is_in test [] = false
is_in test (t ∷ left) = test t.kind

abbrev pub text_of : Option Piece → List ℕ
text_of None = []
text_of (Some t) = t.text

-- the text of the token so many places ahead, or none behind the end
abbrev pub text_ahead : List Piece → ℕ → List ℕ
text_ahead left n = text_of (slice_get left n)

-- whether it halts at the first token, or there is none
abbrev pub halts_here : (ℕ → ℕ → Bool) → ℕ → List Piece → Bool
halts_here halts n [] = true
halts_here halts n (t ∷ left) = halts n t.kind

-- the level behind the first token, if there is one
abbrev pub next_here : (ℕ → ℕ → ℕ) → ℕ → List Piece → ℕ
next_here next n [] = n
next_here next n (t ∷ left) = next n t.kind

-- The range of a token. A text of more bytes than a range can say has none, and no parser.
abbrev pub range_of : Option Piece → Option Span
range_of None = None
range_of (Some t) =
    if ltb byte_limit (t.start + length t.text) then None
    else Some (record { start = t.start; end = t.start + length t.text })

-- whether a line ended before the first token
abbrev pub is_after_line : List Piece → Bool
is_after_line [] = false
is_after_line (t ∷ left) = t.is_after_line

-- whether there is a token of this kind, which touches the one before unless it is the first
abbrev pub is_next_glued : {K : Type 0} → (ℕ → K) → (K → K → Bool) → Bool → K
    → Option Piece → Bool
is_next_glued meaning same is_first kind None = false
is_next_glued meaning same is_first kind (Some t) =
    (is_first || t.is_joined) && same (meaning t.kind) kind

-- whether the first tokens have these kinds, and each but the first touches the one before
abbrev pub is_glued : {K : Type 0} → (ℕ → K) → (K → K → Bool) → Bool → List K
    → List Piece → Bool
is_glued meaning same is_first [] left = true
is_glued meaning same is_first (kind ∷ kinds) left =
    is_next_glued meaning same is_first kind (slice_get left 0)
    && is_glued meaning same false kinds (drop 1 left)
