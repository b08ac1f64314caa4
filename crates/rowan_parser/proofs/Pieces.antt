-- What a grammar sees of tokens, one token on.
use Rattle.std.proofs.Common.{◌≡◌, ℕ, ◌+◌, ◌≤◌, ◌||◌, Bool, true, false, cond, List, [], ◌∷◌, ◌++◌, map, length, drop, sym, ◌∙◌, ap, append_assoc, append-nil}
use Rattle.std.proofs.lemmas.List.{map-append, drop_all}
use Rattle.rowan_parser.specs.Events.{is_trivia}
use Rattle.rowan_events.specs.Log.{Piece}
use Rattle.rowan_parser.specs.Parsing.{has_line_end, pieces_since}
use Rattle.rowan_events.specs.Seen.{piece}
use Rattle.rowan_events.specs.declared.lexer.Token.{Token}
use Rattle.rowan_events.specs.declared.parser.SeenToken.{SeenToken}
use Rattle.rowan_parser.specs.declared.tree.Trivia.{Trivia}

abbrev here : Bool → ℕ → Bool → Bool → Trivia → Token → List Token → List Piece
here trivial start joined line trivia t others =
    let next = start + length t.text.now in
    cond trivial
    (pieces_since next false (line || has_line_end t.text.now) trivia others)
    (record {
      kind = t.kind.0;
      text = t.text.now;
      start = start;
      is_joined = joined;
      is_after_line = line;
    } ∷ pieces_since next true false trivia others)

pub passed_over : (seen : List SeenToken) (start next : ℕ) (joined line later : Bool)
    (trivia : Trivia) (t : Token) (others : List Token)
    → true ≡ is_trivia trivia t
    → next ≡ start + length t.text.now
    → later ≡ (line || has_line_end t.text.now)
    → map piece seen ++ pieces_since next false later trivia others
    ≡ map piece seen ++ pieces_since start joined line trivia (t ∷ others)
passed_over seen start next joined line later trivia t others is at e =
    ap (λ b. map piece seen ++ pieces_since next false b trivia others) e
    ∙ ap (λ n. map piece seen ++ pieces_since n false (line || has_line_end t.text.now) trivia
    others) at
    ∙ ap (λ b. map piece seen ++ here b start joined line trivia t others) is

pub seen_more : (old new : List SeenToken) (token : SeenToken) (start next : ℕ)
    (joined line : Bool) (trivia : Trivia) (t : Token) (others : List Token)
    → false ≡ is_trivia trivia t
    → next ≡ start + length t.text.now
    → new ≡ old ++ token ∷ []
    → piece token
    ≡ record {
      kind = t.kind.0;
      text = t.text.now;
      start = start;
      is_joined = joined;
      is_after_line = line;
    }
    → map piece new ++ pieces_since next true false trivia others
    ≡ map piece old ++ pieces_since start joined line trivia (t ∷ others)
seen_more old new token start next joined line trivia t others is at pushed same =
    let end = start + length t.text.now in
    ap (λ n. map piece new ++ pieces_since n true false trivia others) at
    ∙ ap (λ ts. map piece ts ++ pieces_since end true false trivia others) pushed
    ∙ ap (λ ps. ps ++ pieces_since end true false trivia others)
    (map-append piece old (token ∷ []))
    ∙ append_assoc (map piece old) (piece token ∷ []) (pieces_since end true false trivia others)
    ∙ ap (λ p. map piece old ++ p ∷ pieces_since end true false trivia others) same
    ∙ ap (λ b. map piece old ++ here b start joined line trivia t others) is

pub seen_all : (seen : List SeenToken) (start : ℕ) (joined line : Bool) (trivia : Trivia)
    (ts : List Token) (i : ℕ) (all : List Piece)
    → length ts ≤ i
    → map piece seen ++ pieces_since start joined line trivia (drop i ts) ≡ all
    → map piece seen ≡ all
seen_all seen start joined line trivia ts i all none so_far =
    sym (append-nil (map piece seen))
    ∙ ap (λ us. map piece seen ++ pieces_since start joined line trivia us)
    (sym (drop_all i ts none))
    ∙ so_far
