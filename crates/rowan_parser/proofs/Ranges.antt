-- Where the tokens that are no trivia stand in their text.
use Rattle.std.proofs.Common.{◌≡◌, ℕ, ◌+◌, ◌≤◌, Bool, true, false, cond, List, [], ◌∷◌, ◌++◌, map, length, drop, sym, ◌∙◌, ap, ap₂, arith, append_assoc, append-nil, length-append}
use Rattle.std.specs.Prelude.{string_bytes}
use Rattle.std.proofs.lemmas.List.{map-append, drop_all}
use Rattle.rowan_green.specs.Span.{Span}
use Rattle.rowan_parser.specs.Events.{is_trivia}
use Rattle.rowan_parser.specs.Parsing.{Error, error_value, error_of, lexer_error}
use Rattle.rowan_parser.specs.Parsing.{ranges_from, range_at}
use Rattle.rowan_events.specs.Tokens.{tokens_text}
use Rattle.rowan_events.specs.Told.{Told}
use Rattle.rowan_events.specs.declared.lexer.LexError.{LexError}
use Rattle.rowan_events.specs.declared.lexer.Token.{Token}
use Rattle.rowan_lines.specs.declared.syntax_error.SyntaxError.{SyntaxError}
use Rattle.rowan_events.specs.declared.parser.Spot.{Spot}
use Rattle.rowan_parser.specs.declared.tree.Trivia.{Trivia}

abbrev pub span : ℕ → ℕ → Span
span start end = record { start = start; end = end }

-- one token on
pub ranges_more : (trivia : Trivia) (tokens rest others : List Token) (start next : ℕ) (t : Token)
    (range : Span) (b : Bool) (old new : List Span)
    → rest ≡ t ∷ others
    → next ≡ start + length t.text.now
    → range ≡ record { start = start; end = next }
    → b ≡ is_trivia trivia t
    → new ≡ old ++ cond b [] (range ∷ [])
    → old ++ ranges_from start trivia rest ≡ ranges_from 0 trivia tokens
    → new ++ ranges_from next trivia others ≡ ranges_from 0 trivia tokens
ranges_more trivia tokens rest others start next t range b old new first e is kind pushed so_far =
    by b kind pushed
  where
    here : Bool → List Span
    here c = cond c (ranges_from (start + length t.text.now) trivia others)
        (record { start = start; end = start + length t.text.now }
        ∷ ranges_from (start + length t.text.now) trivia others)

    same : ranges_from next trivia others ≡ ranges_from (start + length t.text.now) trivia others
    same = ap (λ n. ranges_from n trivia others) e

    before : old ++ here (is_trivia trivia t) ≡ ranges_from 0 trivia tokens
    before = ap (λ us. old ++ ranges_from start trivia us) (sym first) ∙ so_far

    by : (c : Bool) → c ≡ is_trivia trivia t → new ≡ old ++ cond c [] (range ∷ []) → new ++
        ranges_from next trivia others ≡ ranges_from 0 trivia tokens
    by true kind pushed =
        ap (λ s. s ++ ranges_from next trivia others) (pushed ∙ append-nil old)
        ∙ ap (λ s. old ++ s) same
        ∙ ap (λ c. old ++ here c) kind
        ∙ before
    by false kind pushed =
        ap (λ s. s ++ ranges_from next trivia others) pushed
        ∙ append_assoc old (range ∷ []) (ranges_from next trivia others)
        ∙ ap (λ s. old ++ range ∷ s) same
        ∙ ap (λ (r : Span). old ++ r ∷ ranges_from (start + length t.text.now) trivia others)
        (is ∙ ap (λ n. record { start = start; end = n }) e)
        ∙ ap (λ c. old ++ here c) kind
        ∙ before

-- behind the last token
pub ranges_end : (trivia : Trivia) (tokens : List Token) (start i : ℕ) (ranges : List Span)
    → length tokens ≤ i
    → ranges ++ ranges_from start trivia (drop i tokens) ≡ ranges_from 0 trivia tokens
    → ranges ≡ ranges_from 0 trivia tokens
ranges_end trivia tokens start i ranges none so_far =
    sym (append-nil ranges)
    ∙ ap (λ us. ranges ++ ranges_from start trivia us) (sym (drop_all i tokens none))
    ∙ so_far

pub left_more : (rest others : List Token) (t : Token) (start all : ℕ) → rest ≡ t ∷ others → start +
    length (tokens_text rest) ≡ all → (start + length t.text.now) + length (tokens_text others) ≡ all
left_more rest others t start all first e =
    omega (
      arith,
      e,
      ap (λ us. length (tokens_text us)) first,
      length-append t.text.now (tokens_text others),
    )

-- ---- errors

abbrev error_by : List ℕ → Span → Error
error_by message range = record { message = message; range = range }

-- the error that is made of a complaint
pub told_is : (trivia : Trivia) (tokens : List Token) (told : Told) (error : SyntaxError)
    (place : ℕ) (spot : Spot) (ranges : List Span)
    → record { place = place; spot = spot; message = string_bytes error.message } ≡ told
    → ranges ≡ ranges_from 0 trivia tokens
    → error.range ≡ range_at ranges place spot
    → error_value error ≡ error_of trivia tokens told
told_is trivia tokens told error place spot ranges view are is =
    let all = ranges_from 0 trivia tokens in
    ap₂ error_by (ap (λ (t : Told). t.message) view)
    (is ∙ ap (λ rs. range_at rs place spot) are
    ∙ ap (λ (t : Told). range_at all t.place t.spot) view)

pub told_more : (trivia : Trivia) (tokens : List Token) (told : Told) (error : SyntaxError)
    (left others : List Told) (old new : List SyntaxError) (all : List Error)
    → left ≡ told ∷ others
    → new ≡ old ++ error ∷ []
    → error_value error ≡ error_of trivia tokens told
    → map error_value old ++ map (error_of trivia tokens) left ≡ all
    → map error_value new ++ map (error_of trivia tokens) others ≡ all
told_more trivia tokens told error left others old new all first pushed is so_far =
    ap (λ es. map error_value es ++ map (error_of trivia tokens) others) pushed
    ∙ ap (λ vs. vs ++ map (error_of trivia tokens) others) (map-append error_value old (error ∷ []))
    ∙ append_assoc (map error_value old) (error_value error ∷ []) (map (error_of trivia tokens) others)
    ∙ ap (λ v. map error_value old ++ v ∷ map (error_of trivia tokens) others) is
    ∙ ap (λ ts. map error_value old ++ map (error_of trivia tokens) ts) (sym first)
    ∙ so_far

pub told_end : (trivia : Trivia) (tokens : List Token) (left : List Told) (old : List SyntaxError)
    (all : List Error)
    → length left ≡ 0
    → map error_value old ++ map (error_of trivia tokens) left ≡ all
    → map error_value old ≡ all
told_end trivia tokens (t ∷ left) old all none so_far = absurd (omega (arith, none))
told_end trivia tokens [] old all none so_far = sym (append-nil (map error_value old)) ∙ so_far

-- ---- what the lexer said

pub lexer_more : (told : LexError) (error : SyntaxError) (left others : List LexError)
    (old new : List SyntaxError) (all : List Error)
    → left ≡ told ∷ others
    → new ≡ old ++ error ∷ []
    → error_value error ≡ lexer_error told
    → map error_value old ++ map lexer_error left ≡ all
    → map error_value new ++ map lexer_error others ≡ all
lexer_more told error left others old new all first pushed is so_far =
    ap (λ es. map error_value es ++ map lexer_error others) pushed
    ∙ ap (λ vs. vs ++ map lexer_error others) (map-append error_value old (error ∷ []))
    ∙ append_assoc (map error_value old) (error_value error ∷ []) (map lexer_error others)
    ∙ ap (λ v. map error_value old ++ v ∷ map lexer_error others) is
    ∙ ap (λ ts. map error_value old ++ map lexer_error ts) (sym first)
    ∙ so_far

pub lexer_end : (told : List LexError) (errors : List SyntaxError) (i : ℕ) (all : List Error)
    → length told ≤ i
    → map error_value errors ++ map lexer_error (drop i told) ≡ all
    → map error_value errors ≡ all
lexer_end told errors i all none so_far =
    sym (append-nil (map error_value errors))
    ∙ ap (λ es. map error_value errors ++ map lexer_error es) (sym (drop_all i told none))
    ∙ so_far
