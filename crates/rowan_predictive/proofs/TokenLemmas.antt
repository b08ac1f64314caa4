-- The tokens of a text that are no trivia, one after the other.
use Rattle.std.proofs.Common.{◌≡◌, ℕ, ◌≤◌, Bool, true, false, cond, not, List, [], ◌∷◌, ◌++◌, map, length, drop, sym, ◌∙◌, ap, refl, append_assoc, append-nil}
use Rattle.std.proofs.lemmas.List.{map-append, drop_all}
use Rattle.rowan_parser.specs.Events.{is_trivia, seen}
use Rattle.rowan_parser.specs.Parsing.{Error, error_value}
use Rattle.rowan_events.specs.declared.lexer.Token.{Token}
use Rattle.rowan_lines.specs.declared.syntax_error.SyntaxError.{SyntaxError}
use Rattle.rowan_parser.specs.declared.tree.Trivia.{Trivia}
use Rattle.rowan_predictive.specs.Parsing.{kinds_of}

by-first : (b : Bool) (t : Token) (others : List Token)
    → map (λ token. token.kind.0) (cond (not b) (t ∷ others) others)
    ≡ cond b [] (t.kind.0 ∷ []) ++ map (λ token. token.kind.0) others
by-first true t others = refl
by-first false t others = refl

-- one token on
pub kinds-more : (trivia : Trivia) (tokens rest others : List Token) (t : Token) (b : Bool) (old new : List ℕ)
    → rest ≡ t ∷ others → b ≡ is_trivia trivia t
    → new ≡ old ++ cond b [] (t.kind.0 ∷ [])
    → old ++ kinds_of trivia rest ≡ kinds_of trivia tokens
    → new ++ kinds_of trivia others ≡ kinds_of trivia tokens
kinds-more trivia tokens rest others t b old new first kind pushed so_far =
    ap (λ (ks : List ℕ). ks ++ kinds_of trivia others) pushed
    ∙ append_assoc old (cond b [] (t.kind.0 ∷ [])) (kinds_of trivia others)
    ∙ ap (λ (c : Bool). old ++ (cond c [] (t.kind.0 ∷ []) ++ kinds_of trivia others)) kind
    ∙ ap (λ (ks : List ℕ). old ++ ks) (sym (by-first (is_trivia trivia t) t (seen trivia others)))
    ∙ ap (λ (ts : List Token). old ++ kinds_of trivia ts) (sym first)
    ∙ so_far

-- behind the last token
pub kinds-end : (trivia : Trivia) (tokens : List Token) (i : ℕ) (kinds : List ℕ)
    → length tokens ≤ i
    → kinds ++ kinds_of trivia (drop i tokens) ≡ kinds_of trivia tokens
    → kinds ≡ kinds_of trivia tokens
kinds-end trivia tokens i kinds none so_far =
    sym (append-nil kinds)
    ∙ ap (λ (ts : List Token). kinds ++ kinds_of trivia ts) (sym (drop_all i tokens none))
    ∙ so_far

-- ---- the errors of complaints

module _ {C : Type 0} (error : C → Error) where
  pub errors-more : (c : C) (e : SyntaxError) (left others : List C) (old new : List SyntaxError) (all : List Error)
      → left ≡ c ∷ others → new ≡ old ++ e ∷ [] → error_value e ≡ error c
      → map error_value old ++ map error left ≡ all
      → map error_value new ++ map error others ≡ all
  errors-more c e left others old new all first pushed is so_far =
      ap (λ (es : List SyntaxError). map error_value es ++ map error others) pushed
      ∙ ap (λ (vs : List Error). vs ++ map error others) (map-append error_value old (e ∷ []))
      ∙ append_assoc (map error_value old) (error_value e ∷ []) (map error others)
      ∙ ap (λ (v : Error). map error_value old ++ v ∷ map error others) is
      ∙ ap (λ (cs : List C). map error_value old ++ map error cs) (sym first)
      ∙ so_far

  pub errors-end : (told : List C) (errors : List SyntaxError) (i : ℕ) (all : List Error)
      → length told ≤ i
      → map error_value errors ++ map error (drop i told) ≡ all
      → map error_value errors ≡ all
  errors-end told errors i all none so_far =
      sym (append-nil (map error_value errors))
      ∙ ap (λ (cs : List C). map error_value errors ++ map error cs) (sym (drop_all i told none))
      ∙ so_far
