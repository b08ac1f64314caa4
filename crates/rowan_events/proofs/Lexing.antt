-- One more token of a text.
use Rattle.std.proofs.Common.{Bor, ◌≡◌, ℕ, ◌+◌, ◌≤◌, List, [], ◌∷◌, ◌++◌, length, max, All, refl, sym, ◌∙◌, ap, subst, arith, append_assoc}
use Rattle.std.specs.Prelude.{Option, Some, None}
use Rattle.std.proofs.lemmas.List.Elements.{All-nil, All-push}
use Rattle.rowan_green.specs.declared.green.SyntaxKind.{SyntaxKind}
use Rattle.rowan_events.specs.declared.lexer.LexError.{LexError}
use Rattle.rowan_events.specs.declared.lexer.Lexeme.{Lexeme}
use Rattle.rowan_events.specs.declared.lexer.Token.{Token}
use Rattle.rowan_events.specs.Tokens.{tokens_text, IsNextEnd, IsSaid, said_of}
use Rattle.rowan_events.specs.Tokens.{AreSaid, lies_within}

pub token_said : {X : Type 0} (says : X → List ℕ → Lexeme → X → Type 0) (lexer later : X)
    (rest : List ℕ) (r : Lexeme) (asked cut : ℕ) (token : Token)
    → says lexer rest r later
    → token.kind ≡ r.kind
    → asked ≡ max r.len 1
    → IsNextEnd rest asked cut
    → length token.text.now ≡ cut
    → IsSaid says lexer rest token r.message later
token_said says lexer later rest r asked cut token said kind e ends fits =
    let P : SyntaxKind → Type 0 =
    λ k. says lexer rest (record { kind = k; len = r.len; message = r.message }) later in
    record {
      len = r.len;
      said = subst P (sym kind) said;
      cut = subst (λ end. IsNextEnd rest (max r.len 1) end) (sym fits)
          (subst (λ place. IsNextEnd rest place cut) e ends);
    }

-- what was said of tokens, from one offset to another, with what is said from there on
abbrev pub Joins : {X : Type 0} → (X → List ℕ → Lexeme → X → Type 0) → X → X → List ℕ → ℕ
    → List Token → List LexError → Type 0
Joins says first lexer rest start tokens errors = (us : List Token) (more : List LexError)
    → tokens_text us ≡ rest → AreSaid says lexer start us more
    → AreSaid says first 0 (tokens ++ us) (errors ++ more)

-- the tokens with one more
pub said_more : {X : Type 0} (says : X → List ℕ → Lexeme → X → Type 0)
    (first lexer later : X) (rest back : List ℕ) (start next : ℕ) (token : Token)
    (message : Option (Bor (List ℕ))) (tokens more : List Token) (errors noted : List LexError)
    → IsSaid says lexer rest token message later
    → token.text.now ++ back ≡ rest
    → next ≡ start + length token.text.now
    → more ≡ tokens ++ token ∷ []
    → noted ≡ errors ++ said_of message start next
    → Joins says first lexer rest start tokens errors
    → Joins says first later back next more noted
said_more says first lexer later rest back start next token message tokens more errors noted said
    whole at pushed added before others more_errors e others_said =
    let joined : tokens_text (token ∷ others) ≡ rest = ap (λ bs. token.text.now ++ bs) e ∙ whole in
    let here = said_of message start next in
    let all = before (token ∷ others) (here ++ more_errors) joined (
      later,
      message,
      more_errors,
      subst (λ bs. IsSaid says lexer bs token message later) (sym joined) said,
      ap (λ n. said_of message start n ++ more_errors) at,
      subst (λ n. AreSaid says later n others more_errors) at others_said,
    ) in
    subst (λ ts. AreSaid says first 0 ts (noted ++ more_errors))
    (sym (append_assoc tokens (token ∷ []) others) ∙ ap (λ ts. ts ++ others) (sym pushed))
    (subst (λ es. AreSaid says first 0 (tokens ++ token ∷ others) es)
    (sym (append_assoc errors here more_errors) ∙ ap (λ es. es ++ more_errors) (sym added)) all)

pub said_within : (message : Option (Bor (List ℕ))) (start end len : ℕ)
    → start ≤ end → end ≤ len → All (lies_within len) (said_of message start end)
said_within None start end len order fits = All-nil (lies_within len)
said_within (Some m) start end len order fits =
    let error : LexError = record { range = record { start = start; end = end }; message = m } in
    All-push (lies_within len) [] error (All-nil (lies_within len)) (order, fits)

-- a text of no bytes
pub no_bytes : (bs : List ℕ) → length bs ≡ 0 → [] ≡ bs
no_bytes [] e = refl
no_bytes (b ∷ bs) e = absurd (omega arith)
