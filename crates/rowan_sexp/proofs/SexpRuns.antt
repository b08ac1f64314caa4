-- Lemmas on runs of characters and on the tokens of a text.
use Rattle.std.proofs.Common.{◌≡◌, ◌≢◌, ℕ, zero, suc, ◌<◌, ◌≤◌, Bool, true, false, List, [], ◌∷◌}
use Rattle.std.proofs.Common.{◌++◌, take, drop, length, refl, sym, ap, ◌∙◌, subst, arith}
use Rattle.std.proofs.Common.{length-append, length-take-le, append_assoc, get_or, ne_eqb}
use Rattle.std.specs.Prelude.{Some}
use Rattle.std.specs.Char.{encode_utf8, is_whitespace, is_not_whitespace}
use Rattle.std.specs.List.{AllByRecursion}
use Rattle.std.specs.Str.{NoCharPasses, NonePass, encode_utf8_all, IsUtf8, IsCharBoundary}
use Rattle.std.specs.Str.Pattern.{FindsBy}
use Rattle.std.proofs.lemmas.Str.{encode_same, length-encode, len_utf8_bounds, encode_ascii}
use Rattle.std.proofs.lemmas.Str.{IsCharBoundary-after_ascii}
use Rattle.rowan_sexp.specs.Sexp.{LexedToken, IsCut, IsStopped, IsRun, IsTextOf, EndsBefore}
use Rattle.rowan_sexp.specs.Sexp.{IsToken, AreApart, IsLexed, are_one, tokens_text, is_delimiter}
use Rattle.rowan_sexp.specs.declared.sexp.lang.SyntaxKind.{SyntaxKind}
use Rattle.rowan_sexp.specs.declared.sexp.lang.SyntaxKind.TheVariants.{WORD, WHITESPACE}

-- where a search for a character that passes the test stops, such a character begins
pub stopped_from_find : (ends : ℕ → Bool) (text : List ℕ) (from to : ℕ)
    → FindsBy ends text (Some (from, to)) → IsStopped ends (drop from text)
stopped_from_find ends text from to found =
    λ _. (found.1.0, drop to text, found.1.1, found.1.2.split)

-- a text that begins with a character is not empty
pub nonempty_from_char : (text rest : List ℕ) (c : ℕ) → text ≡ encode_utf8 c ++ rest
    → 0 < length text
nonempty_from_char text rest c begins =
    let sizes = len_utf8_bounds c in
    omega (arith, length-append (encode_utf8 c) rest, length-encode c, ap length begins, sizes.0)

-- a text that begins with a character that fails the test does not stop there
pub goes_on : (ends : ℕ → Bool) (text rest : List ℕ) (c : ℕ) → text ≡ encode_utf8 c ++ rest
    → ends c ≡ false → IsStopped ends text → ⊥
goes_on ends text rest c begins fails stopped =
    let next = stopped (nonempty_from_char text rest c begins) in
    let same : c ≡ next.0 = (encode_same c next.0 rest next.1 (sym begins ∙ next.3)).0 in
    let passes : ends c ≡ true = ap ends same ∙ next.2 in
    cc

-- a run up to where the text stops has a character, if the text's first is one of the run
pub run_from_first : (ends : ℕ → Bool) (text rest : List ℕ) (c len : ℕ)
    → text ≡ encode_utf8 c ++ rest → ends c ≡ false → len ≤ length text
    → NoCharPasses ends (take len text) → IsStopped ends (drop len text)
    → IsRun ends (take len text)
run_from_first ends text rest c zero begins fails small inside stopped =
    absurd (goes_on ends text rest c begins fails stopped)
run_from_first ends text rest c (suc len) begins fails small inside stopped = record {
  nonempty = omega (arith, length-take-le (suc len) text small);
  inside = inside;
}

-- the first character of a run fails the test
pub first_of_run : (ends : ℕ → Bool) (text : List ℕ) → IsRun ends text
    → (c : ℕ) × (rest : List ℕ) × (text ≡ encode_utf8 c ++ rest) × (ends c ≡ false)
first_of_run ends text run = first run.inside.0 run.inside.1 run.inside.2
  where
    first : (cs : List ℕ) → encode_utf8_all cs ≡ text → NonePass ends cs
        → (c : ℕ) × (rest : List ℕ) × (text ≡ encode_utf8 c ++ rest) × (ends c ≡ false)
    first [] spelt none = absurd (omega (arith, run.nonempty, ap length spelt))
    first (c ∷ cs) spelt none = (c, encode_utf8_all cs, sym spelt, none.0)

-- where a text stops, no run begins
no_run : (ends : ℕ → Bool) (rest text more : List ℕ) → rest ≡ text ++ more → IsStopped ends rest
    → IsRun ends text → ⊥
no_run ends rest text more whole stopped run =
    let first = first_of_run ends text run in
    goes_on ends rest (first.1 ++ more) first.0
    (whole ∙ ap (λ t. t ++ more) first.2 ∙ append_assoc (encode_utf8 first.0) first.1 more) first.3
    stopped

-- cutting off one token after the other gives these tokens, and leaves nothing
abbrev pub IsCutInto : List ℕ → List LexedToken → Type 0
IsCutInto text [] = text ≡ []
IsCutInto text (token ∷ tokens) = (rest : List ℕ) × IsCut text token rest × IsCutInto rest tokens

-- a token ends before its neighbour, which is no more of it
apart_next : (kind next : SyntaxKind) (rest text more : List ℕ) → rest ≡ text ++ more
    → EndsBefore kind rest → IsTextOf next text → are_one kind next ≡ false
apart_next WORD WORD rest text more whole ends fit =
    absurd (no_run is_delimiter rest text more whole ends fit)
apart_next WHITESPACE WHITESPACE rest text more whole ends fit =
    absurd (no_run is_not_whitespace rest text more whole ends fit)
apart_next _ _ rest text more whole ends fit = refl

-- what the tokens of a text are, from cutting them off one after the other
joined_of : (text : List ℕ) (tokens : List LexedToken) → IsCutInto text tokens
    → tokens_text tokens ≡ text
joined_of text [] cuts = sym cuts
joined_of text (token ∷ tokens) cuts = ap (λ t. token.1.now ++ t) (joined_of cuts.0 tokens cuts.2)
    ∙ sym cuts.1.whole

each_of : (text : List ℕ) (tokens : List LexedToken) → IsCutInto text tokens
    → AllByRecursion IsToken tokens
each_of text [] cuts = tt
each_of text (token ∷ tokens) cuts = (cuts.1.fit, each_of cuts.0 tokens cuts.2)

apart_of : (text : List ℕ) (tokens : List LexedToken) → IsCutInto text tokens → AreApart tokens
apart_of text [] cuts = tt
apart_of text (token ∷ []) cuts = tt
apart_of text (token ∷ next ∷ tokens) cuts = (
  apart_next token.0 next.0 cuts.0 next.1.now cuts.2.0 cuts.2.1.whole cuts.1.longest cuts.2.1.fit,
  apart_of cuts.0 (next ∷ tokens) cuts.2,
)

pub lexed_from_cuts : (text : List ℕ) (tokens : List LexedToken) → IsCutInto text tokens
    → IsLexed text tokens
lexed_from_cuts text tokens cuts = record {
  whole = joined_of text tokens cuts;
  each = each_of text tokens cuts;
  apart = apart_of text tokens cuts;
}

-- a text that begins with an ASCII character may be cut behind it
pub ascii_first : (text rest : List ℕ) (c : ℕ) → IsUtf8 text → text ≡ encode_utf8 c ++ rest
    → c < 128 → IsCharBoundary text 1 × (take 1 text ≡ c ∷ [])
ascii_first text rest c utf8 begins small =
    let seen : text ≡ c ∷ rest = begins ∙ ap (λ t. t ++ rest) (encode_ascii c small) in
    let first : get_or text 0 0 ≡ c = ap (λ t. get_or t 0 0) seen in (
      IsCharBoundary-after_ascii text 0 utf8 (nonempty_from_char text rest c begins)
          (omega (arith, first)),
      ap (take 1) seen,
    )

-- a character that begins no other token begins a word
pub word_begins : (c : ℕ) → c ≢ 40 → c ≢ 41 → is_whitespace c ≡ false → is_delimiter c ≡ false
word_begins c not_open not_close not_white =
    rw (ne_eqb c 40 not_open, ne_eqb c 41 not_close) not_white

-- what is left after one more token is cut off, with that token among the tokens
pub one_more : (text rest left : List ℕ) (tokens more : List LexedToken) (token : LexedToken)
    → IsCut rest token left → more ≡ tokens ++ (token ∷ [])
    → ((others : List LexedToken) → IsCutInto rest others → IsCutInto text (tokens ++ others))
    → (others : List LexedToken) → IsCutInto left others → IsCutInto text (more ++ others)
one_more text rest left tokens more token cut grown so_far others cuts =
    subst (IsCutInto text) (sym (ap (λ ts. ts ++ others) grown
    ∙ append_assoc tokens (token ∷ []) others)) (so_far (token ∷ others) (left, cut, cuts))
