-- The tokens of a text: there is one list of them, since each token's first character says its
-- kind, and it is as long as can be.
use Rattle.std.proofs.Common.{◌≡◌, ◌≢◌, ℕ, ◌<◌, Bool, true, false, List, [], ◌∷◌, ◌++◌, length}
use Rattle.std.proofs.Common.{refl, sym, ap, ◌∙◌, subst, arith, length-append, append_assoc, ne_eqb}
use Rattle.std.proofs.lemmas.Bool.{eqb-true}
use Rattle.std.proofs.lemmas.List.{append-nil, append_cancel_left}
use Rattle.std.specs.Prelude.{◌==◌, ◌||◌, not, if◌then◌else◌}
use Rattle.std.specs.Char.{encode_utf8, is_whitespace, is_not_whitespace}
use Rattle.std.specs.List.{AllByRecursion}
use Rattle.std.specs.Str.{NoCharPasses, NonePass, encode_utf8_all, IsUtf8}
use Rattle.std.proofs.lemmas.Str.{encode_same, encode_ascii}
use Rattle.rowan_green.specs.Term.{NodeTerm, token_of}
use Rattle.rowan_sexp.specs.Grammar.{IsSexp, IsParse, token_terms}
use Rattle.rowan_sexp.specs.Sexp.{LexedToken, IsCut, IsStopped, IsRun, IsTextOf, EndsBefore}
use Rattle.rowan_sexp.specs.Sexp.{IsToken, AreApart, IsLexed, are_one, tokens_text, is_delimiter}
use Rattle.rowan_sexp.specs.Sexp.{number_of}
use Rattle.rowan_sexp.specs.declared.sexp.lang.SyntaxKind.{SyntaxKind}
use Rattle.rowan_sexp.specs.declared.sexp.lang.SyntaxKind.TheVariants.{L_PAREN, R_PAREN, WORD}
use Rattle.rowan_sexp.specs.declared.sexp.lang.SyntaxKind.TheVariants.{WHITESPACE, ERROR, LIST}
use Rattle.rowan_sexp.specs.declared.sexp.lang.SyntaxKind.TheVariants.{ATOM, ROOT}
use Rattle.rowan_sexp.proofs.GrammarLemmas.{sexp_exists, sexp-unique}
use Rattle.rowan_sexp.proofs.ParsingLemmas.{IsTextOf-some}
use Rattle.rowan_sexp.proofs.SexpRuns.{IsCutInto, first_of_run, goes_on, nonempty_from_char}

-- ---- the kind of a token, by its first character

abbrev kind_by : Bool → Bool → Bool → SyntaxKind
kind_by opens closes white = if opens then L_PAREN else
    (if closes then R_PAREN else (if white then WHITESPACE else WORD))

abbrev kind_from : ℕ → SyntaxKind
kind_from c = kind_by (c == 40) (c == 41) (is_whitespace c)

by_word : (a b w : Bool) → (a || b) || w ≡ false → kind_by a b w ≡ WORD
by_word true b w h = absurd (cc)
by_word false true w h = absurd (cc)
by_word false false true h = absurd (cc)
by_word false false false h = refl

-- a parenthesis is no white space
not_white : (c d : ℕ) → is_whitespace d ≡ false → is_whitespace c ≡ true → c ≢ d
not_white c d dark white = λ e. let both : is_whitespace c ≡ is_whitespace d =
    ap is_whitespace e in cc

by_white : (c : ℕ) → is_whitespace c ≡ true → kind_from c ≡ WHITESPACE
by_white c h =
    ap (λ a. kind_by a (c == 41) (is_whitespace c)) (ne_eqb c 40 (not_white c 40 refl h))
    ∙ ap (λ b. kind_by false b (is_whitespace c)) (ne_eqb c 41 (not_white c 41 refl h))
    ∙ ap (λ w. kind_by false false w) h

not_false : (b : Bool) → not b ≡ false → b ≡ true
not_false true h = refl
not_false false h = absurd (cc)

-- the text begins with a character, which says the kind
record BeginsAs (kind : SyntaxKind) (text : List ℕ) : Type 0 where
  first : ℕ
  others : List ℕ
  begins : text ≡ encode_utf8 first ++ others
  says : kind_from first ≡ kind

ascii_begins : (text : List ℕ) (c : ℕ) → c < 128 → text ≡ c ∷ [] → text ≡ encode_utf8 c ++ []
ascii_begins text c small e = e ∙ ap (λ t. t ++ []) (sym (encode_ascii c small))

begins_as : (kind : SyntaxKind) (text : List ℕ) → IsTextOf kind text → BeginsAs kind text
begins_as L_PAREN text h = record {
  first = 40;
  others = [];
  begins = ascii_begins text 40 (omega arith) h;
  says = refl;
}
begins_as R_PAREN text h = record {
  first = 41;
  others = [];
  begins = ascii_begins text 41 (omega arith) h;
  says = refl;
}
begins_as WORD text h =
    let run = first_of_run is_delimiter text h in
    record {
      first = run.0;
      others = run.1;
      begins = run.2;
      says = by_word (run.0 == 40) (run.0 == 41) (is_whitespace run.0) run.3;
    }
begins_as WHITESPACE text h =
    let run = first_of_run is_not_whitespace text h in
    record {
      first = run.0;
      others = run.1;
      begins = run.2;
      says = by_white run.0 (not_false (is_whitespace run.0) run.3);
    }
begins_as ERROR text h = absurd h
begins_as LIST text h = absurd h
begins_as ATOM text h = absurd h
begins_as ROOT text h = absurd h

-- tokens with which one text begins have one kind
one_kind : (k l : SyntaxKind) (s t r u : List ℕ) → s ++ r ≡ t ++ u → IsTextOf k s → IsTextOf l t
    → k ≡ l
one_kind k l s t r u e h g =
    let a = begins_as k s h in
    let b = begins_as l t g in
    let left : s ++ r ≡ encode_utf8 a.first ++ (a.others ++ r) = ap (λ v. v ++ r) a.begins
    ∙ append_assoc (encode_utf8 a.first) a.others r in
    let right : t ++ u ≡ encode_utf8 b.first ++ (b.others ++ u) = ap (λ v. v ++ u) b.begins
    ∙ append_assoc (encode_utf8 b.first) b.others u in
    let same = encode_same a.first b.first (a.others ++ r) (b.others ++ u) (sym left ∙ e ∙ right) in
    sym a.says ∙ ap kind_from same.0 ∙ b.says

-- ---- how long a token is

one_run : (ends : ℕ → Bool) (cs ds r u : List ℕ) → encode_utf8_all cs ++ r ≡ encode_utf8_all ds ++ u
    → NonePass ends cs → NonePass ends ds → IsStopped ends r → IsStopped ends u
    → encode_utf8_all cs ≡ encode_utf8_all ds
one_run ends [] [] r u e h g p q = refl
one_run ends [] (d ∷ ds) r u e h g p q =
    absurd (goes_on ends r (encode_utf8_all ds ++ u) d
    (e ∙ append_assoc (encode_utf8 d) (encode_utf8_all ds) u) g.0 p)
one_run ends (c ∷ cs) [] r u e h g p q =
    absurd (goes_on ends u (encode_utf8_all cs ++ r) c
    (sym e ∙ append_assoc (encode_utf8 c) (encode_utf8_all cs) r) h.0 q)
one_run ends (c ∷ cs) (d ∷ ds) r u e h g p q =
    let both = encode_same c d (encode_utf8_all cs ++ r) (encode_utf8_all ds ++ u)
    (sym (append_assoc (encode_utf8 c) (encode_utf8_all cs) r) ∙ e
    ∙ append_assoc (encode_utf8 d) (encode_utf8_all ds) u) in
    ap (λ x. encode_utf8 x ++ encode_utf8_all cs) both.0
    ∙ ap (λ v. encode_utf8 d ++ v) (one_run ends cs ds r u both.1 h.1 g.1 p q)

same_run : (ends : ℕ → Bool) (s t r u : List ℕ) → s ++ r ≡ t ++ u → NoCharPasses ends s
    → NoCharPasses ends t → IsStopped ends r → IsStopped ends u → s ≡ t
same_run ends s t r u e h g p q = sym h.1
    ∙ one_run ends h.0 g.0 r u (ap (λ v. v ++ r) h.1 ∙ e ∙ ap (λ v. v ++ u) (sym g.1)) h.2 g.2 p q
    ∙ g.1

one_text : (kind : SyntaxKind) (s t r u : List ℕ) → s ++ r ≡ t ++ u → IsTextOf kind s
    → IsTextOf kind t → EndsBefore kind r → EndsBefore kind u → s ≡ t
one_text L_PAREN s t r u e h g p q = h ∙ sym g
one_text R_PAREN s t r u e h g p q = h ∙ sym g
one_text WORD s t r u e h g p q = same_run is_delimiter s t r u e h.inside g.inside p q
one_text WHITESPACE s t r u e h g p q = same_run is_not_whitespace s t r u e h.inside g.inside p q
one_text ERROR s t r u e h g p q = absurd h
one_text LIST s t r u e h g p q = absurd h
one_text ATOM s t r u e h g p q = absurd h
one_text ROOT s t r u e h g p q = absurd h

-- ---- tokens cut off one after the other

not_empty : (text : List ℕ) (token : LexedToken) (rest : List ℕ) → text ≡ [] → IsCut text token rest
    → ⊥
not_empty text token rest e cut = omega (
  arith,
  ap length e,
  ap length cut.whole,
  length-append token.1.now rest,
  IsTextOf-some token.0 token.1.now cut.fit,
)

same_cuts : (text : List ℕ) (xs ys : List LexedToken) → IsCutInto text xs → IsCutInto text ys
    → token_terms xs ≡ token_terms ys
same_cuts text [] [] h g = refl
same_cuts text [] (y ∷ ys) h g = absurd (not_empty text y g.0 h g.1)
same_cuts text (x ∷ xs) [] h g = absurd (not_empty text x h.0 g h.1)
same_cuts text (x ∷ xs) (y ∷ ys) h g =
    let e : x.1.now ++ h.0 ≡ y.1.now ++ g.0 = sym h.1.whole ∙ g.1.whole in
    let kind : x.0 ≡ y.0 = one_kind x.0 y.0 x.1.now y.1.now h.0 g.0 e h.1.fit g.1.fit in
    let same : x.1.now ≡ y.1.now = one_text y.0 x.1.now y.1.now h.0 g.0 e
    (subst (λ k. IsTextOf k x.1.now) kind h.1.fit) g.1.fit
    (subst (λ k. EndsBefore k h.0) kind h.1.longest) g.1.longest in
    let rest : h.0 ≡ g.0 = append_cancel_left y.1.now h.0 g.0 (ap (λ v. v ++ h.0) (sym same) ∙ e) in
    ap (λ k. token_of (number_of k) x.1.now ∷ token_terms xs) kind
    ∙ ap (λ s. token_of (number_of y.0) s ∷ token_terms xs) same
    ∙ ap (λ ts. token_of (number_of y.0) y.1.now ∷ ts)
    (same_cuts g.0 xs ys (subst (λ v. IsCutInto v xs) rest h.2) g.2)

-- ---- the tokens of a text are cut off one after the other

ends_at_end : (kind : SyntaxKind) → EndsBefore kind []
ends_at_end WORD = λ some. absurd (omega (arith, some))
ends_at_end WHITESPACE = λ some. absurd (omega (arith, some))
ends_at_end L_PAREN = tt
ends_at_end R_PAREN = tt
ends_at_end ERROR = tt
ends_at_end LIST = tt
ends_at_end ATOM = tt
ends_at_end ROOT = tt

ends_word : (a b w : Bool) (kind : SyntaxKind) → kind_by a b w ≡ kind → are_one WORD kind ≡ false
    → (a || b) || w ≡ true
ends_word true b w kind says apart = refl
ends_word false true w kind says apart = refl
ends_word false false true kind says apart = refl
ends_word false false false kind says apart =
    absurd (let one : true ≡ are_one WORD kind = ap (are_one WORD) says in let wrong : true
    ≡ false = one ∙ apart in cc)

ends_white : (c : ℕ) (kind : SyntaxKind) → kind_from c ≡ kind → are_one WHITESPACE kind ≡ false
    → is_not_whitespace c ≡ true
ends_white c kind says apart = by_test (is_whitespace c) refl
  where
    by_test : (w : Bool) → is_whitespace c ≡ w → is_not_whitespace c ≡ true
    by_test false e = ap not e
    by_test true e = absurd (let one : true
        ≡ are_one WHITESPACE kind = ap (are_one WHITESPACE)
        (sym (by_white c e) ∙ says) in let wrong : true ≡ false = one ∙ apart in cc)

ends_by_next : (kind next : SyntaxKind) (text more : List ℕ) → IsTextOf next text
    → are_one kind next ≡ false → EndsBefore kind (text ++ more)
ends_by_next WORD next text more h apart =
    let b = begins_as next text h in
    λ _. (
      b.first,
      b.others ++ more,
      ends_word (b.first == 40) (b.first == 41)
          (is_whitespace b.first) next b.says apart,
      ap (λ v. v ++ more) b.begins
          ∙ append_assoc (encode_utf8 b.first) b.others more,
    )
ends_by_next WHITESPACE next text more h apart =
    let b = begins_as next text h in
    λ _. (
      b.first,
      b.others ++ more,
      ends_white b.first next b.says apart,
      ap (λ v. v ++ more) b.begins ∙ append_assoc (encode_utf8 b.first) b.others more,
    )
ends_by_next L_PAREN next text more h apart = tt
ends_by_next R_PAREN next text more h apart = tt
ends_by_next ERROR next text more h apart = tt
ends_by_next LIST next text more h apart = tt
ends_by_next ATOM next text more h apart = tt
ends_by_next ROOT next text more h apart = tt

cuts_from_lexed : (text : List ℕ) (tokens : List LexedToken) → tokens_text tokens ≡ text
    → AllByRecursion IsToken tokens → AreApart tokens → IsCutInto text tokens
cuts_from_lexed text [] whole each apart = sym whole
cuts_from_lexed text (x ∷ []) whole each apart =
    ([], record { whole = sym whole; fit = each.0; longest = ends_at_end x.0 }, refl)
cuts_from_lexed text (x ∷ y ∷ ys) whole each apart = (
  tokens_text (y ∷ ys),
  record {
    whole = sym whole;
    fit = each.0;
    longest = ends_by_next x.0 y.0 y.1.now (tokens_text ys) each.1.0 apart.0;
  },
  cuts_from_lexed (tokens_text (y ∷ ys)) (y ∷ ys) refl each.1 apart.1,
)

pub lexed-unique : (text : List ℕ) (xs ys : List LexedToken) → IsLexed text xs → IsLexed text ys
    → token_terms xs ≡ token_terms ys
lexed-unique text xs ys h g = same_cuts text xs ys (cuts_from_lexed text xs h.whole h.each h.apart)
    (cuts_from_lexed text ys g.whole g.each g.apart)

pub parse-unique : (text : List ℕ) (m n : NodeTerm) → IsParse text m → IsParse text n → m ≡ n
parse-unique text m n h g = sexp-unique (token_terms g.lexed) m n
    (subst (λ ts. IsSexp ts m) (lexed-unique text h.lexed g.lexed h.cut g.cut) h.sexp) g.sexp

-- ---- there are tokens

encode_all-append : (cs ds : List ℕ)
    → encode_utf8_all (cs ++ ds) ≡ encode_utf8_all cs ++ encode_utf8_all ds
encode_all-append [] ds = refl
encode_all-append (c ∷ cs) ds = ap (λ t. encode_utf8 c ++ t) (encode_all-append cs ds)
    ∙ sym (append_assoc (encode_utf8 c) (encode_utf8_all cs) (encode_utf8_all ds))

none-append : (ends : ℕ → Bool) (cs ds : List ℕ) → NonePass ends cs → NonePass ends ds
    → NonePass ends (cs ++ ds)
none-append ends [] ds h g = g
none-append ends (c ∷ cs) ds h g = (h.0, none-append ends cs ds h.1 g)

-- two runs are one
run-append : (ends : ℕ → Bool) (s t : List ℕ) → IsRun ends s → IsRun ends t → IsRun ends (s ++ t)
run-append ends s t h g = record {
  nonempty = omega (arith, length-append s t, h.nonempty);
  inside = (
    h.inside.0 ++ g.inside.0,
    encode_all-append h.inside.0 g.inside.0
        ∙ ap (λ x. x ++ encode_utf8_all g.inside.0) h.inside.1
        ∙ ap (λ x. s ++ x) g.inside.1,
    none-append ends h.inside.0 g.inside.0 h.inside.2 g.inside.2,
  );
}

joins : (k l : SyntaxKind) (s t : List ℕ) → are_one k l ≡ true → IsTextOf k s → IsTextOf l t
    → IsTextOf l (s ++ t)
joins WORD WORD s t e h g = run-append is_delimiter s t h g
joins WHITESPACE WHITESPACE s t e h g = run-append is_not_whitespace s t h g
joins _ _ s t e h g = absurd (let wrong : false ≡ true = e in cc)

-- one character is a token, or a part of one
one_char : (c : ℕ) → (kind : SyntaxKind) × IsTextOf kind (encode_utf8 c)
one_char c = by_tests (c == 40) (c == 41) (is_whitespace c) refl refl refl
  where
    run : (ends : ℕ → Bool) → ends c ≡ false → IsRun ends (encode_utf8 c)
    run ends e = record {
      nonempty = nonempty_from_char (encode_utf8 c) [] c
          (sym (append-nil (encode_utf8 c)));
      inside = (c ∷ [], append-nil (encode_utf8 c), (e, tt));
    }

    by_tests : (a b w : Bool) → (c == 40) ≡ a → (c == 41) ≡ b → is_whitespace c ≡ w
        → (kind : SyntaxKind) × IsTextOf kind (encode_utf8 c)
    by_tests true b w e f g = (
      L_PAREN,
      ap encode_utf8 (eqb-true c 40 e)
          ∙ encode_ascii 40 (omega arith),
    )
    by_tests false true w e f g = (
      R_PAREN,
      ap encode_utf8 (eqb-true c 41 f)
          ∙ encode_ascii 41 (omega arith),
    )
    by_tests false false true e f g = (WHITESPACE, run is_not_whitespace (ap not g))
    by_tests false false false e f g = (
      WORD,
      run is_delimiter (ap (λ a. (a || (c == 41)) || is_whitespace c) e
          ∙ ap (λ b. (false || b) || is_whitespace c) f ∙ ap (λ w. (false || false) || w) g),
    )

record HasTokens (text : List ℕ) : Type 0 where
  tokens : List LexedToken
  lexed : IsLexed text tokens

-- one more token in front, or a longer first one
put_first : (kind : SyntaxKind) (s text : List ℕ) → IsTextOf kind s → (tokens : List LexedToken)
    → IsLexed text tokens → HasTokens (s ++ text)
put_first kind s text h [] l = record {
  tokens = (kind, record { ref_ptr = (0, 0); now = s }) ∷ [];
  lexed = record { whole = ap (λ t. s ++ t) l.whole; each = (h, tt); apart = tt };
}
put_first kind s text h (x ∷ xs) l = by_test (are_one kind x.0) refl
  where
    joined : (ys : List LexedToken) → AreApart (x ∷ ys)
        → AreApart ((x.0, record { ref_ptr = (0, 0); now = s ++ x.1.now }) ∷ ys)
    joined [] a = tt
    joined (y ∷ ys) a = a

    by_test : (b : Bool) → are_one kind x.0 ≡ b → HasTokens (s ++ text)
    by_test false e = record {
      tokens = (kind, record { ref_ptr = (0, 0); now = s }) ∷ x ∷ xs;
      lexed = record { whole = ap (λ t. s ++ t) l.whole; each = (h, l.each); apart = (e, l.apart) };
    }
    by_test true e = record {
      tokens = (x.0, record { ref_ptr = (0, 0); now = s ++ x.1.now }) ∷ xs;
      lexed = record {
        whole = append_assoc s x.1.now (tokens_text xs) ∙ ap (λ t. s ++ t) l.whole;
        each = (joins kind x.0 s x.1.now e h l.each.0, l.each.1);
        apart = joined xs l.apart;
      };
    }

tokens_of : (cs : List ℕ) → HasTokens (encode_utf8_all cs)
tokens_of [] = record { tokens = []; lexed = record { whole = refl; each = tt; apart = tt } }
tokens_of (c ∷ cs) =
    let rest = tokens_of cs in
    let one = one_char c in
    put_first one.0 (encode_utf8 c) (encode_utf8_all cs) one.1 rest.tokens rest.lexed

pub lexed-exists : (text : List ℕ) → IsUtf8 text → (tokens : List LexedToken) × IsLexed text tokens
lexed-exists text utf8 =
    let all = tokens_of utf8.0 in
    (all.tokens, subst (λ t. IsLexed t all.tokens) utf8.1.1 all.lexed)

pub cuts-exist : (text : List ℕ) → IsUtf8 text → (tokens : List LexedToken) × IsCutInto text tokens
cuts-exist text utf8 =
    let all = lexed-exists text utf8 in
    (all.0, cuts_from_lexed text all.0 all.1.whole all.1.each all.1.apart)

pub parse-exists : (text : List ℕ) → IsUtf8 text → (tree : NodeTerm) × IsParse text tree
parse-exists text utf8 =
    let all = lexed-exists text utf8 in
    let tree = sexp_exists all.0 all.1.each in
    (tree.0, record { lexed = all.0; cut = all.1; sexp = tree.1 })
