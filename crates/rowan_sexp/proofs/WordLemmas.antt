-- The word that the parser makes: with each token, and at the end of the text.
use Rattle.std.proofs.Common.{◌≡◌, ℕ, zero, suc, ◌+◌, ◌-◌, ◌<◌, List, [], ◌∷◌, ◌++◌, refl, sym, ◌∙◌}
use Rattle.std.proofs.Common.{ap, subst, arith, append_assoc}
use Rattle.std.specs.Prelude.{replicate}
use Rattle.std.specs.Str.{IsUtf8}
use Rattle.std.proofs.lemmas.List.{append-nil, replicate-append-replicate}
use Rattle.rowan_green.specs.declared.utility_types.NodeOrToken.TheVariants.{Node}
use Rattle.rowan_green.specs.Term.{TokenTerm, token_of, NodeTerm}
use Rattle.rowan_green.specs.Word.{Symbol, Open, Leaf, Close, Whole, node_word, HasTerms}
use Rattle.rowan_green.specs.Word.{IsFinished}
use Rattle.rowan_builder.proofs.StreamLemmas.{HasTerms-unique}
use Rattle.rowan_terms.proofs.Words.{node_word-injective}
use Rattle.rowan_sexp.specs.declared.sexp.lang.SyntaxKind.{SyntaxKind}
use Rattle.rowan_sexp.specs.declared.sexp.lang.SyntaxKind.TheVariants.{L_PAREN, R_PAREN, WORD}
use Rattle.rowan_sexp.specs.declared.sexp.lang.SyntaxKind.TheVariants.{WHITESPACE, ERROR, LIST}
use Rattle.rowan_sexp.specs.declared.sexp.lang.SyntaxKind.TheVariants.{ATOM, ROOT}
use Rattle.rowan_sexp.specs.Sexp.{LexedToken, IsCut, IsTextOf, number_of, kind_of}
use Rattle.rowan_sexp.specs.Grammar.{IsParse, token_terms}
use Rattle.rowan_sexp.specs.Parsing.{root_kind, IsTree, symbols_of, open_after, rest_word}
use Rattle.rowan_sexp.specs.Parsing.{sexp_word}
use Rattle.rowan_sexp.proofs.GrammarLemmas.{word-sexp}
use Rattle.rowan_sexp.proofs.LexedLemmas.{lexed-unique, parse-exists}
use Rattle.rowan_sexp.proofs.SexpRuns.{IsCutInto, lexed_from_cuts}

pub kind_of-number : (kind : SyntaxKind) → kind_of (number_of kind) ≡ kind
kind_of-number L_PAREN = refl
kind_of-number R_PAREN = refl
kind_of-number WORD = refl
kind_of-number WHITESPACE = refl
kind_of-number ERROR = refl
kind_of-number LIST = refl
kind_of-number ATOM = refl
kind_of-number ROOT = refl

-- ---- one more token

module _ (kind : SyntaxKind) (n : ℕ) (v w : List Symbol) (text : List ℕ) where
  abbrev IsPlaced : Type 0
  IsPlaced = w ≡ v ++ symbols_of kind n (token_of (number_of kind) text)

  -- a token that opens a list
  pub placed-opens : (u : List Symbol) (j k : ℕ) → kind ≡ L_PAREN → j ≡ number_of LIST
      → k ≡ number_of kind → u ≡ v ++ Open j ∷ [] → w ≡ u ++ Leaf (token_of k text) ∷ [] → IsPlaced
  placed-opens u j k is list own e f =
      f ∙ ap (λ x. x ++ Leaf (token_of k text) ∷ []) e
      ∙ append_assoc v (Open j ∷ []) (Leaf (token_of k text) ∷ [])
      ∙ ap (λ x. v ++ Open x ∷ Leaf (token_of k text) ∷ []) list
      ∙ ap (λ x. v ++ Open 5 ∷ Leaf (token_of x text) ∷ []) own
      ∙ ap (λ x. v ++ symbols_of x n (token_of (number_of kind) text)) (sym is)

  -- one that closes a list
  pub placed-closes : (u : List Symbol) (k : ℕ) → kind ≡ R_PAREN → 0 < n → k ≡ number_of kind
      → u ≡ v ++ Leaf (token_of k text) ∷ [] → w ≡ u ++ Close ∷ [] → IsPlaced
  placed-closes u k is some own e f =
      f ∙ ap (λ x. x ++ Close ∷ []) e ∙ append_assoc v (Leaf (token_of k text) ∷ []) (Close ∷ [])
      ∙ ap (λ x. v ++ Leaf (token_of x text) ∷ Close ∷ []) own
      ∙ ap (λ x. v ++ x) (sym (closing n some (token_of (number_of kind) text)))
      ∙ ap (λ x. v ++ symbols_of x n (token_of (number_of kind) text)) (sym is)
    where
      closing : (m : ℕ) → 0 < m → (t : TokenTerm) → symbols_of R_PAREN m t ≡ Leaf t ∷ Close ∷ []
      closing zero h t = absurd (omega (arith, h))
      closing (suc m) h t = refl

  -- one that closes none
  pub placed-error : kind ≡ R_PAREN → n ≡ 0
      → w ≡ v ++ Open 4 ∷ Leaf (token_of (number_of kind) text) ∷ Close ∷ [] → IsPlaced
  placed-error is none e =
      e ∙ ap (λ m. v ++ symbols_of R_PAREN m (token_of (number_of kind) text)) (sym none)
      ∙ ap (λ x. v ++ symbols_of x n (token_of (number_of kind) text)) (sym is)

  -- a word
  pub placed-word : kind ≡ WORD → w ≡ v
      ++ Open 6 ∷ Leaf (token_of (number_of kind) text) ∷ Close ∷ [] → IsPlaced
  placed-word is e = e ∙ ap (λ x. v ++ symbols_of x n (token_of (number_of kind) text)) (sym is)

  -- white space
  pub placed-white : (k : ℕ) → kind ≡ WHITESPACE → k ≡ number_of kind
      → w ≡ v ++ Leaf (token_of k text) ∷ [] → IsPlaced
  placed-white k is own e =
      e ∙ ap (λ x. v ++ Leaf (token_of x text) ∷ []) own
      ∙ ap (λ x. v ++ symbols_of x n (token_of (number_of kind) text)) (sym is)

-- the kind of a token that is no parenthesis and no word
pub is_white : (kind : SyntaxKind) (text : List ℕ) → IsTextOf kind text → (kind ≡ L_PAREN → ⊥)
    → (kind ≡ R_PAREN → ⊥) → (kind ≡ WORD → ⊥) → kind ≡ WHITESPACE
is_white L_PAREN text h a b c = absurd (a refl)
is_white R_PAREN text h a b c = absurd (b refl)
is_white WORD text h a b c = absurd (c refl)
is_white WHITESPACE text h a b c = refl
is_white ERROR text h a b c = absurd h
is_white LIST text h a b c = absurd h
is_white ATOM text h a b c = absurd h
is_white ROOT text h a b c = absurd h

-- how many lists are open then
pub opened-list : (kind : SyntaxKind) (n : ℕ) → kind ≡ L_PAREN → n + 1 ≡ open_after kind n
opened-list kind n is = let e : n + 1 ≡ suc n = omega arith in e ∙ ap (λ k. open_after k n) (sym is)

pub closed-list : (kind : SyntaxKind) (n : ℕ) → kind ≡ R_PAREN → n - 1 ≡ open_after kind n
closed-list kind n is = one_less n ∙ ap (λ k. open_after k n) (sym is)
  where
    one_less : (m : ℕ) → m - 1 ≡ open_after R_PAREN m
    one_less zero = refl
    one_less (suc m) = omega arith

pub no_list : (kind : SyntaxKind) (n : ℕ) → kind ≡ R_PAREN → n ≡ 0 → n ≡ open_after kind n
no_list kind n is none = none ∙ ap (λ m. open_after R_PAREN m) (sym none)
    ∙ ap (λ k. open_after k n) (sym is)

pub same-lists-word : (kind : SyntaxKind) (n : ℕ) → kind ≡ WORD → n ≡ open_after kind n
same-lists-word kind n is = ap (λ k. open_after k n) (sym is)

pub same-lists-white : (kind : SyntaxKind) (n : ℕ) → kind ≡ WHITESPACE → n ≡ open_after kind n
same-lists-white kind n is = ap (λ k. open_after k n) (sym is)

-- ---- the loops

-- the word so far, and what the tokens that are left add, are the word of the text's tree
abbrev pub IsWordSoFar : (text rest : List ℕ) → List Symbol → (open_lists : ℕ) → Type 0
IsWordSoFar text rest w n = (tokens : List LexedToken) → IsCutInto rest tokens → (tree : NodeTerm)
    → IsParse text tree → node_word tree ≡ w ++ rest_word n (token_terms tokens)

-- where the root is open, and nothing else is there
pub word_begun : (text : List ℕ) (w : List Symbol) → w ≡ Open root_kind ∷ []
    → IsWordSoFar text text w 0
word_begun text w e tokens cuts tree parse =
    word-sexp (token_terms parse.lexed) tree parse.sexp
    ∙ ap sexp_word (lexed-unique text parse.lexed tokens parse.cut
    (lexed_from_cuts text tokens cuts))
    ∙ ap (λ u. u ++ rest_word 0 (token_terms tokens)) (sym e)

-- with one more token
pub word_more : (text rest left : List ℕ) (v w : List Symbol) (n m : ℕ) (token : LexedToken)
    → IsWordSoFar text rest v n → IsCut rest token left
    → w ≡ v ++ symbols_of token.0 n (token_of (number_of token.0) token.1.now)
    → m ≡ open_after token.0 n → IsWordSoFar text left w m
word_more text rest left v w n m token so_far cut e f tokens cuts tree parse =
    let t = token_of (number_of token.0) token.1.now in
    let ts = token_terms tokens in
    so_far (token ∷ tokens) (left, cut, cuts) tree parse
    ∙ ap (λ k. v ++ (symbols_of k n t ++ rest_word (open_after k n) ts)) (kind_of-number token.0)
    ∙ sym (append_assoc v (symbols_of token.0 n t) (rest_word (open_after token.0 n) ts))
    ∙ ap (λ u. u ++ rest_word (open_after token.0 n) ts) (sym e)
    ∙ ap (λ j. w ++ rest_word j ts) (sym f)

-- one more closing
pub closings_more : (u v w : List Symbol) (i : ℕ) → v ≡ u ++ replicate i Close → w ≡ v ++ Close ∷ []
    → w ≡ u ++ replicate (i + 1) Close
closings_more u v w i e f =
    f ∙ ap (λ x. x ++ Close ∷ []) e ∙ append_assoc u (replicate i Close) (Close ∷ [])
    ∙ ap (λ x. u ++ x) (replicate-append-replicate i 1 Close)

-- the end of the text
pub word_ends : (text rest : List ℕ) (v u w : List Symbol) (n : ℕ) → IsWordSoFar text rest v n
    → rest ≡ [] → u ≡ v ++ replicate n Close → w ≡ u ++ Close ∷ [] → (tree : NodeTerm)
    → IsParse text tree → w ≡ node_word tree
word_ends text rest v u w n so_far end e f tree parse =
    f ∙ ap (λ x. x ++ Close ∷ []) e ∙ append_assoc v (replicate n Close) (Close ∷ [])
    ∙ sym (so_far [] end tree parse)

-- ---- the finished tree

finished_word : (w : List Symbol) (n : NodeTerm) → IsTree w → IsFinished w n → node_word n ≡ w
finished_word w n h f =
    let own : HasTerms w (Node h.root ∷ []) =
    record { items = Whole (Node h.root) ∷ []; parts = h.parts; terms = refl } in
    let only : Node n ∷ [] ≡ Node h.root ∷ [] =
    HasTerms-unique w (Node n ∷ []) (Node h.root ∷ []) f own in
    let same : n ≡ h.root = cc in
    ap node_word same ∙ sym (append-nil (node_word h.root)) ∙ sym h.parts.spells

pub parse_of : (text : List ℕ) (w : List Symbol) (n p : NodeTerm) → IsUtf8 text → IsTree w
    → ((tree : NodeTerm) → IsParse text tree → w ≡ node_word tree) → IsFinished w n → p ≡ n
    → IsParse text p
parse_of text w n p utf8 h word f same =
    let tree = parse-exists text utf8 in
    subst (IsParse text) (node_word-injective tree.0 p
    (sym (word tree.0 tree.1) ∙ sym (finished_word w n h f) ∙ ap node_word (sym same))) tree.1
