-- The tree of a list of tokens: it has the word that the parser makes, so there is one, and no
-- other.
use Rattle.std.proofs.Common.{◌≡◌, ℕ, zero, suc, Bool, true, false, List, [], ◌∷◌, ◌++◌, refl, sym}
use Rattle.std.proofs.Common.{◌∙◌, ap, subst, append_assoc, ◌&&◌, inl, inr}
use Rattle.std.specs.List.{AllByRecursion}
use Rattle.std.proofs.lemmas.List.{append-nil}
use Rattle.rowan_green.specs.declared.utility_types.NodeOrToken.TheVariants.{Node}
use Rattle.rowan_terms.specs.Path.{tokens}
use Rattle.rowan_green.specs.Term.{TokenTerm, token_of, NodeTerm, node, Forest, empty, node_then}
use Rattle.rowan_green.specs.Term.{token_then}
use Rattle.rowan_green.specs.Word.{Symbol, Open, Leaf, Close, node_word, forest_word, Whole}
use Rattle.rowan_green.specs.Word.{word_tokens, IsFinished}
use Rattle.rowan_terms.proofs.LeafLaws.{word_tokens-append, tokens-finished}
use Rattle.rowan_terms.proofs.Words.{node_word-injective}
use Rattle.rowan_sexp.specs.declared.sexp.lang.SyntaxKind.{SyntaxKind}
use Rattle.rowan_sexp.specs.declared.sexp.lang.SyntaxKind.TheVariants.{L_PAREN, R_PAREN, WORD}
use Rattle.rowan_sexp.specs.declared.sexp.lang.SyntaxKind.TheVariants.{WHITESPACE, ERROR, LIST}
use Rattle.rowan_sexp.specs.declared.sexp.lang.SyntaxKind.TheVariants.{ATOM, ROOT}
use Rattle.rowan_sexp.specs.Sexp.{LexedToken, IsTextOf, IsToken, number_of, kind_of}
use Rattle.rowan_sexp.specs.Grammar.{is_empty, IsAtom, IsError, ClosesList, IsElement, AreElements}
use Rattle.rowan_sexp.specs.Grammar.{IsSexp, token_terms}
use Rattle.rowan_sexp.specs.Parsing.{root_kind, symbols_of, open_after, rest_word, sexp_word}

-- ---- the tokens of a tree, from its shape

abbrev mutual
  pub node_tokens : NodeTerm → List TokenTerm
  node_tokens (node k f) = forest_tokens f

  pub forest_tokens : Forest → List TokenTerm
  forest_tokens empty = []
  forest_tokens (node_then n f) = node_tokens n ++ forest_tokens f
  forest_tokens (token_then t f) = t ∷ forest_tokens f

mutual
  word_tokens-node : (n : NodeTerm) → word_tokens (node_word n) ≡ node_tokens n
  word_tokens-node (node k f) = word_tokens-append (forest_word f) (Close ∷ [])
      ∙ append-nil (word_tokens (forest_word f)) ∙ word_tokens-forest f

  word_tokens-forest : (f : Forest) → word_tokens (forest_word f) ≡ forest_tokens f
  word_tokens-forest empty = refl
  word_tokens-forest (node_then n f) =
      word_tokens-append (node_word n) (forest_word f)
      ∙ ap (λ ts. ts ++ word_tokens (forest_word f)) (word_tokens-node n)
      ∙ ap (λ ts. node_tokens n ++ ts) (word_tokens-forest f)
  word_tokens-forest (token_then t f) = ap (λ ts. t ∷ ts) (word_tokens-forest f)

IsFinished-own : (n : NodeTerm) → IsFinished (node_word n) n
IsFinished-own n = record {
  items = Whole (Node n) ∷ [];
  parts = record { spells = sym (append-nil (node_word n)) };
  terms = refl;
}

pub tokens-node : (n : NodeTerm) → tokens (Node n) ≡ node_tokens n
tokens-node n = sym (tokens-finished (node_word n) n (IsFinished-own n)) ∙ word_tokens-node n

-- ---- the word of a tree

-- whether a list is open
abbrev is_inside : ℕ → Bool
is_inside zero = false
is_inside (suc n) = true

-- what stands behind the closing of the innermost list, or of the root
abbrev behind : ℕ → List TokenTerm → List Symbol
behind zero us = []
behind (suc n) us = rest_word n us

-- what one more token of a kind adds
rest_word-kind : (n k : ℕ) (t : TokenTerm) (us : List TokenTerm) → t.kind ≡ k
    → rest_word n (t ∷ us) ≡ symbols_of (kind_of k) n t ++ rest_word (open_after (kind_of k) n) us
rest_word-kind n k t us e = ap (λ j. symbols_of (kind_of j) n t
    ++ rest_word (open_after (kind_of j) n) us) e

-- the word of a node around one token
abbrev alone_word : ℕ → TokenTerm → Forest → List Symbol → List Symbol
alone_word k t f w = node_word (node k (token_then t f)) ++ w

pub last_split : (last : Bool) (f : Forest) → last && is_empty f ≡ true
    → (last ≡ true) × (f ≡ empty)
last_split true empty e = (refl, refl)
last_split true (node_then n f) e = absurd (cc)
last_split true (token_then t f) e = absurd (cc)
last_split false f e = absurd (cc)

atom_word : (n k : ℕ) (t : TokenTerm) (f : Forest) (us : List TokenTerm) → IsAtom k t f
    → rest_word n ((t ∷ forest_tokens f) ++ us) ≡ alone_word k t f (rest_word n us)
atom_word n k t f us h =
    ap (λ g. rest_word n ((t ∷ forest_tokens g) ++ us)) h.alone
    ∙ rest_word-kind n 2 t us h.word
    ∙ ap (λ j. alone_word j t empty (rest_word n us)) (sym h.atom)
    ∙ ap (λ g. alone_word k t g (rest_word n us)) (sym h.alone)

error_word : (k : ℕ) (t : TokenTerm) (f : Forest) (us : List TokenTerm) → IsError k t f
    → rest_word 0 ((t ∷ forest_tokens f) ++ us) ≡ alone_word k t f (rest_word 0 us)
error_word k t f us h =
    ap (λ g. rest_word 0 ((t ∷ forest_tokens g) ++ us)) h.alone
    ∙ rest_word-kind 0 1 t us h.parenthesis
    ∙ ap (λ j. alone_word j t empty (rest_word 0 us)) (sym h.error)
    ∙ ap (λ g. alone_word k t g (rest_word 0 us)) (sym h.alone)

both_empty : (f : Forest) (us : List TokenTerm) → f ≡ empty → us ≡ [] → forest_tokens f ++ us ≡ []
both_empty f us e d = ap (λ g. forest_tokens g ++ us) e ∙ d

-- where no token is left, the innermost list, or the root, is closed
word-end : (n : ℕ) (us : List TokenTerm) → us ≡ [] → rest_word n us ≡ Close ∷ behind n us
word-end zero us e = ap (rest_word 0) e
word-end (suc n) us e = ap (rest_word (suc n)) e ∙ ap (λ v. Close ∷ rest_word n v) (sym e)

-- its parenthesis closes the innermost list
word-close : (n : ℕ) (t : TokenTerm) (f : Forest) (us : List TokenTerm) → is_inside n ≡ true
    → ClosesList t f → rest_word n ((t ∷ forest_tokens f) ++ us) ≡ forest_word (token_then t f)
    ++ Close ∷ behind n us
word-close zero t f us e c = absurd (cc)
word-close (suc n) t f us e c =
    ap (λ g. rest_word (suc n) ((t ∷ forest_tokens g) ++ us)) c.last
    ∙ rest_word-kind (suc n) 1 t us c.parenthesis
    ∙ ap (λ g. forest_word (token_then t g) ++ Close ∷ rest_word n us) (sym c.last)

mutual
  word-element : (n : ℕ) (last : Bool) (m : NodeTerm) (us : List TokenTerm)
      → IsElement (is_inside n) last m → (last ≡ true → us ≡ [])
      → rest_word n (node_tokens m ++ us) ≡ node_word m ++ rest_word n us
  word-element n last (node k empty) us h end = absurd h
  word-element n last (node k (node_then m f)) us h end = absurd h
  word-element n last (node k (token_then t f)) us (inl a) end = atom_word n k t f us a
  word-element zero last (node k (token_then t f)) us (inr (inl e)) end = error_word k t f us e.1
  word-element (suc n) last (node k (token_then t f)) us (inr (inl e)) end =
      absurd (let wrong : true ≡ false = e.0 in cc)
  word-element n last (node k (token_then t f)) us (inr (inr l)) end =
      rest_word-kind n 0 t (forest_tokens f ++ us) l.0.parenthesis
      ∙ ap (λ w. Open 5 ∷ Leaf t ∷ w) (word-elements (suc n) last f us l.1 end
      ∙ sym (append_assoc (forest_word f) (Close ∷ []) (rest_word n us)))
      ∙ ap (λ j. alone_word j t f (rest_word n us)) (sym l.0.list)

  word-elements : (n : ℕ) (last : Bool) (f : Forest) (us : List TokenTerm)
      → AreElements (is_inside n) last f → (last ≡ true → us ≡ [])
      → rest_word n (forest_tokens f ++ us) ≡ forest_word f ++ Close ∷ behind n us
  word-elements n last empty us h end = word-end n us (end h)
  word-elements n last (node_then m f) us h end =
      ap (rest_word n) (append_assoc (node_tokens m) (forest_tokens f) us)
      ∙ word-element n (last && is_empty f) m (forest_tokens f ++ us) h.0
      (λ e. let both = last_split last f e in both_empty f us both.1 (end both.0))
      ∙ ap (λ w. node_word m ++ w) (word-elements n last f us h.1 end)
      ∙ sym (append_assoc (node_word m) (forest_word f) (Close ∷ behind n us))
  word-elements n last (token_then t f) us (inl c) end = word-close n t f us c.0 c.1
  word-elements n last (token_then t f) us (inr w) end =
      rest_word-kind n 3 t (forest_tokens f ++ us) w.0
      ∙ ap (λ v. Leaf t ∷ v) (word-elements n last f us w.1 end)

-- the word of the tree of the tokens
pub word-sexp : (ts : List TokenTerm) (n : NodeTerm) → IsSexp ts n → node_word n ≡ sexp_word ts
word-sexp ts (node k f) h =
    ap (λ j. Open j ∷ (forest_word f ++ Close ∷ [])) h.root.0
    ∙ ap (λ w. Open root_kind ∷ w) (sym
    (ap (rest_word 0) (sym (append-nil (forest_tokens f)))
    ∙ word-elements 0 true f [] h.root.1 (λ e. refl)))
    ∙ ap sexp_word (sym (tokens-node (node k f)) ∙ h.tokens)

pub sexp-unique : (ts : List TokenTerm) (m n : NodeTerm) → IsSexp ts m → IsSexp ts n → m ≡ n
sexp-unique ts m n h g = node_word-injective m n (word-sexp ts m h ∙ sym (word-sexp ts n g))

-- ---- there is a tree

abbrev is_nil : List TokenTerm → Bool
is_nil [] = true
is_nil (t ∷ ts) = false

-- elements have no tokens only where there are none
is_nil-elements : (inside last : Bool) (f : Forest) (us : List TokenTerm)
    → AreElements inside last f → is_nil (forest_tokens f ++ us) ≡ is_nil us && is_empty f
is_nil-elements inside last empty [] h = refl
is_nil-elements inside last empty (u ∷ us) h = refl
is_nil-elements inside last (token_then t f) [] h = refl
is_nil-elements inside last (token_then t f) (u ∷ us) h = refl
is_nil-elements inside last (node_then (node k empty) f) us h = absurd h.0
is_nil-elements inside last (node_then (node k (node_then m g)) f) us h = absurd h.0
is_nil-elements inside last (node_then (node k (token_then t g)) f) [] h = refl
is_nil-elements inside last (node_then (node k (token_then t g)) f) (u ∷ us) h = refl

-- Tokens that are left in the middle of a text: these elements end the innermost list, or the root,
-- and so many tokens stand behind them, which are as said.
record RestOf (inside : Bool) (IsOuter : List TokenTerm → Type 0)
    (ts : List TokenTerm) : Type 0 where
  elements : Forest
  left : List TokenTerm
  are : AreElements inside (is_nil left) elements
  all : forest_tokens elements ++ left ≡ ts
  outer : IsOuter left

-- what stands behind the innermost of so many lists, or behind the root
abbrev HasOuter : ℕ → List TokenTerm → Type 0
HasOuter zero us = us ≡ []
HasOuter (suc n) us = RestOf (is_inside n) (HasOuter n) us

abbrev HasRest : ℕ → List TokenTerm → Type 0
HasRest n ts = RestOf (is_inside n) (HasOuter n) ts

rest_empty : (n : ℕ) → HasRest n []
rest_empty zero = record { elements = empty; left = []; are = refl; all = refl; outer = refl }
rest_empty (suc n) = record {
  elements = empty;
  left = [];
  are = refl;
  all = refl;
  outer = rest_empty n;
}

-- one more element in front
with_element : (n : ℕ) (m : NodeTerm) (ts us : List TokenTerm)
    → IsElement (is_inside n) (is_nil us) m → HasRest n us → ts ≡ node_tokens m ++ us → HasRest n ts
with_element n m ts us h r e = record {
  elements = node_then m r.elements;
  left = r.left;
  are = (
    subst (λ b. IsElement (is_inside n) b m)
        (ap is_nil (sym r.all) ∙ is_nil-elements (is_inside n)
        (is_nil r.left) r.elements r.left r.are) h,
    r.are,
  );
  all = append_assoc (node_tokens m) (forest_tokens r.elements) r.left
      ∙ ap (λ v. node_tokens m ++ v) r.all ∙ sym e;
  outer = r.outer;
}

-- one more token in front
rest_with : (kind : SyntaxKind) (n : ℕ) (text : List ℕ) (us : List TokenTerm) → IsTextOf kind text
    → ((m : ℕ) → HasRest m us) → HasRest n (token_of (number_of kind) text ∷ us)
rest_with L_PAREN n text us h rest =
    let t = token_of 0 text in
    let r = rest (suc n) in
    with_element n (node 5 (token_then t r.elements)) (t ∷ us) r.left
    (inr (inr (record { list = refl; parenthesis = refl }, r.are))) r.outer
    (ap (λ v. t ∷ v) (sym r.all))
rest_with R_PAREN zero text us h rest =
    let t = token_of 1 text in
    with_element 0 (node 4 (token_then t empty)) (t ∷ us) us
    (inr (inl (refl, record { error = refl; parenthesis = refl; alone = refl }))) (rest 0) refl
rest_with R_PAREN (suc n) text us h rest = record {
  elements = token_then (token_of 1 text) empty;
  left = us;
  are = inl (refl, record { parenthesis = refl; last = refl });
  all = refl;
  outer = rest n;
}
rest_with WORD n text us h rest =
    let t = token_of 2 text in
    with_element n (node 6 (token_then t empty)) (t ∷ us) us
    (inl (record { atom = refl; word = refl; alone = refl })) (rest n) refl
rest_with WHITESPACE n text us h rest =
    let t = token_of 3 text in
    let r = rest n in
    record {
      elements = token_then t r.elements;
      left = r.left;
      are = inr (refl, r.are);
      all = ap (λ v. t ∷ v) r.all;
      outer = r.outer;
    }
rest_with ERROR n text us h rest = absurd h
rest_with LIST n text us h rest = absurd h
rest_with ATOM n text us h rest = absurd h
rest_with ROOT n text us h rest = absurd h

rest_of : (n : ℕ) (lexed : List LexedToken) → AllByRecursion IsToken lexed
    → HasRest n (token_terms lexed)
rest_of n [] h = rest_empty n
rest_of n (token ∷ lexed) h = rest_with token.0 n token.1.now (token_terms lexed) h.0
    (λ m. rest_of m lexed h.1)

pub sexp_exists : (lexed : List LexedToken) → AllByRecursion IsToken lexed
    → (tree : NodeTerm) × IsSexp (token_terms lexed) tree
sexp_exists lexed h =
    let r = rest_of 0 lexed h in
    let root = node root_kind r.elements in (
      root,
      record {
        tokens = tokens-node root ∙ sym (append-nil (forest_tokens r.elements))
            ∙ ap (λ v. forest_tokens r.elements ++ v) (sym r.outer) ∙ r.all;
        root = (refl, subst (λ v. AreElements false (is_nil v) r.elements) r.outer r.are);
      },
    )
