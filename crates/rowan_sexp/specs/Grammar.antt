-- The grammar of s-expressions: which tree a list of tokens has.
-- A root is any sequence of white space, atoms, lists and errors. An atom is a node with one word,
-- and an error a node with one `)`, which stands in the root alone. A list is a `(`, then any
-- sequence of white space, atoms and lists, and then its `)`. A list without a `)` runs to the end
-- of the text: no token stands behind it.
use Rattle.std.specs.Prelude.{◌≡◌, ◌≢◌, ℕ, ◌<◌, ◌==◌, Bool, true, false, ◌&&◌, ◌⊎◌, List, map}
use Rattle.std.specs.Prelude.{length, take, codes, count_by}
use Rattle.rowan_green.specs.declared.utility_types.NodeOrToken.TheVariants.{Node}
use Rattle.rowan_terms.specs.Path.{tokens}
use Rattle.rowan_green.specs.Term.{TokenTerm, token_of, NodeTerm, node, node_kind, Forest, empty}
use Rattle.rowan_green.specs.Term.{node_then, token_then}
use Rattle.rowan_sexp.specs.declared.sexp.lang.SyntaxKind.TheVariants.{L_PAREN, R_PAREN, WORD}
use Rattle.rowan_sexp.specs.declared.sexp.lang.SyntaxKind.TheVariants.{WHITESPACE, ERROR, LIST}
use Rattle.rowan_sexp.specs.declared.sexp.lang.SyntaxKind.TheVariants.{ATOM, ROOT}
use Rattle.rowan_sexp.specs.Sexp.{LexedToken, IsLexed, number_of}

abbrev pub is_empty : Forest → Bool
is_empty empty = true
is_empty (node_then n f) = false
is_empty (token_then t f) = false

-- a node of kind `k` over the token `t` and the children `f` behind it is an atom
pub record IsAtom (k : ℕ) (t : TokenTerm) (f : Forest) : Type 0 where
  pub atom : k ≡ number_of ATOM
  pub word : t.kind ≡ number_of WORD
  pub alone : f ≡ empty

-- it is an error
pub record IsError (k : ℕ) (t : TokenTerm) (f : Forest) : Type 0 where
  pub error : k ≡ number_of ERROR
  pub parenthesis : t.kind ≡ number_of R_PAREN
  pub alone : f ≡ empty

-- it is a list, up to what stands behind its parenthesis
pub record OpensList (k : ℕ) (t : TokenTerm) : Type 0 where
  pub list : k ≡ number_of LIST
  pub parenthesis : t.kind ≡ number_of L_PAREN

-- the token closes the list whose last children are these
pub record ClosesList (t : TokenTerm) (f : Forest) : Type 0 where
  pub parenthesis : t.kind ≡ number_of R_PAREN
  pub last : f ≡ empty

abbrev mutual
  -- The node is an atom, a list or an error. It stands in a list (`inside`) or in the root, and it
  -- is `last` where no token of the text stands behind it.
  pub IsElement : (inside last : Bool) → NodeTerm → Type 0
  IsElement inside last (node k empty) = ⊥
  IsElement inside last (node k (node_then n f)) = ⊥
  IsElement inside last (node k (token_then t f)) =
      IsAtom k t f
      ⊎ (((inside ≡ false) × IsError k t f)
      ⊎ (OpensList k t × AreElements true last f))

  -- These are the children of the root, or those of a list behind its `(`.
  pub AreElements : (inside last : Bool) → Forest → Type 0
  AreElements inside last empty = last ≡ true
  AreElements inside last (node_then n f) =
      IsElement inside (last && is_empty f) n × AreElements inside last f
  AreElements inside last (token_then t f) =
      ((inside ≡ true) × ClosesList t f)
      ⊎ ((t.kind ≡ number_of WHITESPACE) × AreElements inside last f)

abbrev pub IsRoot : NodeTerm → Type 0
IsRoot (node k f) = (k ≡ number_of ROOT) × AreElements false true f

-- the tree of a list of tokens
pub record IsSexp (leaves : List TokenTerm) (tree : NodeTerm) : Type 0 where
  pub tokens : tokens (Node tree) ≡ leaves
  pub root : IsRoot tree

-- the tokens, as terms
abbrev pub token_terms : List LexedToken → List TokenTerm
token_terms lexed = map (λ token. token_of (number_of token.0) token.1.now) lexed

-- the tree of a text: that of its tokens
pub record IsParse (text : List ℕ) (tree : NodeTerm) : Type 0 where
  pub lexed : List LexedToken
  pub cut : IsLexed text lexed
  pub sexp : IsSexp (token_terms lexed) tree

-- how many of the bytes are this one
abbrev pub count_of : ℕ → List ℕ → ℕ
count_of byte text = count_by (λ b. b == byte) text

-- The text is that of one list: it begins with `(`, and the number of `(` less that of `)` becomes
-- 0 at its last byte and nowhere before.
pub record IsBalanced (text : List ℕ) : Type 0 where
  pub begins : take 1 text ≡ codes "("
  pub closed : count_of 40 text ≡ count_of 41 text
  pub unclosed : (k : ℕ) → 0 < k → k < length text
      → count_of 40 (take k text) ≢ count_of 41 (take k text)

-- the list that the text is: it is closed, and stands alone in the root of the text's tree
pub record IsOneList (text : List ℕ) (list : NodeTerm) : Type 0 where
  pub kind : node_kind list ≡ number_of LIST
  pub closed : IsElement true false list
  pub parse : IsParse text (node (number_of ROOT) (node_then list empty))
