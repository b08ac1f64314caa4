-- The tokens of a term's leaves, and those of a word.
use Rattle.std.proofs.Common.{◌≡◌, ℕ, ◌+◌, List, [], ◌∷◌, ◌++◌, map, refl, sym, ◌∙◌, ap}
use Rattle.std.specs.List.{flat_map}
use Rattle.std.proofs.lemmas.List.{append-nil, map-append}
use Rattle.rowan_green.specs.declared.utility_types.NodeOrToken.TheVariants.{Node, Token}
use Rattle.rowan_green.specs.Term.{TokenTerm, NodeTerm, node, Forest, empty, node_then, token_then}
use Rattle.rowan_green.specs.Term.{Term, term_text}
use Rattle.rowan_terms.specs.Path.{LeafAt, below_place, node_leaves, leaves_from, tokens}
use Rattle.rowan_green.specs.Word.{Symbol, Open, Leaf, Close, node_word, forest_word, Item, Bare}
use Rattle.rowan_green.specs.Word.{Whole, spelled, HasParts, whole_terms, HasTerms, IsFinished}
use Rattle.rowan_green.specs.Word.{Closes, Wraps, word_text, word_tokens}
use Rattle.rowan_terms.proofs.ItemLemmas.{whole_terms-append, whole_terms-map, whole_terms-open}
use Rattle.rowan_terms.proofs.Words.{word_text-node}

pub word_tokens-append : (v w : List Symbol) → word_tokens (v ++ w) ≡ word_tokens v ++ word_tokens w
word_tokens-append [] w = refl
word_tokens-append (Open k ∷ v) w = word_tokens-append v w
word_tokens-append (Leaf t ∷ v) w = ap (λ ts. t ∷ ts) (word_tokens-append v w)
word_tokens-append (Close ∷ v) w = word_tokens-append v w

-- the text of a word is the texts of its tokens
pub word_text-tokens : (w : List Symbol) → word_text w ≡ flat_map (λ t. t.text) (word_tokens w)
word_text-tokens [] = refl
word_text-tokens (Open k ∷ w) = word_text-tokens w
word_text-tokens (Leaf t ∷ w) = ap (λ bs. t.text ++ bs) (word_text-tokens w)
word_text-tokens (Close ∷ w) = word_text-tokens w

abbrev tokens_of : List LeafAt → List TokenTerm
tokens_of ls = map (λ l. l.1) ls

tokens-below : (i : ℕ) (ls : List LeafAt) → tokens_of (map (below_place i) ls) ≡ tokens_of ls
tokens-below i [] = refl
tokens-below i (l ∷ ls) = ap (λ ts. l.1 ∷ ts) (tokens-below i ls)

mutual
  word_tokens-node : (n : NodeTerm) → word_tokens (node_word n) ≡ tokens_of (node_leaves n)
  word_tokens-node (node k f) =
      word_tokens-append (forest_word f) (Close ∷ []) ∙ append-nil (word_tokens (forest_word f))
      ∙ word_tokens-forest 0 f

  word_tokens-forest : (m : ℕ) (f : Forest)
      → word_tokens (forest_word f) ≡ tokens_of (leaves_from m f)
  word_tokens-forest m empty = refl
  word_tokens-forest m (node_then n f) =
      word_tokens-append (node_word n) (forest_word f)
      ∙ ap (λ ts. ts ++ word_tokens (forest_word f))
      (word_tokens-node n ∙ sym (tokens-below m (node_leaves n)))
      ∙ ap (λ ts. tokens_of (map (below_place m) (node_leaves n)) ++ ts)
      (word_tokens-forest (m + 1) f)
      ∙ sym (map-append (λ l. l.1) (map (below_place m) (node_leaves n)) (leaves_from (m + 1) f))
  word_tokens-forest m (token_then t f) = ap (λ ts. t ∷ ts) (word_tokens-forest (m + 1) f)

-- the text of a term is the texts of its tokens
pub text-tokens : (t : Term) → term_text t ≡ flat_map (λ u. u.text) (tokens t)
text-tokens (Node n) = sym (word_text-node n) ∙ word_text-tokens (node_word n)
    ∙ ap (flat_map (λ u. u.text)) (word_tokens-node n)
text-tokens (Token t) = sym (append-nil t.text)

-- ---- the tokens of a word's whole terms

word_tokens-spelled : (items : List Item)
    → word_tokens (spelled items) ≡ flat_map tokens (whole_terms items)
word_tokens-spelled [] = refl
word_tokens-spelled (Bare k ∷ items) = word_tokens-spelled items
word_tokens-spelled (Whole (Node n) ∷ items) =
    word_tokens-append (node_word n) (spelled items)
    ∙ ap (λ ts. ts ++ word_tokens (spelled items)) (word_tokens-node n)
    ∙ ap (λ ts. tokens (Node n) ++ ts) (word_tokens-spelled items)
word_tokens-spelled (Whole (Token t) ∷ items) = ap (λ ts. t ∷ ts) (word_tokens-spelled items)

pub word_tokens-parts : (w : List Symbol) (items : List Item) → HasParts w items
    → word_tokens w ≡ flat_map tokens (whole_terms items)
word_tokens-parts w items h = ap word_tokens h.spells ∙ word_tokens-spelled items

pub word_tokens-terms : (w : List Symbol) (ts : List Term) → HasTerms w ts
    → word_tokens w ≡ flat_map tokens ts
word_tokens-terms w ts h = word_tokens-parts w h.items h.parts ∙ ap (flat_map tokens) h.terms

pub tokens-finished : (w : List Symbol) (n : NodeTerm) → IsFinished w n
    → word_tokens w ≡ tokens (Node n)
tokens-finished w n h = word_tokens-terms w (Node n ∷ []) h ∙ append-nil (tokens (Node n))

-- ---- with each call of a builder

pub tokens-leaf : (v w : List Symbol) (t : TokenTerm) → w ≡ v ++ Leaf t ∷ []
    → word_tokens w ≡ word_tokens v ++ t ∷ []
tokens-leaf v w t e = ap word_tokens e ∙ word_tokens-append v (Leaf t ∷ [])

pub tokens-open : (v w : List Symbol) (k : ℕ) → w ≡ v ++ Open k ∷ [] → word_tokens w ≡ word_tokens v
tokens-open v w k e = ap word_tokens e ∙ word_tokens-append v (Open k ∷ [])
    ∙ append-nil (word_tokens v)

pub tokens-closes : {n : NodeTerm} (v w : List Symbol) → Closes v n w
    → word_tokens w ≡ word_tokens v
tokens-closes v w c = ap word_tokens c.closed ∙ word_tokens-append v (Close ∷ [])
    ∙ append-nil (word_tokens v)

pub tokens-wrap : (v w : List Symbol) (c k : ℕ) → Wraps v c k w → word_tokens w ≡ word_tokens v
tokens-wrap v w c k a =
    let wholes = whole_terms-append a.before (map Whole a.after)
    ∙ ap (λ us. whole_terms a.before ++ us) (whole_terms-map a.after) in
    word_tokens-parts w (a.before ++ Bare k ∷ map Whole a.after) a.opened
    ∙ ap (flat_map tokens) (whole_terms-open a.before k a.after ∙ sym wholes)
    ∙ sym (word_tokens-parts v (a.before ++ map Whole a.after) a.parts)
