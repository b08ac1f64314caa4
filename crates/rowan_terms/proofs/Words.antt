-- Laws of words: each has one reading, and its text is that of its whole terms.
use Rattle.std.proofs.Common.{◌≡◌, ℕ, ◌-◌, List, [], ◌∷◌, ◌++◌, length, map, take, drop, refl, sym}
use Rattle.std.proofs.Common.{◌∙◌, ap, append_assoc}
use Rattle.std.proofs.lemmas.List.{append-nil}
use Rattle.std.proofs.lemmas.Grind.{flat_map-append}
use Rattle.rowan_green.specs.declared.utility_types.NodeOrToken.TheVariants.{Node, Token}
use Rattle.rowan_green.specs.Term.{NodeTerm, node, Forest, empty, node_then, token_then, Term}
use Rattle.rowan_green.specs.Term.{node_text, forest_text, joined_text}
use Rattle.rowan_green.specs.Word.{Symbol, Open, Leaf, Close, node_word, forest_word, Item, Bare}
use Rattle.rowan_green.specs.Word.{Whole, item_word, spelled, HasParts, HasNoneOpen, whole_terms}
use Rattle.rowan_green.specs.Word.{HasTerms, word_text}
use Rattle.rowan_green.specs.Coding.{read, read-node, last_node, last_node-word}

-- the items, the first of them deepest, on these
abbrev turned : List Item → List Item → List Item
turned [] items = items
turned (x ∷ xs) items = turned xs (x ∷ items)

turned-turned : (xs ys zs : List Item) → turned (turned xs ys) zs ≡ turned ys (xs ++ zs)
turned-turned [] ys zs = refl
turned-turned (x ∷ xs) ys zs = turned-turned xs (x ∷ ys) zs

read-spelled : (xs items : List Item) → read items (spelled xs) ≡ turned xs items
read-spelled [] items = refl
read-spelled (Bare k ∷ xs) items = read-spelled xs (Bare k ∷ items)
read-spelled (Whole (Node n) ∷ xs) items =
    read-node n items (spelled xs) ∙ read-spelled xs (Whole (Node n) ∷ items)
read-spelled (Whole (Token t) ∷ xs) items = read-spelled xs (Whole (Token t) ∷ items)

items-read : (xs : List Item) → turned (read [] (spelled xs)) [] ≡ xs
items-read xs = ap (λ is. turned is []) (read-spelled xs []) ∙ turned-turned xs [] []
    ∙ append-nil xs

-- a word has at most one list of items
pub parts-unique : (w : List Symbol) (xs ys : List Item) → HasParts w xs → HasParts w ys → xs ≡ ys
parts-unique w xs ys h k =
    sym (items-read xs) ∙ ap (λ v. turned (read [] v) []) (sym h.spells ∙ k.spells) ∙ items-read ys

-- two nodes with one word are one
pub node_word-injective : (m n : NodeTerm) → node_word m ≡ node_word n → m ≡ n
node_word-injective m n e =
    sym (last_node-word m) ∙ ap (λ w. last_node (read [] w)) e ∙ last_node-word n

pub word_text-append : (v w : List Symbol) → word_text (v ++ w) ≡ word_text v ++ word_text w
word_text-append [] w = refl
word_text-append (Open k ∷ v) w = word_text-append v w
word_text-append (Leaf t ∷ v) w =
    ap (λ bs. t.text ++ bs) (word_text-append v w)
    ∙ sym (append_assoc t.text (word_text v) (word_text w))
word_text-append (Close ∷ v) w = word_text-append v w

mutual
  pub word_text-node : (n : NodeTerm) → word_text (node_word n) ≡ node_text n
  word_text-node (node k f) =
      word_text-append (forest_word f) (Close ∷ []) ∙ append-nil (word_text (forest_word f))
      ∙ word_text-forest f

  word_text-forest : (f : Forest) → word_text (forest_word f) ≡ forest_text f
  word_text-forest empty = refl
  word_text-forest (node_then n f) =
      word_text-append (node_word n) (forest_word f)
      ∙ ap (λ bs. bs ++ word_text (forest_word f)) (word_text-node n)
      ∙ ap (λ bs. node_text n ++ bs) (word_text-forest f)
  word_text-forest (token_then t f) = ap (λ bs. t.text ++ bs) (word_text-forest f)

word_text-spelled : (items : List Item)
    → word_text (spelled items) ≡ joined_text (whole_terms items)
word_text-spelled [] = refl
word_text-spelled (Bare k ∷ items) = word_text-spelled items
word_text-spelled (Whole (Node n) ∷ items) =
    word_text-append (node_word n) (spelled items)
    ∙ ap (λ bs. bs ++ word_text (spelled items)) (word_text-node n)
    ∙ ap (λ bs. node_text n ++ bs) (word_text-spelled items)
word_text-spelled (Whole (Token t) ∷ items) = ap (λ bs. t.text ++ bs) (word_text-spelled items)

-- the text of a word is the text of its whole terms
pub word_text-terms : (w : List Symbol) (ts : List Term) → HasTerms w ts
    → word_text w ≡ joined_text ts
word_text-terms w ts h = ap word_text h.parts.spells ∙ word_text-spelled h.items
    ∙ ap joined_text h.terms

pub word_text-parts : (w : List Symbol) (items : List Item) → HasParts w items
    → word_text w ≡ joined_text (whole_terms items)
word_text-parts w items h = ap word_text h.spells ∙ word_text-spelled items

-- one more item behind a word's items
pub parts-more : (v w x : List Symbol) (items : List Item) (i : Item) → HasParts v items
    → w ≡ v ++ x → x ≡ item_word i → HasParts w (items ++ i ∷ [])
parts-more v w x items i h e f = record {
  spells = e ∙ ap (λ u. u ++ x) h.spells
      ∙ ap (λ u. spelled items ++ u) (f ∙ sym (append-nil (item_word i)))
      ∙ sym (flat_map-append item_word items (i ∷ []));
}

pub not_wholes : (before : List Item) (k : ℕ) (ts us : List Term)
    → before ++ Bare k ∷ map Whole ts ≡ map Whole us → ⊥
not_wholes [] k ts [] e = cc
not_wholes [] k ts (u ∷ us) e = cc
not_wholes (b ∷ before) k ts [] e = cc
not_wholes (b ∷ before) k ts (u ∷ us) e =
    let rest : before ++ Bare k ∷ map Whole ts ≡ map Whole us = cc in not_wholes before k ts us rest
