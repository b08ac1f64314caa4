-- Reading words back. The word of a term determines it, so a term is stored as its word.
use Rattle.std.specs.Prelude.{◌≡◌, ℕ, ◌⊎◌, List, [], ◌∷◌, ◌++◌, refl}
use Rattle.std.proofs.Common.{sym, ◌∙◌, ap, inl, inr, append_assoc}
use Rattle.std.proofs.lemmas.List.{append-nil}
use Rattle.std.specs.Coded.{Coded, code_by, coded×, coded⊎, coded_ℕ, coded_list}
use base.Stored.{coded_unit}
use Rattle.rowan_green.specs.declared.utility_types.NodeOrToken.TheVariants.{Node, Token}
use Rattle.rowan_green.specs.Term.{NodeTerm, node, Forest, empty, node_then, token_then, Term}
use Rattle.rowan_green.specs.Word.{Symbol, Open, Leaf, Close, node_word, forest_word, Item, Bare}
use Rattle.rowan_green.specs.Word.{Whole}

-- the items after a closing, where the latest item stands first: a node of the terms after the
-- innermost opening
abbrev pub closed : Forest → List Item → List Item
closed f [] = []
closed f (Bare k ∷ items) = Whole (Node (node k f)) ∷ items
closed f (Whole (Node n) ∷ items) = closed (node_then n f) items
closed f (Whole (Token t) ∷ items) = closed (token_then t f) items

-- the items of a word that goes on after these, where the latest item stands first
abbrev pub read : List Item → List Symbol → List Item
read items [] = items
read items (Open k ∷ w) = read (Bare k ∷ items) w
read items (Leaf t ∷ w) = read (Whole (Token t) ∷ items) w
read items (Close ∷ w) = read (closed empty items) w

-- the terms after the items
abbrev pub pushed : Forest → List Item → List Item
pushed empty items = items
pushed (node_then n f) items = pushed f (Whole (Node n) ∷ items)
pushed (token_then t f) items = pushed f (Whole (Token t) ∷ items)

abbrev joined : Forest → Forest → Forest
joined empty g = g
joined (node_then n f) g = node_then n (joined f g)
joined (token_then t f) g = token_then t (joined f g)

joined-empty : (f : Forest) → joined f empty ≡ f
joined-empty empty = refl
joined-empty (node_then n f) = ap (λ g. node_then n g) (joined-empty f)
joined-empty (token_then t f) = ap (λ g. token_then t g) (joined-empty f)

closed-pushed : (f g : Forest) (items : List Item)
    → closed g (pushed f items) ≡ closed (joined f g) items
closed-pushed empty g items = refl
closed-pushed (node_then n f) g items = closed-pushed f g (Whole (Node n) ∷ items)
closed-pushed (token_then t f) g items = closed-pushed f g (Whole (Token t) ∷ items)

mutual
  pub read-node : (n : NodeTerm) (items : List Item) (w : List Symbol)
      → read items (node_word n ++ w) ≡ read (Whole (Node n) ∷ items) w
  read-node (node k f) items w =
      ap (λ v. read (Bare k ∷ items) v) (append_assoc (forest_word f) (Close ∷ []) w)
      ∙ read-forest f (Bare k ∷ items) (Close ∷ w)
      ∙ ap (λ is. read is w) (closed-pushed f empty (Bare k ∷ items))
      ∙ ap (λ g. read (Whole (Node (node k g)) ∷ items) w) (joined-empty f)

  pub read-forest : (f : Forest) (items : List Item) (w : List Symbol)
      → read items (forest_word f ++ w) ≡ read (pushed f items) w
  read-forest empty items w = refl
  read-forest (node_then n f) items w =
      ap (λ v. read items v) (append_assoc (node_word n) (forest_word f) w)
      ∙ read-node n items (forest_word f ++ w)
      ∙ read-forest f (Whole (Node n) ∷ items) w
  read-forest (token_then t f) items w = read-forest f (Whole (Token t) ∷ items) w

-- the node that stands last, or a node of nothing
abbrev pub last_node : List Item → NodeTerm
last_node (Whole (Node n) ∷ items) = n
last_node _ = node 0 empty

abbrev symbol_cases : Symbol → ℕ ⊎ (ℕ × List ℕ) ⊎ Unit {0}
symbol_cases (Open k) = inl k
symbol_cases (Leaf t) = inr (inl (t.kind, t.text))
symbol_cases Close = inr (inr tt)

abbrev symbol_of : ℕ ⊎ (ℕ × List ℕ) ⊎ Unit {0} → Symbol
symbol_of (inl k) = Open k
symbol_of (inr (inl p)) = Leaf (record { kind = p.0; text = p.1 })
symbol_of (inr (inr u)) = Close

pub symbol_of-cases : (s : Symbol) → symbol_of (symbol_cases s) ≡ s
symbol_of-cases (Open k) = refl
symbol_of-cases (Leaf t) = refl
symbol_of-cases Close = refl

abbrev pub coded_symbol : Coded Symbol
coded_symbol =
    let cases = coded⊎ coded_ℕ (coded⊎ (coded× coded_ℕ (coded_list coded_ℕ)) coded_unit) in
    code_by (ℕ ⊎ (ℕ × List ℕ) ⊎ Unit {0}) cases symbol_cases symbol_of symbol_of-cases

abbrev pub coded_word : Coded (List Symbol)
coded_word = coded_list coded_symbol

pub last_node-word : (n : NodeTerm) → last_node (read [] (node_word n)) ≡ n
last_node-word n =
    ap (λ v. last_node (read [] v)) (sym (append-nil (node_word n)))
    ∙ ap last_node (read-node n [] [])

abbrev pub coded_node : Coded NodeTerm
coded_node = code_by (List Symbol) coded_word node_word (λ w. last_node (read [] w)) last_node-word

abbrev term_cases : Term → NodeTerm ⊎ (ℕ × List ℕ)
term_cases (Node n) = inl n
term_cases (Token t) = inr (t.kind, t.text)

abbrev term_of : NodeTerm ⊎ (ℕ × List ℕ) → Term
term_of (inl n) = Node n
term_of (inr p) = Token (record { kind = p.0; text = p.1 })

pub term_of-cases : (t : Term) → term_of (term_cases t) ≡ t
term_of-cases (Node n) = refl
term_of-cases (Token t) = refl

abbrev pub coded_term : Coded Term
coded_term =
    let cases = coded⊎ coded_node (coded× coded_ℕ (coded_list coded_ℕ)) in
    code_by (NodeTerm ⊎ (ℕ × List ℕ)) cases term_cases term_of term_of-cases
