-- Laws of items, which are what a word spells: bare openings and whole terms.
use Rattle.std.proofs.Common.{◌≡◌, ℕ, List, [], ◌∷◌, ◌++◌, map, refl, sym, ◌∙◌, ap, append_assoc}
use Rattle.std.proofs.lemmas.List.{append-nil}
use Rattle.std.proofs.lemmas.Grind.{flat_map-append}
use Rattle.rowan_green.specs.declared.utility_types.NodeOrToken.TheVariants.{Node, Token}
use Rattle.rowan_green.specs.Term.{Term, node_of, forest}
use Rattle.rowan_green.specs.Word.{Open, Leaf, Close, forest_word, node_word, Item, Bare}
use Rattle.rowan_green.specs.Word.{Whole, item_word, spelled, whole_terms}

pub forest_word-forest : (ts : List Term) → forest_word (forest ts) ≡ spelled (map Whole ts)
forest_word-forest [] = refl
forest_word-forest (Node n ∷ ts) = ap (λ w. node_word n ++ w) (forest_word-forest ts)
forest_word-forest (Token t ∷ ts) = ap (λ w. Leaf t ∷ w) (forest_word-forest ts)

-- a closing makes the opening and the terms after it into one term
pub spelled-close : (before : List Item) (k : ℕ) (ts : List Term)
    → spelled (before ++ Whole (Node (node_of k ts)) ∷ [])
    ≡ spelled (before ++ Bare k ∷ map Whole ts) ++ Close ∷ []
spelled-close before k ts =
    flat_map-append item_word before (Whole (Node (node_of k ts)) ∷ [])
    ∙ ap (λ w. spelled before ++ w)
    (append-nil (node_word (node_of k ts))
    ∙ ap (λ w. Open k ∷ (w ++ Close ∷ [])) (forest_word-forest ts))
    ∙ sym (append_assoc (spelled before) (Open k ∷ spelled (map Whole ts)) (Close ∷ []))
    ∙ ap (λ w. w ++ Close ∷ []) (sym (flat_map-append item_word before (Bare k ∷ map Whole ts)))

pub whole_terms-append : (xs ys : List Item)
    → whole_terms (xs ++ ys) ≡ whole_terms xs ++ whole_terms ys
whole_terms-append [] ys = refl
whole_terms-append (Bare k ∷ xs) ys = whole_terms-append xs ys
whole_terms-append (Whole t ∷ xs) ys = ap (λ ts. t ∷ ts) (whole_terms-append xs ys)

pub whole_terms-map : (ts : List Term) → whole_terms (map Whole ts) ≡ ts
whole_terms-map [] = refl
whole_terms-map (t ∷ ts) = ap (λ us. t ∷ us) (whole_terms-map ts)

-- behind an opening
pub whole_terms-open : (before : List Item) (k : ℕ) (ts : List Term)
    → whole_terms (before ++ Bare k ∷ map Whole ts) ≡ whole_terms before ++ ts
whole_terms-open before k ts =
    whole_terms-append before (Bare k ∷ map Whole ts)
    ∙ ap (λ us. whole_terms before ++ us) (whole_terms-map ts)
