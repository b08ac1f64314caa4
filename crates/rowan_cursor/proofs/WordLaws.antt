-- A walk with tokens spells its subtree: its events, read as symbols, are the word.
use Rattle.std.proofs.Common.{◌≡◌, ℕ, suc, List, [], ◌∷◌, ◌++◌, map, drop, Some, refl, ◌∙◌, ap}
use Rattle.std.specs.Prelude.{slice_get}
use Rattle.std.specs.List.{flat_map}
use Rattle.std.proofs.lemmas.Grind.{flat_map-append}
use Rattle.rowan_green.specs.declared.utility_types.NodeOrToken.TheVariants.{Node, Token}
use Rattle.rowan_green.specs.declared.utility_types.WalkEvent.{WalkEvent}
use Rattle.rowan_green.specs.declared.utility_types.WalkEvent.TheVariants.{Enter, Leave}
use Rattle.rowan_green.specs.Term.{NodeTerm, node, Forest, empty, node_then, token_then, Term}
use Rattle.rowan_green.specs.Term.{terms, node_children}
use Rattle.rowan_terms.specs.Path.{Path, subterm}
use Rattle.rowan_green.specs.Word.{Symbol, Open, node_word, forest_word, term_word}
use Rattle.rowan_table.specs.Cursor.{Cursor, term_at}
use Rattle.rowan_table.specs.Moves.{children_of, element_at}
use Rattle.rowan_table.specs.Preorder.{event_map, node_events, forest_events, term_events}
use Rattle.rowan_table.specs.Preorder.{path_events, preorder_with_tokens, opening, closing}
use Rattle.rowan_table.specs.Preorder.{event_symbols}
use Rattle.rowan_table.proofs.CoverLemmas.{place_of-element}
use Rattle.rowan_table.proofs.OffsetLemmas.{drop-first}
use Rattle.rowan_table.proofs.PathLemmas.{subterm-child}

-- the symbol of an event at a path
abbrev symbols_at : NodeTerm → WalkEvent Path → List Symbol
symbols_at root (Enter p) = opening (subterm (Node root) p)
symbols_at root (Leave p) = closing (subterm (Node root) p)

abbrev spelled_by : NodeTerm → List (WalkEvent Path) → List Symbol
spelled_by root es = flat_map (symbols_at root) es

-- the child at the front of what is left of a node's children
front-child : (root : NodeTerm) (p : Path) (n : NodeTerm) (i : ℕ) (c : Term) (ts : List Term)
    → subterm (Node root) p ≡ Some (Node n) → drop i (node_children n) ≡ c ∷ ts
    → subterm (Node root) (p ++ i ∷ []) ≡ Some c
front-child root p n i c ts there rest =
    subterm-child (Some (Node root)) p i ∙ ap (λ o. slice_get (children_of o) i) there
    ∙ (drop-first i (node_children n) c ts rest).0

mutual
  node-spelled : (root : NodeTerm) (p : Path) (n : NodeTerm) → subterm (Node root) p ≡ Some (Node n)
      → spelled_by root (node_events p n) ≡ node_word n
  node-spelled root p (node k f) there =
      ap (λ o. opening o ++ spelled_by root (forest_events p 0 f ++ Leave p ∷ [])) there
      ∙ ap (λ us. Open k ∷ us)
      (flat_map-append (symbols_at root) (forest_events p 0 f) (Leave p ∷ [])
      ∙ ap (λ us. us ++ (closing (subterm (Node root) p) ++ []))
      (forest-spelled root p (node k f) 0 f there refl)
      ∙ ap (λ o. forest_word f ++ (closing o ++ [])) there)

  forest-spelled : (root : NodeTerm) (p : Path) (n : NodeTerm) (i : ℕ) (f : Forest)
      → subterm (Node root) p ≡ Some (Node n) → drop i (node_children n) ≡ terms f
      → spelled_by root (forest_events p i f) ≡ forest_word f
  forest-spelled root p n i empty there rest = refl
  forest-spelled root p n i (node_then m f) there rest =
      let own = node_events (p ++ i ∷ []) m in
      let later = forest_events p (suc i) f in
      flat_map-append (symbols_at root) own later
      ∙ ap (λ us. us ++ spelled_by root later)
      (node-spelled root (p ++ i ∷ []) m (front-child root p n i (Node m) (terms f) there rest))
      ∙ ap (λ us. node_word m ++ us) (forest-spelled root p n (suc i) f there
      (drop-first i (node_children n) (Node m) (terms f) rest).1)
  forest-spelled root p n i (token_then t f) there rest =
      let later = spelled_by root (forest_events p (suc i) f) in
      ap (λ o. opening o ++ (closing o ++ later))
      (front-child root p n i (Token t) (terms f) there rest)
      ∙ ap (λ us. term_word (Token t) ++ us) (forest-spelled root p n (suc i) f there
      (drop-first i (node_children n) (Token t) (terms f) rest).1)

term-spelled : (root : NodeTerm) (p : Path) (t : Term) → subterm (Node root) p ≡ Some t
    → spelled_by root (term_events p (Some t)) ≡ term_word t
term-spelled root p (Node n) there = node-spelled root p n there
term-spelled root p (Token t) there = ap (λ o. opening o ++ (closing o ++ [])) there

-- the same of the events of elements
elements-spelled : (root : NodeTerm) (es : List (WalkEvent Path))
    → flat_map event_symbols (map (event_map (element_at root)) es) ≡ spelled_by root es
elements-spelled root [] = refl
elements-spelled root (Enter p ∷ es) =
    ap (λ c. opening (term_at c) ++ flat_map event_symbols (map (event_map (element_at root)) es))
    (place_of-element root p)
    ∙ ap (λ us. opening (subterm (Node root) p) ++ us) (elements-spelled root es)
elements-spelled root (Leave p ∷ es) =
    ap (λ c. closing (term_at c) ++ flat_map event_symbols (map (event_map (element_at root)) es))
    (place_of-element root p)
    ∙ ap (λ us. closing (subterm (Node root) p) ++ us) (elements-spelled root es)

pub walk-spells : (c : Cursor) (t : Term) → term_at c ≡ Some t
    → flat_map event_symbols (preorder_with_tokens c) ≡ term_word t
walk-spells c t there =
    elements-spelled c.root (path_events c.root c.path)
    ∙ ap (λ o. spelled_by c.root (term_events c.path o)) there ∙ term-spelled c.root c.path t there
