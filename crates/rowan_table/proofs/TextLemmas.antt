-- The texts of the tokens of a term: they stand at its leaves, and one after the other they are its
-- text.
use Rattle.std.proofs.Common.{◌≡◌, ℕ, suc, ◌+◌, List, [], ◌∷◌, ◌++◌, map, Option, Some, None, refl}
use Rattle.std.proofs.Common.{sym, ◌∙◌, ap, arith}
use Rattle.std.specs.Prelude.{slice_get}
use Rattle.std.specs.List.{concat, flat_map}
use Rattle.std.proofs.lemmas.List.{map-append}
use Rattle.std.proofs.lemmas.Simd.{map-map}
use Rattle.rowan_green.specs.declared.utility_types.NodeOrToken.TheVariants.{Node, Token}
use Rattle.rowan_green.specs.Term.{NodeTerm, node, Forest, empty, node_then, token_then, Term}
use Rattle.rowan_green.specs.Term.{terms}
use Rattle.rowan_terms.specs.Path.{Path, LeafAt, subterm_of, subterm, text_of, below_place}
use Rattle.rowan_terms.specs.Path.{node_leaves, leaves_from, leaves, tokens}
use Rattle.rowan_table.specs.Pass.{leaf_list, of_some}
use Rattle.rowan_table.specs.SyntaxText.{token_texts}
use Rattle.rowan_table.specs.Chunks.{texts_at}
use Rattle.rowan_terms.proofs.LeafLaws.{text-tokens as joined_tokens}
use Rattle.rowan_table.proofs.PathLemmas.{subterm_of-append}

abbrev texts_of : List LeafAt → List (List ℕ)
texts_of ls = map (λ l. l.1.text) ls

-- one function in place of another on a list
pub map_same : {A B : Type 0} (f g : A → B) (xs : List A) → ((x : A) → f x ≡ g x)
    → map f xs ≡ map g xs
map_same f g [] h = refl
map_same f g (x ∷ xs) h = ap (λ y. y ∷ map f xs) (h x) ∙ ap (λ ys. g x ∷ ys) (map_same f g xs h)

mutual
  at_leaves-node : (n : NodeTerm) → map (λ l. text_of (subterm (Node n) l.0)) (node_leaves n)
      ≡ texts_of (node_leaves n)
  at_leaves-node (node k f) =
      at_leaves-forest (λ q. text_of (subterm (Node (node k f)) q)) 0 f
      (λ j q. (let e : 0 + j ≡ j = omega arith in
      ap (λ i. text_of (subterm_of (slice_get (terms f) i) q)) e))

  -- what stands at the leaves of children from place m on
  at_leaves-forest : (text : Path → List ℕ) (m : ℕ) (f : Forest)
      → ((j : ℕ) (q : Path) → text ((m + j) ∷ q) ≡ text_of (subterm_of (slice_get (terms f) j) q))
      → map (λ l. text l.0) (leaves_from m f) ≡ texts_of (leaves_from m f)
  at_leaves-forest text m empty h = refl
  at_leaves-forest text m (node_then n f) h =
      let here : m + 0 ≡ m = omega arith in
      let own = map (below_place m) (node_leaves n) in
      map-append (λ l. text l.0) own (leaves_from (m + 1) f)
      ∙ ap (λ us. us ++ map (λ l. text l.0) (leaves_from (m + 1) f))
      (map-map (λ l. text l.0) (below_place m) (node_leaves n)
      ∙ map_same (λ l. text (m ∷ l.0)) (λ l. text_of (subterm (Node n) l.0)) (node_leaves n)
      (λ l. ap (λ i. text (i ∷ l.0)) (sym here) ∙ h 0 l.0)
      ∙ at_leaves-node n ∙ sym (map-map (λ l. l.1.text) (below_place m) (node_leaves n)))
      ∙ ap (λ us. texts_of own ++ us)
      (at_leaves-forest text (m + 1) f (λ j q.
      (let e : (m + 1) + j ≡ m + suc j = omega arith in ap (λ i. text (i ∷ q)) e ∙ h (suc j) q)))
      ∙ sym (map-append (λ l. l.1.text) own (leaves_from (m + 1) f))
  at_leaves-forest text m (token_then t f) h =
      let here : m + 0 ≡ m = omega arith in
      ap (λ u. u ∷ map (λ l. text l.0) (leaves_from (m + 1) f))
      (ap (λ i. text (i ∷ [])) (sym here) ∙ h 0 [])
      ∙ ap (λ us. t.text ∷ us)
      (at_leaves-forest text (m + 1) f (λ j q.
      (let e : (m + 1) + j ≡ m + suc j = omega arith in ap (λ i. text (i ∷ q)) e ∙ h (suc j) q)))

at_leaves : (t : Term) → map (λ l. text_of (subterm t l.0)) (leaves t) ≡ texts_of (leaves t)
at_leaves (Node n) = at_leaves-node n
at_leaves (Token t) = refl

at_some_leaves : (t : Option Term) → map (λ q. text_of (subterm_of t q)) (of_some leaf_list t)
    ≡ token_texts t
at_some_leaves None = refl
at_some_leaves (Some t) = map-map (λ q. text_of (subterm t q)) (λ l. l.0) (leaves t) ∙ at_leaves t
    ∙ sym (map-map (λ u. u.text) (λ l. l.1) (leaves t))

-- the texts at the leaves below a path
pub texts_at-below : (root : NodeTerm) (p : Path)
    → texts_at root (map (λ q. p ++ q) (of_some leaf_list (subterm (Node root) p)))
    ≡ token_texts (subterm (Node root) p)
texts_at-below root p =
    let u = subterm (Node root) p in
    map-map (λ q. text_of (subterm (Node root) q)) (λ q. p ++ q) (of_some leaf_list u)
    ∙ map_same (λ q. text_of (subterm (Node root) (p ++ q))) (λ q. text_of (subterm_of u q))
    (of_some leaf_list u) (λ q. ap text_of (subterm_of-append (Some (Node root)) p q))
    ∙ at_some_leaves u

joined : {A : Type 0} (f : A → List ℕ) (xs : List A) → concat (map f xs) ≡ flat_map f xs
joined f [] = refl
joined f (x ∷ xs) = ap (λ us. f x ++ us) (joined f xs)

-- the text of a term is the texts of its tokens, one after the other
pub text-tokens : (t : Option Term) → concat (token_texts t) ≡ text_of t
text-tokens None = refl
text-tokens (Some t) = joined (λ u. u.text) (tokens t) ∙ sym (joined_tokens t)
