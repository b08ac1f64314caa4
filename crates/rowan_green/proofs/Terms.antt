-- Laws of terms: the two forms of a list of children, and the lengths of what is joined.
use Rattle.std.proofs.Common.{◌≡◌, ℕ, ◌+◌, List, [], ◌∷◌, ◌++◌, length, ◌≤◌, refl, sym, ◌∙◌, ap}
use Rattle.std.proofs.Common.{arith, length-append}
use Rattle.rowan_green.specs.declared.utility_types.NodeOrToken.TheVariants.{Node, Token}
use Rattle.rowan_green.specs.Term.{NodeTerm, node, Forest, empty, node_then, token_then, Term}
use Rattle.rowan_green.specs.Term.{terms, forest, node_of, node_children, forest_text, term_text}
use Rattle.rowan_green.specs.Term.{joined_text, node_len, term_len, sum_of_lens}
use Rattle.rowan_green.specs.Fits.{byte_limit, AreWithin, Fits, FitsNode, FitForest, AllFit}

pub terms-forest : (ts : List Term) → terms (forest ts) ≡ ts
terms-forest [] = refl
terms-forest (Node n ∷ ts) = ap (λ us. Node n ∷ us) (terms-forest ts)
terms-forest (Token t ∷ ts) = ap (λ us. Token t ∷ us) (terms-forest ts)

pub forest-terms : (f : Forest) → forest (terms f) ≡ f
forest-terms empty = refl
forest-terms (node_then n f) = ap (λ g. node_then n g) (forest-terms f)
forest-terms (token_then t f) = ap (λ g. token_then t g) (forest-terms f)

-- the text of a node is its children's texts, one after the other
pub forest_text-forest : (ts : List Term) → forest_text (forest ts) ≡ joined_text ts
forest_text-forest [] = refl
forest_text-forest (Node n ∷ ts) = ap (λ bs. term_text (Node n) ++ bs) (forest_text-forest ts)
forest_text-forest (Token t ∷ ts) = ap (λ bs. term_text (Token t) ++ bs) (forest_text-forest ts)

pub length-joined_text : (ts : List Term) → length (joined_text ts) ≡ sum_of_lens ts
length-joined_text [] = refl
length-joined_text (t ∷ ts) =
    length-append (term_text t) (joined_text ts) ∙ ap (λ n. term_len t + n) (length-joined_text ts)

-- the length of a node is the sum of its children's lengths
pub node_len-node_of : (k : ℕ) (ts : List Term) → node_len (node_of k ts) ≡ sum_of_lens ts
node_len-node_of k ts = ap length (forest_text-forest ts) ∙ length-joined_text ts

pub node_len-children : (n : NodeTerm) → node_len n ≡ sum_of_lens (node_children n)
node_len-children (node k f) =
    ap (λ g. node_len (node k g)) (sym (forest-terms f)) ∙ node_len-node_of k (terms f)

pub sum_of_lens-append : (ts us : List Term)
    → sum_of_lens (ts ++ us) ≡ sum_of_lens ts + sum_of_lens us
sum_of_lens-append [] us = omega arith
sum_of_lens-append (t ∷ ts) us = omega (arith, sum_of_lens-append ts us)

pub FitForest-forest : (ts : List Term) → AllFit ts → FitForest (forest ts)
FitForest-forest [] h = tt
FitForest-forest (Node n ∷ ts) h = (h.0, FitForest-forest ts h.1)
FitForest-forest (Token t ∷ ts) h = (h.0, FitForest-forest ts h.1)

pub FitsNode-node_of : (k : ℕ) (ts : List Term) → AreWithin ts → AllFit ts → FitsNode (node_of k ts)
FitsNode-node_of k ts w h =
    (let P : List Term → Type 0 = AreWithin in rw terms-forest w, FitForest-forest ts h)

pub AllFit-push : (ts : List Term) (t : Term) → AllFit ts → Fits t → AllFit (ts ++ t ∷ [])
AllFit-push [] t h f = (f, tt)
AllFit-push (u ∷ ts) t h f = (h.0, AllFit-push ts t h.1 f)

-- a term that fits has at most as many bytes as the limit
pub Fits-len : (t : Term) → Fits t → term_len t ≤ byte_limit
Fits-len (Node (node k f)) h = omega (arith, h.0.text, node_len-children (node k f))
Fits-len (Token t) h = h
