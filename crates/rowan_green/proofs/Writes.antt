-- What a node feeds a hasher, and its text, by its list of children.
use Rattle.std.proofs.Common.{◌≡◌, ℕ, List, [], ◌∷◌, ◌++◌, append_assoc, length, refl, ◌∙◌, ap, sym}
use Rattle.std.proofs.Common.{fold}
use Rattle.std.specs.Hash as fed
use Rattle.std.specs.declared.fmt.Formatter.{Formatter}
use Rattle.std.proofs.Output.{has_written_append}
use Rattle.rowan_green.specs.Unread.{WritesUpTo}
use Rattle.std.proofs.lemmas.Grind.{flat_map-append, fold-append}
use Rattle.rowan_green.proofs.Terms.{forest-terms, forest_text-forest}
use Rattle.rowan_green.specs.Term.{Term, NodeTerm, node, Forest, empty, node_then, token_then}
use Rattle.rowan_green.specs.Term.{node_kind, node_children, terms, node_text, forest_text}
use Rattle.rowan_green.specs.Term.{term_text, joined_text}
use Rattle.rowan_green.specs.Feeds.{fed_head, fed_node, fed_token, fed_forest, fed_term, fed_terms}
use Rattle.rowan_green.specs.declared.utility_types.NodeOrToken.TheVariants.{Node}

fed_forest-terms : (f : Forest) → fed_forest f ≡ fed_terms (terms f)
fed_forest-terms empty = refl
fed_forest-terms (node_then n f) = ap (λ ws. fed.u8 0 ++ fed_node n ++ ws) (fed_forest-terms f)
fed_forest-terms (token_then t f) = ap (λ ws. fed.u8 1 ++ fed_token t ++ ws) (fed_forest-terms f)

pub fed_node-children : (n : NodeTerm)
    → fed_node n ≡ fed.u16 (node_kind n) ++ fed.usize (length (node_children n))
    ++ fed_terms (node_children n)
fed_node-children (node k f) =
    ap (λ ws. fed.u16 k ++ fed.usize (length (terms f)) ++ ws) (fed_forest-terms f)

pub fed_node-head : (n : NodeTerm) → fed_node n ≡ fed_head n ++ fed_terms (node_children n)
fed_node-head n = fed_node-children n

-- the terms of a list, and then others
pub fold-terms : {S : Type 0} (write : S → List ℕ → S) (s : S) (ts us : List Term)
    → fold write s (fed_terms (ts ++ us)) ≡ fold write (fold write s (fed_terms ts)) (fed_terms us)
fold-terms write s ts us =
    ap (λ ws. fold write s ws) (flat_map-append fed_term ts us)
    ∙ fold-append write s (fed_terms ts) (fed_terms us)

-- a node's head is fed, and then its children
pub fold-node : {S : Type 0} (write : S → List ℕ → S) (s0 s1 : S) (n : NodeTerm) (ts : List Term)
    → s1 ≡ fold write s0 (fed_head n) → ts ≡ node_children n
    → fold write s0 (fed_node n) ≡ fold write s1 (fed_terms ts)
fold-node write s0 s1 n ts e x =
    ap (λ ws. fold write s0 ws) (fed_node-head n)
    ∙ fold-append write s0 (fed_head n) (fed_terms (node_children n))
    ∙ ap (λ s. fold write s (fed_terms (node_children n))) (sym e)
    ∙ ap (λ us. fold write s1 (fed_terms us)) (sym x)

-- so it is where other terms follow
pub fold-entered : {S : Type 0} (write : S → List ℕ → S) (s0 s1 s2 : S) (n : NodeTerm)
    (ts us : List Term) → s1 ≡ write s0 (0 ∷ []) → s2 ≡ fold write s1 (fed_head n)
    → ts ≡ node_children n → fold write s2 (fed_terms (ts ++ us))
    ≡ fold write s0 (fed_terms (Node n ∷ us))
fold-entered write s0 s1 s2 n ts us e x y =
    fold-terms write s2 ts us
    ∙ ap (λ s. fold write s (fed_terms us)) (sym (fold-node write s1 s2 n ts x y))
    ∙ ap (λ s. fold write (fold write s (fed_node n)) (fed_terms us)) e
    ∙ sym (fold-append write s0 (fed_term (Node n)) (fed_terms us))

pub node_text-children : (n : NodeTerm) → node_text n ≡ joined_text (node_children n)
node_text-children (node k f) = ap forest_text (sym (forest-terms f)) ∙ forest_text-forest (terms f)

-- a node's text is its children's, also where other terms follow
pub joined_text-entered : (n : NodeTerm) (ts us : List Term) → ts ≡ node_children n
    → joined_text (Node n ∷ us) ≡ joined_text (ts ++ us)
joined_text-entered n ts us e =
    ap (λ bs. bs ++ joined_text us) (node_text-children n ∙ ap joined_text (sym e))
    ∙ sym (flat_map-append term_text ts us)

-- what is written up to an end of the text, and then up to an end of that
pub writes_more : {W : Type 0} (took : W → List ℕ → W → Type 0) (f g h : Formatter W)
    (text left rest less : List ℕ) → WritesUpTo took f text left g → left ≡ rest
    → WritesUpTo took g rest less h → WritesUpTo took f text less h
writes_more took f g h text left rest less a e b p =
    let x = a p in
    let y = b x.1.0.plain in (
      x.0 ++ y.0,
      (
        has_written_append _ _ _ _ _ _ x.1.0 y.1.0,
        x.1.1
            ∙ ap (λ bs. x.0 ++ bs) (e ∙ y.1.1) ∙ sym (append_assoc x.0 y.0 less),
      ),
    )
