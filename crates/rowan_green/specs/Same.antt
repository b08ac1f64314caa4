-- Whether two terms are the same: by kind and text, and by kind and children. The tests decide `≡`.
use Rattle.std.specs.Prelude.{◌≡◌, Bool, true, false, ◌==◌, ◌&&◌, refl}
use Rattle.std.proofs.Common.{◌∙◌, ap, subst}
use Rattle.std.specs.Bool.{Decides}
use Rattle.std.specs.Cmp.{IsEquivalence, decided}
use Rattle.std.specs.Cmp.Lexicographic.{bytes_decides}
use Rattle.std.proofs.lemmas.Bool.{and_from, and_parts, false≢true}
use Rattle.std.proofs.lemmas.Bool.Decides.{Decides-eqb}
use lib.Pointwise.{pointwise}
use Rattle.rowan_green.specs.declared.utility_types.NodeOrToken.TheVariants.{Node, Token}
use Rattle.rowan_green.specs.Term.{TokenTerm, NodeTerm, node, Forest, empty, node_then, token_then}
use Rattle.rowan_green.specs.Term.{Term, token_of, terms}

abbrev pub same_token : TokenTerm → TokenTerm → Bool
same_token t u = (t.kind == u.kind) && pointwise ◌==◌ t.text u.text

abbrev mutual
  pub same_node : NodeTerm → NodeTerm → Bool
  same_node (node k f) (node j g) = (k == j) && same_forest f g

  pub same_forest : Forest → Forest → Bool
  same_forest empty empty = true
  same_forest (node_then n f) (node_then m g) = same_node n m && same_forest f g
  same_forest (token_then t f) (token_then u g) = same_token t u && same_forest f g
  same_forest _ _ = false

abbrev pub same_term : Term → Term → Bool
same_term (Node n) (Node m) = same_node n m
same_term (Token t) (Token u) = same_token t u
same_term _ _ = false

pub same_token-decides : (t u : TokenTerm) → Decides (same_token t u) (t ≡ u)
same_token-decides t u =
    let texts = bytes_decides t.text u.text in
    let kinds = Decides-eqb t.kind u.kind in (
      (λ h.
          let p = and_parts (t.kind == u.kind) (pointwise ◌==◌ t.text u.text) h in
          ap (λ k. token_of k t.text) (kinds.0 p.0) ∙ ap (λ s. token_of u.kind s) (texts.0 p.1)),
      (λ e.
          let same_kind = kinds.1 (ap (λ x. x.kind) e) in
          let same_text = texts.1 (ap (λ x. x.text) e) in
          and_from (t.kind == u.kind) (pointwise ◌==◌ t.text u.text) same_kind same_text),
    )

mutual
  same_node-refl : (n : NodeTerm) → same_node n n ≡ true
  same_node-refl (node k f) =
      and_from (k == k) (same_forest f f) ((Decides-eqb k k).1 refl) (same_forest-refl f)

  same_forest-refl : (f : Forest) → same_forest f f ≡ true
  same_forest-refl empty = refl
  same_forest-refl (node_then n f) =
      and_from (same_node n n) (same_forest f f) (same_node-refl n) (same_forest-refl f)
  same_forest-refl (token_then t f) =
      let same = (same_token-decides t t).1 refl in
      and_from (same_token t t) (same_forest f f) same (same_forest-refl f)

mutual
  same_node-same : (n m : NodeTerm) → same_node n m ≡ true → n ≡ m
  same_node-same (node k f) (node j g) h =
      let p = and_parts (k == j) (same_forest f g) h in
      ap (λ i. node i f) ((Decides-eqb k j).0 p.0) ∙ ap (λ e. node j e) (same_forest-same f g p.1)

  same_forest-same : (f g : Forest) → same_forest f g ≡ true → f ≡ g
  same_forest-same empty empty h = refl
  same_forest-same (node_then n f) (node_then m g) h =
      let p = and_parts (same_node n m) (same_forest f g) h in
      ap (λ x. node_then x f) (same_node-same n m p.0)
      ∙ ap (λ e. node_then m e) (same_forest-same f g p.1)
  same_forest-same (token_then t f) (token_then u g) h =
      let p = and_parts (same_token t u) (same_forest f g) h in
      ap (λ x. token_then x f) ((same_token-decides t u).0 p.0)
      ∙ ap (λ e. token_then u e) (same_forest-same f g p.1)
  same_forest-same empty (node_then m g) h = absurd (false≢true h)
  same_forest-same empty (token_then u g) h = absurd (false≢true h)
  same_forest-same (node_then n f) empty h = absurd (false≢true h)
  same_forest-same (node_then n f) (token_then u g) h = absurd (false≢true h)
  same_forest-same (token_then t f) empty h = absurd (false≢true h)
  same_forest-same (token_then t f) (node_then m g) h = absurd (false≢true h)

pub same_node-decides : (n m : NodeTerm) → Decides (same_node n m) (n ≡ m)
same_node-decides n m =
    (same_node-same n m, λ e. subst (λ x. same_node n x ≡ true) e (same_node-refl n))

pub same_term-decides : (t u : Term) → Decides (same_term t u) (t ≡ u)
same_term-decides (Node n) (Node m) =
    ((λ h. ap (λ x. Node x) (same_node-same n m h)), (λ e. (same_node-decides n m).1 cc))
same_term-decides (Token t) (Token u) =
    let same = same_token-decides t u in
    ((λ h. ap (λ x. Token x) (same.0 h)), (λ e. same.1 cc))
same_term-decides (Node n) (Token u) = ((λ h. absurd (false≢true h)), (λ e. cc))
same_term-decides (Token t) (Node m) = ((λ h. absurd (false≢true h)), (λ e. cc))

pub same_token-laws : IsEquivalence same_token
same_token-laws = decided same_token same_token-decides

pub same_node-laws : IsEquivalence same_node
same_node-laws = decided same_node same_node-decides

-- the children of two nodes, compared pair by pair
pub same_forest-pointwise : (f g : Forest)
    → same_forest f g ≡ pointwise same_term (terms f) (terms g)
same_forest-pointwise empty empty = refl
same_forest-pointwise (node_then n f) (node_then m g) =
    ap (λ b. same_node n m && b) (same_forest-pointwise f g)
same_forest-pointwise (token_then t f) (token_then u g) =
    ap (λ b. same_token t u && b) (same_forest-pointwise f g)
same_forest-pointwise empty (node_then m g) = refl
same_forest-pointwise empty (token_then u g) = refl
same_forest-pointwise (node_then n f) empty = refl
same_forest-pointwise (node_then n f) (token_then u g) = refl
same_forest-pointwise (token_then t f) empty = refl
same_forest-pointwise (token_then t f) (node_then m g) = refl
