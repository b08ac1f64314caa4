-- What is in a term is smaller.
use Rattle.std.proofs.Common.{◌≡◌, ℕ, zero, suc, ◌<◌, ◌≤◌, List, [], ◌∷◌, ◌++◌, refl, sym, ◌∙◌, ap}
use Rattle.std.proofs.Common.{arith}
use Rattle.std.specs.Prelude.{Option, Some, None, slice_get}
use Rattle.rowan_green.specs.declared.utility_types.NodeOrToken.TheVariants.{Node, Token}
use Rattle.rowan_green.specs.Term.{Term, node_children}
use Rattle.rowan_terms.specs.Path.{Path, subterm_of, term_children}
use Rattle.rowan_green.specs.Sizes.{term_size, terms_size}
use Rattle.rowan_green.proofs.Drops.{terms_size-node_children}
use Rattle.rowan_table.specs.Cursor.{Cursor, term_at}
use Rattle.rowan_table.proofs.PathLemmas.{subterm_of-append}

get-size : (ts : List Term) (i : ℕ) (v : Term) → slice_get ts i ≡ Some v
    → term_size v ≤ terms_size ts
get-size [] i v e = cc
get-size (t ∷ ts) zero v e =
    let f : t ≡ v = cc e in
    let h : term_size t ≡ term_size v = ap term_size f in
    omega arith
get-size (t ∷ ts) (suc i) v e = omega (arith, get-size ts i v e)

pub child-smaller : (t : Term) (i : ℕ) (v : Term) → slice_get (term_children t) i ≡ Some v
    → term_size v < term_size t
child-smaller (Node n) i v e = omega (
  arith,
  get-size (node_children n) i v e,
  terms_size-node_children n,
)
child-smaller (Token t) i v e = cc

inside-smaller : (t : Term) (i : ℕ) (o : Option Term) → slice_get (term_children t) i ≡ o
    → (q : Path) (u : Term) → subterm_of o q ≡ Some u → term_size u < term_size t
inside-smaller t i None e q u f = cc
inside-smaller t i (Some v) e [] u f =
    let g : v ≡ u = cc f in
    let h : term_size v ≡ term_size u = ap term_size g in
    omega (arith, child-smaller t i v e)
inside-smaller t i (Some v) e (j ∷ q) u f =
    omega (
      arith,
      child-smaller t i v e,
      inside-smaller v j (slice_get (term_children v) j) refl q u
          f,
    )

-- nothing stands in itself
pub not-inside : (t : Term) (i : ℕ) (q : Path) → subterm_of (Some t) (i ∷ q) ≡ Some t → ⊥
not-inside t i q e =
    let h : term_size t < term_size t = inside-smaller t i (slice_get (term_children t) i) refl q t
    e in
    omega arith

pub not_same-below : (c d : Cursor) (i : ℕ) (q : Path) (t : Term) → d.root ≡ c.root
    → d.path ≡ c.path ++ i ∷ q → term_at d ≡ Some t → term_at c ≡ term_at d → ⊥
not_same-below c d i q t e f g h =
    let there : subterm_of (Some (Node c.root)) (c.path ++ i ∷ q) ≡ Some t =
    ap (λ p. subterm_of (Some (Node c.root)) p) (sym f)
    ∙ ap (λ r. subterm_of (Some (Node r)) d.path) (sym e) ∙ g in
    not-inside t i q (ap (λ o. subterm_of o (i ∷ q)) (sym (h ∙ g))
    ∙ sym (subterm_of-append (Some (Node c.root)) c.path (i ∷ q)) ∙ there)
