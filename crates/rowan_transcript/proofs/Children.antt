-- A node is larger than each node among its children.
use Rattle.std.proofs.Common.{◌≡◌, ℕ, zero, suc, ◌<◌, ◌≤◌, List, [], ◌∷◌, Some, ap, arith}
use Rattle.std.specs.Prelude.{slice_get}
use Rattle.rowan_green.specs.declared.utility_types.NodeOrToken.TheVariants.{Node}
use Rattle.rowan_green.specs.Sizes.{term_size, terms_size}
use Rattle.rowan_green.specs.Term.{NodeTerm, Term, node_size, node_children}
use Rattle.rowan_green.proofs.Drops.{terms_size-node_children}

term_size-at : (ts : List Term) (i : ℕ) (t : Term)
    → slice_get ts i ≡ Some t → term_size t ≤ terms_size ts
term_size-at [] i t e = cc
term_size-at (u ∷ ts) zero t e =
    let f : u ≡ t = cc e in
    let h : term_size u ≡ term_size t = ap term_size f in
    omega arith
term_size-at (u ∷ ts) (suc i) t e = omega (arith, term_size-at ts i t e)

pub node_size-child : (n m : NodeTerm) (i : ℕ)
    → slice_get (node_children n) i ≡ Some (Node m) → node_size m < node_size n
node_size-child n m i e =
    omega (arith, term_size-at (node_children n) i (Node m) e, terms_size-node_children n)
