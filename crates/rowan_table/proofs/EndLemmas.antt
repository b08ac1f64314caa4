-- Laws of ends: a child ends where the next sibling starts, and the last where its parent ends.
use Rattle.std.proofs.Common.{◌≡◌, ℕ, zero, suc, ◌+◌, ◌-◌, ◌<◌, [], ◌∷◌, ◌++◌, length, Option, Some}
use Rattle.std.proofs.Common.{None, sym, ◌∙◌, ap, arith}
use Rattle.std.specs.Prelude.{slice_get}
use Rattle.std.proofs.lemmas.Option.{slice_get_within}
use Rattle.rowan_green.specs.declared.utility_types.NodeOrToken.TheVariants.{Node, Token}
use Rattle.rowan_green.specs.Term.{NodeTerm, Term, sum_of_lens}
use Rattle.rowan_terms.specs.Path.{Path, subterm, offset, len_of}
use Rattle.rowan_green.proofs.SearchLemmas.{child_end-last}
use Rattle.rowan_table.specs.TableView.{IsTokenIn}
use Rattle.rowan_table.specs.Moves.{child_count, children_of, first_at, following}
use Rattle.rowan_table.specs.declared.table.Table.{Table}
use Rattle.rowan_table.proofs.PathLemmas.{subterm-child, offset-child, following-child}
use Rattle.rowan_table.proofs.PathLemmas.{child_start-next, node_len-children, below-first}
use Rattle.rowan_table.proofs.PathLemmas.{below-none}

-- a node is as long as its children together
len_of-children : (o : Option Term) → 0 < length (children_of o)
    → len_of o ≡ sum_of_lens (children_of o)
len_of-children None h = absurd (omega arith)
len_of-children (Some (Node n)) h = node_len-children n
len_of-children (Some (Token t)) h = absurd (omega arith)

child_len : (root : NodeTerm) (q : Path) (i : ℕ)
    → len_of (subterm (Node root) (q ++ i ∷ []))
    ≡ len_of (slice_get (children_of (subterm (Node root) q)) i)
child_len root q i = ap len_of (subterm-child (Some (Node root)) q i)

pub end-next : (root : NodeTerm) (q : Path) (i : ℕ) → i + 1 < child_count root q
    → offset (Node root) (q ++ (i + 1) ∷ []) ≡ offset (Node root) (q ++ i ∷ [])
    + len_of (subterm (Node root) (q ++ i ∷ []))
end-next root q i h =
    omega (
      arith,
      offset-child root q (i + 1) h,
      offset-child root q i (omega arith),
      child_start-next (children_of (subterm (Node root) q)) i (omega arith),
      child_len root q i,
    )

pub end-last : (root : NodeTerm) (q : Path) (i : ℕ) → i + 1 ≡ child_count root q
    → offset (Node root) q + len_of (subterm (Node root) q)
    ≡ offset (Node root) (q ++ i ∷ []) + len_of (subterm (Node root) (q ++ i ∷ []))
end-last root q i h =
    let ts = children_of (subterm (Node root) q) in
    omega (
      arith,
      offset-child root q i (omega arith),
      child_start-next ts i (omega arith),
      child_len root q i,
      child_end-last ts i h,
      len_of-children (subterm (Node root) q) (omega arith),
    )

-- where the next sibling starts
pub end_at_next : (root : NodeTerm) (p q r : Path) (i : ℕ) → p ≡ q ++ i ∷ []
    → Some r ≡ first_at (following root p) → offset (Node root) r
    ≡ offset (Node root) p + len_of (subterm (Node root) p)
end_at_next root p q r i path next =
    let f = below-first q (i + 1) (child_count root q - (i + 1)) r
    (next ∙ ap (λ x. first_at (following root x)) path ∙ ap first_at (following-child root q i)) in
    ap (offset (Node root)) f.0 ∙ end-next root q i (omega (arith, f.1))
    ∙ sym (ap (λ x. offset (Node root) x + len_of (subterm (Node root) x)) path)

-- where the parent ends, if there is no next sibling
pub end_at_last : (root : NodeTerm) (p q : Path) (i : ℕ) (t : Term) → p ≡ q ++ i ∷ []
    → subterm (Node root) p ≡ Some t → None ≡ first_at (following root p)
    → offset (Node root) q + len_of (subterm (Node root) q)
    ≡ offset (Node root) p + len_of (subterm (Node root) p)
end_at_last root p q i t path is next =
    let child : slice_get (children_of (subterm (Node root) q)) i ≡ Some t =
    sym (subterm-child (Some (Node root)) q i) ∙ ap (subterm (Node root)) (sym path) ∙ is in
    let none = below-none q (i + 1) (child_count root q - (i + 1))
    (next ∙ ap (λ x. first_at (following root x)) path ∙ ap first_at (following-child root q i)) in
    end-last root q i (omega (
      arith,
      slice_get_within (children_of (subterm (Node root) q)) i t
          child,
      none,
    ))
    ∙ sym (ap (λ x. offset (Node root) x + len_of (subterm (Node root) x)) path)

-- a token has a parent
pub token_behind : (t : Table) (n : ℕ) → IsTokenIn t n → 0 < n
token_behind t zero h = absurd (cc h.is)
token_behind t (suc n) h = omega arith
