-- The children in a node's memory are those of its term, and each lies at its offset.
use Rattle.std.proofs.Common.{◌≡◌, ℕ, zero, suc, ◌+◌, ◌<◌, List, [], ◌∷◌, map, length, take, drop}
use Rattle.std.proofs.Common.{get_or, Some, sym, ◌∙◌, ap, arith}
use Rattle.std.proofs.lemmas.List.{take-map, drop-map}
use Rattle.std.specs.Prelude.{slice_get}
use Rattle.rowan_green.specs.declared.green.node.GreenChild.{GreenChild}
use Rattle.rowan_green.specs.Term.{NodeTerm, Term, node_children, sum_of_lens, term_len}
use Rattle.rowan_green.specs.View.{Stored, child_term, child_offset, node_view, HasOffsetsFrom}
use Rattle.rowan_green.proofs.Terms.{terms-forest}

pub children-view : (f : Stored) (n : NodeTerm) → node_view f ≡ n
    → map child_term f.tail.items ≡ node_children n
children-view f n e = sym (terms-forest (map child_term f.tail.items)) ∙ ap node_children e

-- the child at an index, in memory and in the term
pub record StandsAt (at : ℕ) (ts : List Term) (i : ℕ) (c : GreenChild) : Type 0 where
  pub offset : child_offset c ≡ at + sum_of_lens (take i ts)
  pub term : slice_get ts i ≡ Some (child_term c)

pub child-at : (at : ℕ) (cs : List GreenChild) (i : ℕ) (c : GreenChild) → HasOffsetsFrom at cs
    → i < length cs → c ≡ get_or cs i c → StandsAt at (map child_term cs) i c
child-at at [] i c h l e = absurd (omega arith)
child-at at (d ∷ cs) zero c h l e =
    record {
      offset = (let p : child_offset c ≡ at = ap child_offset e ∙ h.0 in omega (arith, p));
      term = ap (λ x. Some (child_term x)) (sym e);
    }
child-at at (d ∷ cs) (suc i) c h l e =
    let p = child-at (at + term_len (child_term d)) cs i c h.1 (omega arith) e in
    record { offset = omega (arith, p.offset); term = p.term }

-- the children before a place, and those from it on
pub take-children : (i : ℕ) (cs : List GreenChild) (ts : List Term) → map child_term cs ≡ ts
    → map child_term (take i cs) ≡ take i ts
take-children i cs ts e = sym (take-map child_term i cs) ∙ ap (take i) e

pub drop-children : (i : ℕ) (cs : List GreenChild) (ts : List Term) → map child_term cs ≡ ts
    → map child_term (drop i cs) ≡ drop i ts
drop-children i cs ts e = sym (drop-map child_term i cs) ∙ ap (drop i) e
