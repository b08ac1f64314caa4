-- Replacements: a new root in which another node or token stands at a cursor, and all else stays.
--     A node takes the place of a node, and a token that of a token, of the same kind. The kind is
--     looked at first, and then whether the whole new tree is within the limits.
use Rattle.std.specs.Prelude.{◌≡◌, ◌≢◌, true, Some}
use Rattle.rowan_green.specs.declared.fault.Fault.{Fault}
use Rattle.rowan_green.specs.declared.fault.Fault.TheVariants.{TextTooLong, OtherKind, Memory}
use Rattle.rowan_green.specs.declared.utility_types.NodeOrToken.TheVariants.{Node}
use Rattle.rowan_green.specs.Fits.{Fits, FitsNode}
use Rattle.rowan_terms.specs.Path.{Path, subterm, range, put, separate, moved_range}
use Rattle.rowan_green.specs.Term.{NodeTerm, Term, term_kind}
use Rattle.rowan_table.specs.Cursor.{Cursor, kind}

-- the term is of the kind of what stands at the cursor
abbrev pub HasKindOf : Cursor → Term → Type 0
HasKindOf c u = kind c ≡ Some (term_kind u)

-- the whole tree, with u at the cursor
abbrev pub with_replacement : Cursor → Term → Term
with_replacement c u = put (Node c.root) c.path u

-- the new root is the old one with u at the cursor, of the same kind, and within the limits
pub record IsReplacement (c : Cursor) (u : Term) (n : NodeTerm) : Type 0 where
  pub kind : HasKindOf c u
  pub root : Node n ≡ with_replacement c u
  pub fits : FitsNode n

-- what stands apart from the cursor stays, and its range moves with the text before it; another
-- replacement there makes the same tree, before this one or after it
pub record KeepsTheRest (c : Cursor) (u : Term) (n : NodeTerm) : Type 0 where
  pub subterms : (q : Path) → separate c.path q ≡ true
      → subterm (Node n) q ≡ subterm (Node c.root) q
  pub ranges : (q : Path) → separate c.path q ≡ true
      → range (Node n) q ≡ moved_range (Node c.root) c.path u q
  pub orders : (q : Path) (v : Term) → separate c.path q ≡ true
      → put (Node n) q v ≡ put (put (Node c.root) q v) c.path u

-- why u is not put at a cursor: it is of another kind; or it is of the same kind, but the new tree
-- would pass the limits, or there is no memory
abbrev pub WhyNoReplacement : Cursor → Term → Fault → Type 0
WhyNoReplacement c u OtherKind = ¬ HasKindOf c u
WhyNoReplacement c u TextTooLong = HasKindOf c u × ¬ Fits (with_replacement c u)
WhyNoReplacement c u Memory = HasKindOf c u
WhyNoReplacement c u _ = ⊥

-- why the whole tree with u at a cursor is not made: for want of memory, or since it would pass the
-- limits
abbrev pub WhyNoRoot : Cursor → Term → Fault → Type 0
WhyNoRoot c u e = e ≢ Memory → (e ≡ TextTooLong) × ¬ Fits (with_replacement c u)
