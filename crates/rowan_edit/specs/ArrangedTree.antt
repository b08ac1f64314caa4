-- The tree that edits and arrangements make, one after the other.
use Rattle.std.specs.Prelude.{◌≡◌, not, List, [], ◌∷◌, Option, Some, None}
use Rattle.std.specs.Cmp.Lexicographic.{slice_cmp}
use Rattle.std.specs.List.{AllByRecursion, filter}
use Rattle.std.specs.Ordering.{nat_cmp}
use Rattle.std.specs.declared.cmp.Ordering.TheVariants.{Less}
use Rattle.rowan_green.specs.declared.utility_types.NodeOrToken.TheVariants.{Node, Token}
use Rattle.rowan_terms.specs.Path.{Path, subterm, put}
use Rattle.rowan_green.specs.Term.{Term, node_of, node_kind, node_children}
use Rattle.rowan_edit.specs.declared.pieces.Piece.{Piece}
use Rattle.rowan_edit.specs.Arrangements.{Arrangement, ArrangedPlan, IsArrangementOf, AreFree, gap}
use Rattle.rowan_changes.specs.Edit.{Edit, edited, ends_before}
use Rattle.rowan_edit.specs.Pieces.{named_in}
use Rattle.rowan_changes.specs.Plan.{AreInOrder}

-- the node with what pieces are among its children in place of these; a token has none
abbrev pub with_pieces : Term → List Piece → Term
with_pieces (Node n) pieces = Node (node_of (node_kind n) (named_in (node_children n) pieces))
with_pieces (Token t) pieces = Token t

-- what stands at the path, if anything does, with its pieces
abbrev pub put_pieces : Term → Arrangement → Option Term → Term
put_pieces t a None = t
put_pieces t a (Some u) = put t a.path (with_pieces u a.pieces)

-- the term after one arrangement
abbrev pub arranged_once : Term → Arrangement → Term
arranged_once t a = put_pieces t a (subterm t a.path)

-- the edits that end before the first child of the node at a path, and the others
abbrev pub edits_early : Path → List Edit → List Edit
edits_early p es = filter (λ e. ends_before e (gap p)) es

abbrev pub edits_late : Path → List Edit → List Edit
edits_late p es = filter (λ e. not (ends_before e (gap p))) es

-- the term after edits and arrangements, which are made from the last place to the first
abbrev pub all_made : Term → List Edit → List Arrangement → Term
all_made t es [] = edited t es
all_made t es (a ∷ rs) =
    edited (arranged_once (all_made t (edits_late a.path es) rs) a) (edits_early a.path es)

-- the arrangements stand in the order of their paths
abbrev pub AreInPathOrder : List Arrangement → Type 0
AreInPathOrder [] = Unit {0}
AreInPathOrder (a ∷ rs) =
    AllByRecursion (λ b. slice_cmp nat_cmp a.path b.path ≡ Less) rs × AreInPathOrder rs

-- the plan is one of its tree, and no edit excludes an arrangement
pub record IsPlanned (plan : ArrangedPlan) : Type 0 where
  pub edits : AreInOrder plan.root plan.edits
  pub order : AreInPathOrder plan.arrangements
  pub arrangements : AllByRecursion (IsArrangementOf plan.root) plan.arrangements
  pub free : AllByRecursion (λ a. AreFree plan.edits a.path) plan.arrangements
