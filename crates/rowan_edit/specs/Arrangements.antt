-- Other orders of the children of nodes, beside edits of the same tree.
--     An arrangement gives a node other children: new ones, and those that it has, with the edits
--     inside of them made. All places are those of the tree as it was. Edits and arrangements are
--     made from the last place to the first, so what lies inside of a node comes before the node's
--     own arrangement.
use Rattle.std.specs.Prelude.{◌≡◌, true, not, List, [], ◌∷◌, Option, Some, length, ◌⊎◌}
use Rattle.std.specs.Cmp.Lexicographic.{slice_cmp}
use Rattle.std.specs.List.{AllByRecursion, Contains, filter, list_all}
use Rattle.std.specs.Option.{is_some, option_map}
use Rattle.std.specs.Ordering.{nat_cmp, match_ordering}
use Rattle.rowan_green.specs.declared.utility_types.NodeOrToken.TheVariants.{Node}
use Rattle.rowan_terms.specs.Path.{Path, subterm}
use Rattle.rowan_green.specs.Term.{NodeTerm, Term, node_children}
use Rattle.rowan_table.specs.Moves.{child_count, children_of}
use Rattle.rowan_edit.specs.declared.pieces.Piece.{Piece}
use Rattle.rowan_changes.specs.declared.refusal.Refusal.{Refusal}
use Rattle.rowan_changes.specs.declared.refusal.Refusal.TheVariants.{Conflict, NotFound, Root}
use Rattle.rowan_changes.specs.declared.refusal.Refusal.TheVariants.{OtherTree, Memory}
use Rattle.rowan_changes.specs.Edit.{Edit, edited}
use Rattle.rowan_edit.specs.Inside.{rest_behind, edits_inside}
use Rattle.rowan_edit.specs.Pieces.{is_within, named_in}
use Rattle.rowan_changes.specs.Plan.{IsOf, HasConflict, added}
use Rattle.rowan_changes.specs.Sites.{is_taken_at, site_of}

-- the node at a path gets these pieces as its children
pub record Arrangement : Type 0 where
  pub path : Path
  pub pieces : List Piece

-- a tree, edits of it in the order of their places, and arrangements in the order of their paths
pub record ArrangedPlan : Type 0 where
  pub root : NodeTerm
  pub edits : List Edit
  pub arrangements : List Arrangement

-- ---- one more

abbrev pub with_edit : ArrangedPlan → Edit → ArrangedPlan
with_edit plan e = record {
  root = plan.root;
  edits = added plan.edits e;
  arrangements = plan.arrangements;
}

-- an arrangement comes behind those of smaller paths
abbrev pub put_in : List Arrangement → Arrangement → List Arrangement
put_in [] a = a ∷ []
put_in (b ∷ bs) a =
    match_ordering (slice_cmp nat_cmp a.path b.path) (a ∷ b ∷ bs) (a ∷ bs) (b ∷ put_in bs a)

abbrev pub with_arrangement : ArrangedPlan → Arrangement → ArrangedPlan
with_arrangement plan a = record {
  root = plan.root;
  edits = plan.edits;
  arrangements = put_in plan.arrangements a;
}

-- ---- why not

-- the gap before the first child of the node at a path
abbrev pub gap : Path → Edit
gap p = record { parent = p; start = 0; end = 0; new = [] }

-- an edit is one of the children of the node at a path, or it takes away the node, or something
-- around it
abbrev pub Excludes : Edit → Path → Type 0
Excludes e p = (e.parent ≡ p) ⊎ (is_taken_at p (site_of e) ≡ true)

-- no edit does, and one does
abbrev pub AreFree : List Edit → Path → Type 0
AreFree es p = AllByRecursion (λ e. ¬ Excludes e p) es

abbrev pub HasExcluding : List Edit → Path → Type 0
HasExcluding es p = (e : Edit) × Contains es e × Excludes e p

abbrev pub HasExcluded : List Arrangement → Edit → Type 0
HasExcluded rs e = (a : Arrangement) × Contains rs a × Excludes e a.path

abbrev pub HasPath : List Arrangement → Path → Type 0
HasPath rs p = (a : Arrangement) × Contains rs a × (a.path ≡ p)

-- the node stands in the tree, and has all children that are pieces
pub record IsArrangementOf (root : NodeTerm) (a : Arrangement) : Type 0 where
  pub node : NodeTerm
  pub stands : subterm (Node root) a.path ≡ Some (Node node)
  pub within : list_all (is_within (length (node_children node))) a.pieces ≡ true

-- why an edit is not taken
abbrev pub WhyRefused : ArrangedPlan → Edit → Refusal → Type 0
WhyRefused plan e Conflict = HasConflict plan.edits e ⊎ HasExcluded plan.arrangements e
WhyRefused plan e NotFound = ¬ IsOf plan.root e
WhyRefused plan e Root = ⊥
WhyRefused plan e OtherTree = ⊥
WhyRefused plan e Memory = Unit {0}

-- why an arrangement is not taken
abbrev pub WhyNotArranged : ArrangedPlan → Arrangement → Refusal → Type 0
WhyNotArranged plan a Conflict = HasPath plan.arrangements a.path ⊎ HasExcluding plan.edits a.path
WhyNotArranged plan a NotFound = ¬ IsArrangementOf plan.root a
WhyNotArranged plan a Root = ⊥
WhyNotArranged plan a OtherTree = ⊥
WhyNotArranged plan a Memory = Unit {0}

-- ---- arrangements as edits

-- what stands at a path, with edits made in it
abbrev pub edited_at : NodeTerm → Path → List Edit → Option Term
edited_at root p es = option_map (λ u. edited u es) (subterm (Node root) p)

-- all children of the node give way to what the pieces are among them, once edits are made in it
abbrev pub as_edit : NodeTerm → List Edit → Arrangement → Edit
as_edit root inside a = record {
  parent = a.path;
  start = 0;
  end = child_count root a.path;
  new = named_in (children_of (edited_at root a.path inside)) a.pieces;
}

-- the edits that are not inside of what stands at a path
abbrev pub edits_outside : Path → List Edit → List Edit
edits_outside p es = filter (λ e. not (is_some (rest_behind p e.parent))) es

-- edits and one arrangement, as edits: those inside of the node are in what comes there
abbrev pub arranged : NodeTerm → List Edit → Arrangement → List Edit
arranged root es a = added (edits_outside a.path es) (as_edit root (edits_inside a.path es) a)

-- edits and arrangements, as edits
abbrev pub all_arranged : NodeTerm → List Edit → List Arrangement → List Edit
all_arranged root es [] = es
all_arranged root es (a ∷ rs) = arranged root (all_arranged root es rs) a

abbrev pub plain_edits : ArrangedPlan → List Edit
plain_edits plan = all_arranged plan.root plan.edits plan.arrangements
