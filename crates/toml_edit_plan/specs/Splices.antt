-- Splices as edits of a tree.
use Rattle.std.specs.Prelude.{◌≡◌, ◌≤◌, ◌-◌, List, [], ◌∷◌}
use Rattle.std.specs.List.{flat_map}
use Rattle.rowan.specs.Cursor.{term_at}
use Rattle.rowan.specs.Moves.{children_of}
use Rattle.rowan.specs.Term.{NodeTerm, Term, TokenTerm}
use Rattle.rowan.specs.Refs.{node_place}
use Rattle.rowan_edit.specs.Edit.{Edit}
use Rattle.rowan_edit.specs.Plan.{added}
use Rattle.toml_edit_plan.specs.declared.splice.Splice.{Splice}
use Rattle.toml_edit_plan.specs.declared.counts.Sort.TheVariants as sort
use Rattle.toml_edit_plan.specs.Counts.{count_of, part}
use Rattle.toml_edit_plan.specs.Runs.{nodes_in, others_in}

-- what a splice does
abbrev pub edit_of : Splice → Edit
edit_of s = record {
  parent = (node_place s.parent).path;
  start = s.start;
  end = s.end;
  new = s.new.items;
}

-- edits in the order of their places, with what more splices do
abbrev pub edits_with : List Edit → List Splice → List Edit
edits_with es [] = es
edits_with es (s ∷ ss) = edits_with (added es (edit_of s)) ss

-- what splices do, in the order of their places
abbrev pub edits_of : List Splice → List Edit
edits_of splices = edits_with [] splices

-- a splice that takes nothing away
abbrev pub Adds : Splice → Type 0
Adds s = s.start ≡ s.end

-- the children that a splice takes away
abbrev pub taken : Splice → List Term
taken s = part s.start (s.end - s.start) (children_of (term_at (node_place s.parent)))

-- a splice that puts nothing in, and takes no more commas away than nodes
abbrev pub Takes : Splice → Type 0
Takes s =
    (s.new.items ≡ []) × (count_of sort.Comma (taken s) ≤ count_of sort.Node (taken s))

-- the nodes that splices put in, in the order of the splices
abbrev pub nodes_put : List Splice → List NodeTerm
nodes_put splices = flat_map (λ s. nodes_in s.new.items) splices

-- the tokens that splices put in and that are neither white space nor commas
abbrev pub others_put : List Splice → List TokenTerm
others_put splices = flat_map (λ s. others_in s.new.items) splices

-- a splice of a tree
abbrev pub IsIn : NodeTerm → Splice → Type 0
IsIn root s = (node_place s.parent).root ≡ root
