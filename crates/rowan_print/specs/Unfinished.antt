-- JSON in the making: the values of the children of each open node, as a walk goes on.
use Rattle.std.specs.Prelude.{ℕ, ◌-◌, List, [], ◌∷◌, ◌++◌, map, take, length, slice_index_or}
use Rattle.serde_json.specs.Data.{Data}
use Rattle.serde_json.specs.View.{view}
use Rattle.rowan_green.specs.declared.utility_types.NodeOrToken.TheVariants.{Node, Token}
use Rattle.rowan_table.specs.Cursor.{text_range}
use Rattle.rowan_table.specs.Moves.{Element}
use Rattle.rowan_print.specs.Printed.{kind_name, node_object, tree_json}
use Rattle.rowan_print.specs.declared.json_value.Draft.{Draft}

-- of the innermost open node, and of each node around it, outermost first
pub record Unfinished : Type 0 where
  pub inner : List Data
  pub outer : List (List Data)

abbrev pub values_of : Draft → Unfinished
values_of d = record {
  inner = map view d.inner.items;
  outer = map (λ v. map view v.items) d.outer.items;
}

-- a node that is entered is open and has no values yet; a token is finished
abbrev pub after_enter : (ℕ → List ℕ) → Element → Unfinished → Unfinished
after_enter name (Node c) u = record { inner = []; outer = u.outer ++ u.inner ∷ [] }
after_enter name (Token c) u = record { inner = u.inner ++ tree_json name c ∷ []; outer = u.outer }

-- the innermost values, of the node that is left, become one of those around it
abbrev pub after_leave : (ℕ → List ℕ) → Element → Unfinished → Unfinished
after_leave name (Token c) u = u
after_leave name (Node c) u = record {
  inner = slice_index_or u.outer (length u.outer - 1) []
      ++ node_object (kind_name name c) (text_range c) u.inner ∷ [];
  outer = take (length u.outer - 1) u.outer;
}
