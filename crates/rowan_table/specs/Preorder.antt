-- Walks: each element at or below a node is entered before all that is below it, and left after.
--     The events of a walk are the word of the subtree, read symbol by symbol, each element by its
--     path: an opening enters a node, its closing leaves it; a leaf enters a token and leaves it.
--     A skip drops of the events that are left those before the first Leave whose Enter is not
--     among them.
--     Descendants are all elements whose paths begin with the start's path, in the tree's order.
use Rattle.std.specs.Prelude.{ℕ, zero, suc, List, [], ◌∷◌, ◌++◌, map, filter, Option, Some, None}
use Rattle.std.specs.Prelude.{Ok, Err}
use Rattle.std.specs.Option.{unwrap_or}
use Rattle.rowan_green.specs.declared.utility_types.NodeOrToken.TheVariants.{Node, Token}
use Rattle.rowan_green.specs.declared.utility_types.WalkEvent.{WalkEvent}
use Rattle.rowan_green.specs.declared.utility_types.WalkEvent.TheVariants.{Enter, Leave}
use Rattle.rowan_green.specs.WalkEvent.{event_value}
use Rattle.rowan_green.specs.Term.{NodeTerm, node, Forest, empty, node_then, token_then, Term}
use Rattle.rowan_green.specs.Term.{node_kind}
use Rattle.rowan_green.specs.Word.{Symbol, Open, Leaf, Close}
use Rattle.rowan_terms.specs.Path.{Path, subterm, begins}
use Rattle.rowan_table.specs.Cursor.{Cursor, term_at}
use Rattle.rowan_table.specs.Moves.{Element, cursor_at, element_at, place_of, is_node_at, nodes_at}
use Rattle.rowan_table.specs.Pass.{element_list}
use Rattle.rowan_table.specs.Yields.{Rest}

-- ---- events by their paths

-- the event at what f makes of its value
abbrev pub event_map : {A B : Type 0} → (A → B) → WalkEvent A → WalkEvent B
event_map f (Enter x) = Enter (f x)
event_map f (Leave x) = Leave (f x)

abbrev mutual
  -- the events of a node that stands at a path
  pub node_events : Path → NodeTerm → List (WalkEvent Path)
  node_events p (node k f) = Enter p ∷ (forest_events p 0 f ++ Leave p ∷ [])

  -- the events of the children of the node at a path, from index i on
  pub forest_events : Path → ℕ → Forest → List (WalkEvent Path)
  forest_events p i empty = []
  forest_events p i (node_then n f) = node_events (p ++ i ∷ []) n ++ forest_events p (suc i) f
  forest_events p i (token_then t f) =
      Enter (p ++ i ∷ []) ∷ Leave (p ++ i ∷ []) ∷ forest_events p (suc i) f

-- the events of what stands at a path
abbrev pub term_events : Path → Option Term → List (WalkEvent Path)
term_events p None = []
term_events p (Some (Node n)) = node_events p n
term_events p (Some (Token t)) = Enter p ∷ Leave p ∷ []

-- the events of a walk from a path of a root
abbrev pub path_events : NodeTerm → Path → List (WalkEvent Path)
path_events root p = term_events p (subterm (Node root) p)

-- of some events, those of nodes
abbrev pub events_of_nodes : NodeTerm → List (WalkEvent Path) → List (WalkEvent Path)
events_of_nodes root events = filter (λ e. is_node_at root (event_value e)) events

-- what is entered
abbrev pub entered_by : {A : Type 0} → List (WalkEvent A) → List A
entered_by [] = []
entered_by (Enter x ∷ es) = x ∷ entered_by es
entered_by (Leave x ∷ es) = entered_by es

-- the paths that begin with a path, in order
abbrev pub descendant_paths : NodeTerm → Path → List Path
descendant_paths root p = filter (begins p) (element_list (Node root))

-- ---- walks of cursors

-- the events of a walk from a cursor
abbrev pub preorder_with_tokens : Cursor → List (WalkEvent Element)
preorder_with_tokens c = map (event_map (element_at c.root)) (path_events c.root c.path)

-- the events of a walk from a cursor through nodes alone
abbrev pub preorder : Cursor → List (WalkEvent Cursor)
preorder c = map (event_map (cursor_at c.root)) (events_of_nodes c.root (path_events c.root c.path))

-- a cursor and all that is below it
abbrev pub descendants_with_tokens : Cursor → List Element
descendants_with_tokens c = map (element_at c.root) (descendant_paths c.root c.path)

-- a cursor and all nodes below it
abbrev pub descendants : Cursor → List Cursor
descendants c = map (cursor_at c.root) (nodes_at c.root (descendant_paths c.root c.path))

-- ---- words

-- the symbol where the word of a term begins: the opening of a node, a token itself
abbrev pub opening : Option Term → List Symbol
opening None = []
opening (Some (Node n)) = Open (node_kind n) ∷ []
opening (Some (Token t)) = Leaf t ∷ []

-- the symbol where the word of a node ends; the end of a token has none
abbrev pub closing : Option Term → List Symbol
closing None = []
closing (Some (Node n)) = Close ∷ []
closing (Some (Token t)) = []

-- an event as a symbol: an Enter as where its element's word begins, a Leave as where it ends
abbrev pub event_symbols : WalkEvent Element → List Symbol
event_symbols (Enter e) = opening (term_at (place_of e))
event_symbols (Leave e) = closing (term_at (place_of e))

-- ---- skips

-- the events from the first Leave on whose Enter is not among them, where so many Enters before
-- them have no Leave yet
abbrev pub from_leave : {A : Type 0} → ℕ → List (WalkEvent A) → Option (List (WalkEvent A))
from_leave open_count [] = None
from_leave open_count (Enter x ∷ es) = from_leave (suc open_count) es
from_leave zero (Leave x ∷ es) = Some (Leave x ∷ es)
from_leave (suc open_count) (Leave x ∷ es) = from_leave open_count es

-- what a skip leaves of some events: those from such a Leave on, and where there is none, all
abbrev pub skip : {A : Type 0} → List (WalkEvent A) → List (WalkEvent A)
skip es = unwrap_or (from_leave 0 es) es

-- what a skip leaves of a walk; a refusal is still to come
abbrev pub skip_rest : {A : Type 0} → Rest (WalkEvent A) → Rest (WalkEvent A)
skip_rest (Ok es) = Ok (skip es)
skip_rest (Err e) = Err e
