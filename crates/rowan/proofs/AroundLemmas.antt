-- The nodes around an offset, one after the other.
use Rattle.std.proofs.Common.{◌≡◌, List, [], ◌∷◌, map, refl, sym, ◌∙◌, ap, Bool, true, false}
use Rattle.std.proofs.Common.{cond}
use Rattle.std.specs.Prelude.{Option, Some, None}
use Rattle.std.specs.Option.{option_map, option_map_or}
use Rattle.rowan_terms.specs.Path.{Path}
use Rattle.rowan_green.specs.Term.{NodeTerm}
use Rattle.rowan_table.specs.Cursor.{Cursor}
use Rattle.rowan_table.specs.Moves.{cursor_at, ancestor_paths, parent_path, ancestors, parent}
use Rattle.rowan_table.specs.Moves.{parent_ancestors}
use Rattle.rowan_cursor.proofs.ClimbLemmas.{ancestors-first}
use Rattle.rowan.specs.AroundOffset.{is_shorter, put_in, merged, from_node, is_second}

mapped : (f : Path → Cursor) (g : Path → List Path) (o : Option Path)
    → map f (option_map_or g o []) ≡ option_map_or (λ q. map f (g q)) o []
mapped f g None = refl
mapped f g (Some q) = refl

over : (root : NodeTerm) (o : Option Path) → option_map_or
    (λ q. map (cursor_at root) (ancestor_paths q)) o []
    ≡ option_map_or ancestors (option_map (cursor_at root) o) []
over root None = refl
over root (Some q) = refl

-- a node and those above it are the node, and then its parent and those above that
pub node_first : (c : Cursor) → from_node (Some c) ≡ c ∷ from_node (parent c)
node_first c =
    ap (map (cursor_at c.root)) (ancestors-first c.path)
    ∙ ap (λ cs. c ∷ cs) (mapped (cursor_at c.root) ancestor_paths (parent_path c.path)
    ∙ over c.root (parent_path c.path))

-- the first of the second list comes next
takes_second : (c d : Cursor) (cs ds : List Cursor) → is_shorter c d ≡ true
    → merged (c ∷ cs) (d ∷ ds) ≡ d ∷ merged (c ∷ cs) ds
takes_second c d cs ds h =
    ap (λ b. cond b (d ∷ put_in c (merged cs) ds) (c ∷ merged cs (d ∷ ds))) h

-- the first of the first list comes next
takes_first : (c : Cursor) (cs : List Cursor) (right : Option Cursor)
    → is_second (Some c) right ≡ false
    → merged (c ∷ cs) (from_node right) ≡ c ∷ merged cs (from_node right)
takes_first c cs None h = refl
takes_first c cs (Some d) h =
    ap (merged (c ∷ cs)) (node_first d)
    ∙ ap (λ b. cond b (d ∷ put_in c (merged cs) (from_node (parent d)))
    (c ∷ merged cs (d ∷ from_node (parent d)))) h
    ∙ ap (λ ds. c ∷ merged cs ds) (sym (node_first d))

-- nothing comes behind a list
pub merged_nil : (cs : List Cursor) → merged cs [] ≡ cs
merged_nil [] = refl
merged_nil (c ∷ cs) = ap (λ cs. c ∷ cs) (merged_nil cs)

-- what comes next where both lists begin with a node and those above it
pub steps_left : (left right : Option Cursor) (c : Cursor) → left ≡ Some c
    → is_second left right ≡ false
    → merged (from_node left) (from_node right)
    ≡ c ∷ merged (from_node (parent c)) (from_node right)
steps_left left right c e h =
    ap (λ o. merged (from_node o) (from_node right)) e
    ∙ ap (λ cs. merged cs (from_node right)) (node_first c)
    ∙ takes_first c (from_node (parent c)) right (sym (ap (λ o. is_second o right) e) ∙ h)

pub steps_right : (left right : Option Cursor) (d : Cursor) → right ≡ Some d
    → is_second left right ≡ true
    → merged (from_node left) (from_node right)
    ≡ d ∷ merged (from_node left) (from_node (parent d))
steps_right None right d e h = ap from_node e ∙ node_first d
steps_right (Some c) right d e h =
    ap (λ o. merged (from_node (Some c)) (from_node o)) e
    ∙ ap (merged (from_node (Some c))) (node_first d)
    ∙ ap (λ cs. merged cs (d ∷ from_node (parent d))) (node_first c)
    ∙ takes_second c d (from_node (parent c)) (from_node (parent d))
    (sym (ap (is_second (Some c)) e) ∙ h)
    ∙ ap (λ cs. d ∷ merged cs (from_node (parent d))) (sym (node_first c))
