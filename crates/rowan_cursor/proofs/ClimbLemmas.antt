-- The way up, one step at a time.
use Rattle.std.proofs.Common.{◌≡◌, ℕ, List, [], ◌∷◌, ◌++◌, map, refl, sym, ◌∙◌, ap}
use Rattle.std.specs.Prelude.{Option, Some, None}
use Rattle.std.specs.Option.{option_map, option_map_or}
use Rattle.rowan_terms.specs.Path.{Path}
use Rattle.rowan_green.specs.Term.{NodeTerm}
use Rattle.rowan_table.specs.declared.table.Table.{Table}
use Rattle.rowan_table.specs.Cursor.{Cursor}
use Rattle.rowan_table.specs.Moves.{cursor_at, ancestor_paths, parent_path, ancestors}
use Rattle.rowan_table.specs.Moves.{parent_ancestors}
use Rattle.rowan_table.specs.TableView.{root_of, path_at, cursor_of}

-- a path that is not empty has a parent
parent-some : (i : ℕ) (p : Path) → (q : Path) × (parent_path (i ∷ p) ≡ Some q)
parent-some i [] = ([], refl)
parent-some i (j ∷ p) = let h = parent-some j p in
    (i ∷ h.0, ap (λ o. option_map (λ q. i ∷ q) o) h.1)

pub ancestors-first : (p : Path) → ancestor_paths p
    ≡ p ∷ option_map_or ancestor_paths (parent_path p) []
ancestors-first [] = refl
ancestors-first (i ∷ []) = refl
ancestors-first (i ∷ j ∷ p) =
    let h = parent-some j p in
    let e : ancestor_paths (j ∷ p) ≡ (j ∷ p) ∷ ancestor_paths h.0 =
    ancestors-first (j ∷ p) ∙ ap (λ o. (j ∷ p) ∷ option_map_or ancestor_paths o []) h.1 in
    ap (λ ps. map (λ q. i ∷ q) ps ++ [] ∷ []) e
    ∙ sym (ap (λ o. (i ∷ j ∷ p) ∷ option_map_or ancestor_paths (option_map (λ q. i ∷ q) o) []) h.1)

mapped : (f : Path → Cursor) (g : Path → List Path) (o : Option Path)
    → map f (option_map_or g o []) ≡ option_map_or (λ q. map f (g q)) o []
mapped f g None = refl
mapped f g (Some q) = refl

over : (root : NodeTerm) (o : Option Path) → option_map_or
    (λ q. map (cursor_at root) (ancestor_paths q)) o []
    ≡ option_map_or ancestors (option_map (cursor_at root) o) []
over root None = refl
over root (Some q) = refl

above-at : (t : Table) (above : Option ℕ) (place : Option Path)
    → option_map (path_at t) above ≡ place
    → option_map (cursor_of t) above ≡ option_map (cursor_at (root_of t)) place
above-at t None place e = ap (option_map (cursor_at (root_of t))) e
above-at t (Some n) place e = ap (option_map (cursor_at (root_of t))) e

-- a node's ancestors are the node, and then those of its parent
ancestors-all : (c : Cursor) → ancestors c ≡ c ∷ parent_ancestors c
ancestors-all c =
    ap (map (cursor_at c.root)) (ancestors-first c.path)
    ∙ ap (λ cs. c ∷ cs) (mapped (cursor_at c.root) ancestor_paths (parent_path c.path)
    ∙ over c.root (parent_path c.path))

-- the node that comes next in a climb, and then those from its parent on
pub climb-first : (t : Table) (n : ℕ) (next : Option ℕ) (above : Option ℕ) → next ≡ Some n
    → option_map (path_at t) above ≡ parent_path (path_at t n)
    → option_map_or ancestors (option_map (cursor_of t) next) []
    ≡ cursor_of t n ∷ option_map_or ancestors (option_map (cursor_of t) above) []
climb-first t n next above e found =
    rw e (ancestors-all (cursor_of t n)
    ∙ ap (λ o. cursor_of t n ∷ option_map_or ancestors o [])
    (sym (above-at t above (parent_path (path_at t n)) found)))
