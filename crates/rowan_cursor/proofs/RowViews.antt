-- What a row's numbers stand for, by their paths.
use Rattle.std.proofs.Common.{◌≡◌, ℕ, suc, ◌+◌, ◌-◌, ◌<◌, Bool, true, false, cond, List, [], ◌∷◌}
use Rattle.std.proofs.Common.{map, refl, ◌∙◌, ap, arith}
use Rattle.std.specs.Prelude.{reverse}
use Rattle.std.specs.List.{filter}
use Rattle.std.proofs.lemmas.List.{reverse-append}
use Rattle.rowan_terms.specs.Path.{Path}
use Rattle.rowan_green.specs.declared.utility_types.Direction.{Direction}
use Rattle.rowan_green.specs.declared.utility_types.Direction.TheVariants.{Next, Prev}
use Rattle.rowan_table.specs.declared.table.Table.{Table}
use Rattle.rowan_table.specs.Moves.{numbers, cursor_at, element_at, nodes_at, following}
use Rattle.rowan_table.specs.Moves.{preceding, sibling_paths}
use Rattle.rowan_cursor.specs.Walks.{numbers_between}
use Rattle.rowan_table.specs.Table.{IsRow, IsRowBack}
use Rattle.rowan_table.specs.TableView.{root_of, path_at, cursor_of, element_of, stands_for_node}
use Rattle.rowan_table.specs.TableView.{entries_of}
use Rattle.rowan_table.proofs.RowLemmas.{numbers-last, map-reverse, first_split, last_split}

elements-at : (t : Table) (ns : List ℕ) → map (element_of t) ns
    ≡ map (element_at (root_of t)) (map (path_at t) ns)
elements-at t [] = refl
elements-at t (n ∷ ns) = ap (λ xs. element_of t n ∷ xs) (elements-at t ns)

next-node : (t : Table) (n : ℕ) (b : Bool) (ns : List ℕ) (ps : List Path)
    → map (cursor_of t) ns ≡ map (cursor_at (root_of t)) ps
    → map (cursor_of t) (cond b (n ∷ ns) ns) ≡ map (cursor_at (root_of t))
    (cond b (path_at t n ∷ ps) ps)
next-node t n true ns ps e = ap (λ xs. cursor_of t n ∷ xs) e
next-node t n false ns ps e = e

nodes-at : (t : Table) (ns : List ℕ) → map (cursor_of t) (filter (stands_for_node t) ns)
    ≡ map (cursor_at (root_of t)) (nodes_at (root_of t) (map (path_at t) ns))
nodes-at t [] = refl
nodes-at t (n ∷ ns) =
    next-node t n (stands_for_node t n) (filter (stands_for_node t) ns)
    (nodes_at (root_of t) (map (path_at t) ns)) (nodes-at t ns)

pub elements-left : (t : Table) (ms ns : List ℕ) (ps : List Path) → map (path_at t) ns ≡ ps
    → ms ≡ ns
    → map (element_of t) ms ≡ map (element_at (root_of t)) ps
elements-left t ms ns ps e h =
    ap (map (element_of t)) h ∙ elements-at t ns ∙ ap (λ qs. map (element_at (root_of t)) qs) e

pub nodes-left : (t : Table) (ms ns : List ℕ) (ps : List Path) → map (path_at t) ns ≡ ps → ms ≡ ns
    → map (cursor_of t) (filter (stands_for_node t) ms)
    ≡ map (cursor_at (root_of t)) (nodes_at (root_of t) ps)
nodes-left t ms ns ps e h =
    ap (λ ks. map (cursor_of t) (filter (stands_for_node t) ks)) h ∙ nodes-at t ns
    ∙ ap (λ qs. map (cursor_at (root_of t)) (nodes_at (root_of t) qs)) e

reverse-numbers : (a b : ℕ) → a < b → reverse (numbers a (b - a))
    ≡ (b - 1) ∷ reverse (numbers a (b - 1 - a))
reverse-numbers a b h =
    let e : b - a ≡ suc (b - 1 - a) = omega arith in
    let f : a + (b - 1 - a) ≡ b - 1 = omega arith in
    ap (λ n. reverse (numbers a n)) e ∙ ap reverse (numbers-last a (b - 1 - a))
    ∙ reverse-append (numbers a (b - 1 - a)) ((a + (b - 1 - a)) ∷ [])
    ∙ ap (λ x. x ∷ reverse (numbers a (b - 1 - a))) f

-- the next from the back
pub row-from-back : (direction : Direction) (a b : ℕ) → direction ≡ Prev → a < b
    → numbers_between a b direction ≡ (b - 1) ∷ numbers_between a (b - 1) direction
row-from-back direction a b e h = rw e (reverse-numbers a b h)

pub siblings-next : (t : Table) (n a b : ℕ) (d : Direction) → d ≡ Next → a ≡ n + 1
    → IsRow (entries_of t) a b (following (root_of t) (path_at t n))
    → map (path_at t) (numbers_between n b d) ≡ sibling_paths d (root_of t) (path_at t n)
siblings-next t n a b d e from row =
    rw e (first_split (path_at t) n b (omega (arith, row.order))
    ∙ ap (λ ps. path_at t n ∷ ps) (rw from at row.row))

pub siblings-prev : (t : Table) (n a b : ℕ) (d : Direction) → d ≡ Prev → b ≡ n
    → IsRowBack (entries_of t) a b (preceding (root_of t) (path_at t n))
    → map (path_at t) (numbers_between a (n + 1) d) ≡ sibling_paths d (root_of t) (path_at t n)
siblings-prev t n a b d e to row =
    rw e (map-reverse (path_at t) (numbers a (n + 1 - a))
    ∙ last_split (path_at t) a (n + 1) n (omega (arith, row.order)) refl
    ∙ ap (λ ps. path_at t n ∷ ps) (rw to at row.row))
