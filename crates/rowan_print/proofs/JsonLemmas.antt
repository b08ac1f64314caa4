-- Walks and JSON: what is finished at each event of a walk.
use Rattle.std.proofs.Common.{◌≡◌, ℕ, suc, ◌+◌, ◌-◌, false, List, [], ◌∷◌, ◌++◌, map, length, drop}
use Rattle.std.proofs.Common.{take, get_or, Option, Some, None, refl, sym, ◌∙◌, ap}
use Rattle.std.proofs.Common.{arith, append_assoc, length-append}
use Rattle.std.specs.Option.{UnwrapsOrElse, option_to_list}
use Rattle.std.proofs.lemmas.List.{append-nil, map-append}
use Rattle.std.proofs.Math.Seq.{take-append_seam, get_or-append_seam}
use Rattle.serde_json.specs.Data.{Data, null}
use Rattle.rowan_green.specs.declared.utility_types.NodeOrToken.TheVariants.{Node, Token}
use Rattle.rowan_green.specs.declared.utility_types.WalkEvent.{WalkEvent}
use Rattle.rowan_green.specs.declared.utility_types.WalkEvent.TheVariants.{Enter, Leave}
use Rattle.rowan_green.specs.Term.{NodeTerm, node, Forest, empty, node_then, token_then, Term}
use Rattle.rowan_green.specs.Term.{terms, node_children, term_len}
use Rattle.rowan_terms.specs.Path.{Path, subterm, offset, len_of}
use Rattle.rowan_green.specs.Search.{child_start}
use Rattle.rowan_table.specs.Cursor.{Cursor, term_at, text_range}
use Rattle.rowan_table.specs.Moves.{Element, element_at, element_if, cursor_at, is_node}
use Rattle.rowan_table.specs.Preorder.{event_map, node_events, forest_events, term_events}
use Rattle.rowan_table.specs.Preorder.{preorder_with_tokens}
use Rattle.rowan_table.proofs.OffsetLemmas.{drop-first}
use Rattle.rowan_table.proofs.PathLemmas.{offset-node_child}
use Rattle.rowan_print.specs.Printed.{node_json, forest_json, term_json, json_of, tree_json}
use Rattle.rowan_print.specs.Printed.{kind_name, node_object, token_json, term_name}
use Rattle.rowan_print.specs.Unfinished.{Unfinished, after_enter, after_leave}
use Rattle.rowan_print.proofs.WalkLemmas.{front-child, next-start, at_elements}

-- what is finished once some events are past
abbrev pub past : (ℕ → List ℕ) → List (WalkEvent Element) → Unfinished → Unfinished
past name [] u = u
past name (Enter e ∷ es) u = past name es (after_enter name e u)
past name (Leave e ∷ es) u = past name es (after_leave name e u)

-- with one more value, or with some more
abbrev pub with_values : Unfinished → List Data → Unfinished
with_values u ds = record { inner = u.inner ++ ds; outer = u.outer }

with_more : (u : Unfinished) (d : Data) (ds : List Data)
    → with_values (with_values u (d ∷ [])) ds ≡ with_values u (d ∷ ds)
with_more u d ds = ap (λ (xs : List Data). record { inner = xs; outer = u.outer })
    (append_assoc u.inner (d ∷ []) ds)

node-there : (root : NodeTerm) (p : Path) (n : NodeTerm) → subterm (Node root) p ≡ Some (Node n)
    → element_at root p ≡ Node (cursor_at root p)
node-there root p n there = ap (λ (o : Option Term). element_if (is_node o) (cursor_at root p))
    there

token-there : (name : ℕ → List ℕ) (root : NodeTerm) (p : Path) (u : Unfinished) (t : Term)
    → subterm (Node root) p ≡ Some t → is_node (Some t) ≡ false
    → after_leave name (element_at root p) (after_enter name (element_at root p) u)
    ≡ with_values u (term_json name (offset (Node root) p) t ∷ [])
token-there name root p u t there kind =
    ap (λ e. after_leave name e (after_enter name e u))
    (ap (λ (o : Option Term). element_if (is_node o) (cursor_at root p)) there
    ∙ ap (λ b. element_if b (cursor_at root p)) kind)
    ∙ ap (λ (o : Option Term). with_values u
    (json_of (term_json name (offset (Node root) p)) o ∷ [])) there

-- what is finished of a node that is left with these values
left-node : (name : ℕ → List ℕ) (root : NodeTerm) (p : Path) (k : ℕ) (f : Forest) (u : Unfinished)
    → subterm (Node root) p ≡ Some (Node (node k f))
    → after_leave name (element_at root p)
    (record { inner = forest_json name (offset (Node root) p) f; outer = u.outer ++ u.inner ∷ [] })
    ≡ with_values u (node_json name (offset (Node root) p) (node k f) ∷ [])
left-node name root p k f u there =
    let at = offset (Node root) p in
    let c = cursor_at root p in
    let values = forest_json name at f in
    let all = u.outer ++ u.inner ∷ [] in
    let last : length all - 1 ≡ length u.outer =
    omega (arith, length-append u.outer (u.inner ∷ [])) in
    let value : node_object (kind_name name c) (text_range c) values
    ≡ node_json name at (node k f) =
    ap (λ (o : Option Term). node_object (term_name name o)
    (record { start = at; end = at + len_of o }) values) there in
    let around : get_or all (length all - 1) [] ≡ u.inner = ap (λ i. get_or all i []) last
    ∙ get_or-append_seam u.outer u.inner [] [] in
    let others : take (length all - 1) all ≡ u.outer = ap (λ i. take i all) last
    ∙ take-append_seam u.outer (u.inner ∷ []) in
    ap (λ e. after_leave name e (record { inner = values; outer = all }))
    (node-there root p (node k f) there)
    ∙ ap (λ (d : Data). record {
      inner = get_or all (length all - 1) [] ++ d ∷ [];
      outer = take (length all - 1) all;
    }) value
    ∙ ap (λ (ds : List Data). record {
      inner = ds ++ node_json name at (node k f) ∷ [];
      outer = take (length all - 1) all;
    }) around
    ∙ ap (λ (dss : List (List Data)). record {
      inner = u.inner ++ node_json name at (node k f) ∷ [];
      outer = dss;
    }) others

mutual
  node-past : (name : ℕ → List ℕ) (root : NodeTerm) (p : Path) (n : NodeTerm)
      (rest : List (WalkEvent Element)) (u : Unfinished) → subterm (Node root) p ≡ Some (Node n)
      → past name (at_elements root (node_events p n) ++ rest) u
      ≡ past name rest (with_values u (node_json name (offset (Node root) p) n ∷ []))
  node-past name root p (node k f) rest u there =
      let inner = forest_events p 0 f in
      let leave = Leave (element_at root p) in
      let begun : Unfinished = record { inner = []; outer = u.outer ++ u.inner ∷ [] } in
      let start : offset (Node root) p ≡ offset (Node root) p + child_start
      (node_children (node k f)) 0 = omega arith in
      ap (λ e. past name (at_elements root (inner ++ Leave p ∷ []) ++ rest) (after_enter name e u))
      (node-there root p (node k f) there)
      ∙ ap (λ es. past name es begun) (ap (λ es. es ++ rest)
      (map-append (event_map (element_at root)) inner (Leave p ∷ []))
      ∙ append_assoc (at_elements root inner) (leave ∷ []) rest)
      ∙ forest-past name root p (node k f) 0 f (leave ∷ rest) begun
      (offset (Node root) p) there refl start
      ∙ ap (past name rest) (left-node name root p k f u there)

  forest-past : (name : ℕ → List ℕ) (root : NodeTerm) (p : Path) (n : NodeTerm) (i : ℕ) (f : Forest)
      (rest : List (WalkEvent Element)) (u : Unfinished) (start : ℕ)
      → subterm (Node root) p ≡ Some (Node n)
      → drop i (node_children n) ≡ terms f
      → start ≡ offset (Node root) p + child_start (node_children n) i
      → past name (at_elements root (forest_events p i f) ++ rest) u
      ≡ past name rest (with_values u (forest_json name start f))
  forest-past name root p n i empty rest u start there held at =
      ap (λ (ds : List Data). past name rest (record { inner = ds; outer = u.outer }))
      (sym (append-nil u.inner))
  forest-past name root p n i (node_then m f) rest u start there held at =
      let own = node_events (p ++ i ∷ []) m in
      let later = forest_events p (suc i) f in
      let others = at_elements root later ++ rest in
      let own_start : offset (Node root) (p ++ i ∷ []) ≡ start =
      omega (arith, offset-node_child (Node root) p i n there) in
      let next : start + term_len (Node m)
      ≡ offset (Node root) p + child_start (node_children n) (suc i) =
      omega (arith, next-start (node_children n) i (Node m) (terms f) held) in
      ap (λ es. past name es u) (ap (λ es. es ++ rest)
      (map-append (event_map (element_at root)) own later)
      ∙ append_assoc (at_elements root own) (at_elements root later) rest)
      ∙ node-past name root (p ++ i ∷ []) m others u
      (front-child root p n i (Node m) (terms f) there held)
      ∙ ap (λ s. past name others (with_values u (node_json name s m ∷ []))) own_start
      ∙ forest-past name root p n (suc i) f rest (with_values u (node_json name start m ∷ []))
      (start + term_len (Node m)) there
      (drop-first i (node_children n) (Node m) (terms f) held).1 next
      ∙ ap (past name rest) (with_more u (node_json name start m)
      (forest_json name (start + term_len (Node m)) f))
  forest-past name root p n i (token_then t f) rest u start there held at =
      let others = at_elements root (forest_events p (suc i) f) ++ rest in
      let own_start : offset (Node root) (p ++ i ∷ []) ≡ start =
      omega (arith, offset-node_child (Node root) p i n there) in
      let next : start + term_len (Token t)
      ≡ offset (Node root) p + child_start (node_children n) (suc i) =
      omega (arith, next-start (node_children n) i (Token t) (terms f) held) in
      ap (past name others) (token-there name root (p ++ i ∷ []) u (Token t)
      (front-child root p n i (Token t) (terms f) there held) refl)
      ∙ ap (λ s. past name others (with_values u (token_json name s t ∷ []))) own_start
      ∙ forest-past name root p n (suc i) f rest (with_values u (token_json name start t ∷ []))
      (start + term_len (Token t)) there
      (drop-first i (node_children n) (Token t) (terms f) held).1 next
      ∙ ap (past name rest) (with_more u (token_json name start t)
      (forest_json name (start + term_len (Token t)) f))

-- ---- the loop over a walk

-- the last of the innermost values
abbrev pub last_value : Unfinished → Data
last_value u = get_or u.inner (length u.inner - 1) null

walk-past : (name : ℕ → List ℕ) (c : Cursor) (u : Unfinished)
    → u ≡ record { inner = []; outer = [] }
    → last_value (past name (preorder_with_tokens c) u) ≡ tree_json name c
walk-past name c u new = ap (λ v. last_value (past name (preorder_with_tokens c) v)) new
    ∙ at (term_at c) refl
  where
    at : (o : Option Term) → term_at c ≡ o
        → last_value (past name (at_elements c.root (term_events c.path o))
        (record { inner = []; outer = [] }))
        ≡ json_of (term_json name (offset (Node c.root) c.path)) o
    at None there = refl
    at (Some (Token t)) there = ap last_value
        (token-there name c.root c.path (record { inner = []; outer = [] }) (Token t) there refl)
    at (Some (Node n)) there =
        ap (λ es. last_value (past name es (record { inner = []; outer = [] })))
        (sym (append-nil (at_elements c.root (node_events c.path n))))
        ∙ ap last_value (node-past name c.root c.path n []
        (record { inner = []; outer = [] }) there)

-- once the events that are left are past, the value of the tree is there
abbrev pub Makes : (ℕ → List ℕ) → Cursor → Unfinished → List (WalkEvent Element) → Type 0
Makes name c u es = last_value (past name es u) ≡ tree_json name c

pub makes-first : (name : ℕ → List ℕ) (c : Cursor) (es : List (WalkEvent Element))
    (u : Unfinished) → u.inner ≡ [] → u.outer ≡ [] → es ≡ preorder_with_tokens c
    → Makes name c u es
makes-first name c es u h k whole =
    let new : u ≡ record { inner = []; outer = [] } =
    ap (λ (ds : List Data). record { inner = ds; outer = u.outer }) h
    ∙ ap (λ (dss : List (List Data)). record { inner = []; outer = dss }) k in
    ap (λ xs. last_value (past name xs u)) whole ∙ walk-past name c u new

pub makes-enter : (name : ℕ → List ℕ) (c : Cursor) (before after : List (WalkEvent Element))
    (e : Element) (u v : Unfinished) → Makes name c u before
    → before ≡ Enter e ∷ after → v ≡ after_enter name e u → Makes name c v after
makes-enter name c before after e u v h step same =
    ap (λ w. last_value (past name after w)) same
    ∙ ap (λ xs. last_value (past name xs u)) (sym step) ∙ h

pub makes-leave : (name : ℕ → List ℕ) (c : Cursor) (before after : List (WalkEvent Element))
    (e : Element) (u v : Unfinished) → Makes name c u before
    → before ≡ Leave e ∷ after → v ≡ after_leave name e u → Makes name c v after
makes-leave name c before after e u v h step same =
    ap (λ w. last_value (past name after w)) same
    ∙ ap (λ xs. last_value (past name xs u)) (sym step) ∙ h

pub makes-all : (name : ℕ → List ℕ) (c : Cursor) (es : List (WalkEvent Element))
    (u : Unfinished) → Makes name c u es → es ≡ [] → last_value u ≡ tree_json name c
makes-all name c es u h end = ap (λ xs. last_value (past name xs u)) (sym end) ∙ h

-- ---- the last of a list

pub empty-length : {X : Type 0} (xs : List X) → length xs ≡ 0 → xs ≡ []
empty-length [] h = refl
empty-length (x ∷ xs) h = absurd (omega arith)

-- the last of a list, as what a pop gave, or the default where it gave none
pub last-mapped : {X Y : Type 0} (f : X → Y) (xs ys : List X) (r : Option X) (x : X) (e : Y)
    → xs ≡ ys ++ option_to_list r → (r ≡ None → xs ≡ []) → UnwrapsOrElse r (λ v. f v ≡ e) x
    → f x ≡ get_or (map f xs) (length (map f xs) - 1) e
last-mapped f xs ys None x e h none is = is
    ∙ sym (ap (λ zs. get_or (map f zs) (length (map f zs) - 1) e) (none refl))
last-mapped f xs ys (Some y) x e h none is =
    let mapped : map f xs ≡ map f ys ++ f y ∷ [] = ap (map f) h ∙ map-append f ys (y ∷ []) in
    let last : length (map f xs) - 1 ≡ length (map f ys) =
    omega (arith, ap length mapped, length-append (map f ys) (f y ∷ [])) in
    ap f is ∙ sym (ap (λ i. get_or (map f xs) i e) last
    ∙ ap (λ zs. get_or zs (length (map f ys)) e) mapped ∙ get_or-append_seam (map f ys) (f y) [] e)
