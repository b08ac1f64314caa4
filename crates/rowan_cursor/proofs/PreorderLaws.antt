-- Laws of walks: what they enter they leave, under any skips, and what they enter are the
-- descendants.
use Rattle.std.proofs.Common.{◌≡◌, ℕ, suc, Bool, true, false, cond, inl, inr, List, [], ◌∷◌, ◌++◌}
use Rattle.std.proofs.Common.{map, length, filter, Option, Some, None, refl, sym, ◌∙◌, ap, subst}
use Rattle.std.proofs.Common.{arith, append_assoc}
use Rattle.std.specs.Prelude.{slice_get}
use Rattle.std.specs.Option.{unwrap_or}
use Rattle.std.proofs.lemmas.List.{append-nil, map-append, map-id}
use Rattle.std.proofs.lemmas.List.Elements.{filter-append}
use Rattle.std.proofs.lemmas.Option.{none-some, same_Some}
use Rattle.std.proofs.lemmas.Simd.{map-map}
use Rattle.rowan_green.specs.declared.utility_types.NodeOrToken.TheVariants.{Node, Token}
use Rattle.rowan_green.specs.declared.utility_types.WalkEvent.{WalkEvent}
use Rattle.rowan_green.specs.declared.utility_types.WalkEvent.TheVariants.{Enter, Leave}
use Rattle.rowan_green.specs.WalkEvent.{event_value}
use Rattle.rowan_green.specs.Term.{NodeTerm, node, Forest, empty, node_then, token_then, Term}
use Rattle.rowan_terms.specs.Path.{Path, term_children, subterm_of, subterm, begins}
use Rattle.rowan_table.specs.Cursor.{Cursor}
use Rattle.rowan_table.specs.Moves.{cursor_at, element_at, is_node_at, nodes_at}
use Rattle.rowan_table.specs.Pass.{of_some, element_list, node_elements, elements_from}
use Rattle.rowan_table.specs.Preorder.{event_map, node_events, forest_events, term_events}
use Rattle.rowan_table.specs.Preorder.{path_events, events_of_nodes, entered_by, descendant_paths}
use Rattle.rowan_table.specs.Preorder.{preorder_with_tokens, preorder, descendants}
use Rattle.rowan_table.specs.Preorder.{descendants_with_tokens, from_leave, skip}
use Rattle.rowan_cursor.specs.PreorderRuns.{WalkCall, Take, Skip, output_of, rest_after, LeavesAll}
use Rattle.rowan_table.proofs.LeafLemmas.{element_list-term, filter-below_children, filter_all}
use Rattle.rowan_table.proofs.LeafLemmas.{map_below}
use Rattle.rowan_table.proofs.PathLemmas.{begins-same, not-begins}

-- ---- what is entered is left

skip-leaves : {A : Type 0} (es fs : List (WalkEvent A)) (ys zs : List A) → LeavesAll es (ys ++ zs)
    → from_leave (length ys) es ≡ Some fs → LeavesAll fs zs
skip-leaves [] fs ys zs h e = absurd (none-some fs e)
skip-leaves (Enter x ∷ es) fs ys zs h e = skip-leaves es fs (x ∷ ys) zs h e
skip-leaves (Leave y ∷ es) fs [] zs h e = subst (λ gs. LeavesAll gs zs)
    (same_Some (Leave y ∷ es) fs e) h
skip-leaves (Leave y ∷ es) fs (x ∷ ys) zs h e = skip-leaves es fs ys zs h.1 e

skip-all : {A : Type 0} (es : List (WalkEvent A)) (xs : List A) → LeavesAll es xs
    → LeavesAll (skip es) xs
skip-all {A = A} es xs h = by (from_leave 0 es) refl
  where
    by : (o : Option (List (WalkEvent A))) → from_leave 0 es ≡ o → LeavesAll (unwrap_or o es) xs
    by None e = h
    by (Some fs) e = skip-leaves es fs [] xs h e

-- what is output_of, and what is still to come, leave as much as the events do
run-leaves : {A : Type 0} (calls : List WalkCall) (es : List (WalkEvent A)) (xs : List A)
    → LeavesAll es xs → LeavesAll (output_of calls es ++ rest_after calls es) xs
run-leaves [] es xs h = h
run-leaves (Take ∷ calls) [] xs h = run-leaves calls [] xs h
run-leaves (Take ∷ calls) (Enter x ∷ es) xs h = run-leaves calls es (x ∷ xs) h
run-leaves (Take ∷ calls) (Leave y ∷ es) [] h = h
run-leaves (Take ∷ calls) (Leave y ∷ es) (x ∷ xs) h = (h.0, run-leaves calls es xs h.1)
run-leaves (Skip ∷ calls) es xs h = run-leaves calls (skip es) xs (skip-all es xs h)

whole_run-leaves : {A : Type 0} (calls : List WalkCall) (es : List (WalkEvent A)) → LeavesAll es []
    → rest_after calls es ≡ [] → LeavesAll (output_of calls es) []
whole_run-leaves calls es h e =
    subst (λ fs. LeavesAll fs []) (ap (λ fs. output_of calls es ++ fs) e
    ∙ append-nil (output_of calls es)) (run-leaves calls es [] h)

-- the events of one element leave what they enter, also those of some elements alone
abbrev pub kept : (Path → Bool) → List (WalkEvent Path) → List (WalkEvent Path)
kept k es = filter (λ e. k (event_value e)) es

token-leaves : (b : Bool) (p : Path) (es : List (WalkEvent Path)) (xs : List Path) → LeavesAll es xs
    → LeavesAll (cond b (Enter p ∷ cond b (Leave p ∷ es) es) (cond b (Leave p ∷ es) es)) xs
token-leaves true p es xs h = (refl, h)
token-leaves false p es xs h = h

token-append : (b : Bool) (p : Path) (later es : List (WalkEvent Path))
    → cond b (Enter p ∷ cond b (Leave p ∷ later) later) (cond b (Leave p ∷ later) later) ++ es
    ≡ cond b (Enter p ∷ cond b (Leave p ∷ (later ++ es)) (later ++ es))
    (cond b (Leave p ∷ (later ++ es)) (later ++ es))
token-append true p later es = refl
token-append false p later es = refl

enclosed-leaves : (b : Bool) (p : Path) (own es : List (WalkEvent Path)) (xs : List Path)
    → ((fs : List (WalkEvent Path)) (ys : List Path) → LeavesAll fs ys → LeavesAll (own ++ fs) ys)
    → LeavesAll es xs → LeavesAll (cond b (Enter p ∷ (own ++ cond b (Leave p ∷ []) []))
    (own ++ cond b (Leave p ∷ []) []) ++ es) xs
enclosed-leaves true p own es xs h left =
    subst (λ fs. LeavesAll fs (p ∷ xs)) (sym (append_assoc own (Leave p ∷ []) es))
    (h (Leave p ∷ es) (p ∷ xs) (refl, left))
enclosed-leaves false p own es xs h left =
    subst (λ fs. LeavesAll (fs ++ es) xs) (sym (append-nil own)) (h es xs left)

mutual
  node-leaves : (k : Path → Bool) (p : Path) (n : NodeTerm) (es : List (WalkEvent Path))
      (xs : List Path) → LeavesAll es xs → LeavesAll (kept k (node_events p n) ++ es) xs
  node-leaves k p (node kind f) es xs h =
      subst (λ fs. LeavesAll (cond (k p) (Enter p ∷ fs) fs ++ es) xs)
      (sym (filter-append (λ e. k (event_value e)) (forest_events p 0 f) (Leave p ∷ [])))
      (enclosed-leaves (k p) p (kept k (forest_events p 0 f)) es xs
      (λ fs ys l. forest-leaves k p 0 f fs ys l) h)

  forest-leaves : (k : Path → Bool) (p : Path) (i : ℕ) (f : Forest) (es : List (WalkEvent Path))
      (xs : List Path) → LeavesAll es xs → LeavesAll (kept k (forest_events p i f) ++ es) xs
  forest-leaves k p i empty es xs h = h
  forest-leaves k p i (node_then n f) es xs h =
      let own = kept k (node_events (p ++ i ∷ []) n) in
      let later = kept k (forest_events p (suc i) f) in
      subst (λ fs. LeavesAll fs xs) (sym (ap (λ fs. fs ++ es)
      (filter-append (λ e. k (event_value e)) (node_events (p ++ i ∷ []) n)
      (forest_events p (suc i) f)) ∙ append_assoc own later es))
      (node-leaves k (p ++ i ∷ []) n (later ++ es) xs (forest-leaves k p (suc i) f es xs h))
  forest-leaves k p i (token_then t f) es xs h =
      subst (λ fs. LeavesAll fs xs) (sym (token-append (k (p ++ i ∷ [])) (p ++ i ∷ [])
      (kept k (forest_events p (suc i) f)) es))
      (token-leaves (k (p ++ i ∷ [])) (p ++ i ∷ []) (kept k (forest_events p (suc i) f) ++ es) xs
      (forest-leaves k p (suc i) f es xs h))

term-leaves : (k : Path → Bool) (p : Path) (t : Option Term)
    → LeavesAll (kept k (term_events p t)) []
term-leaves k p None = tt
term-leaves k p (Some (Node n)) = subst (λ es. LeavesAll es [])
    (append-nil (kept k (node_events p n))) (node-leaves k p n [] [] tt)
term-leaves k p (Some (Token t)) = token-leaves (k p) p [] [] tt

map-leaves : {A B : Type 0} (f : A → B) (es : List (WalkEvent A)) (xs : List A) → LeavesAll es xs
    → LeavesAll (map (event_map f) es) (map f xs)
map-leaves f [] [] h = h
map-leaves f [] (x ∷ xs) h = h
map-leaves f (Enter y ∷ es) xs h = map-leaves f es (y ∷ xs) h
map-leaves f (Leave y ∷ es) [] h = h
map-leaves f (Leave y ∷ es) (x ∷ xs) h = (ap f h.0, map-leaves f es xs h.1)

pub all_kept : (es : List (WalkEvent Path)) → kept (λ p. true) es ≡ es
all_kept [] = refl
all_kept (e ∷ es) = ap (λ fs. e ∷ fs) (all_kept es)

pub preorder_with_tokens-leaves : (c : Cursor) (calls : List WalkCall)
    → rest_after calls (preorder_with_tokens c) ≡ []
    → LeavesAll (output_of calls (preorder_with_tokens c)) []
preorder_with_tokens-leaves c calls e =
    let own = subst (λ es. LeavesAll es []) (all_kept (path_events c.root c.path))
    (term-leaves (λ p. true) c.path (subterm (Node c.root) c.path)) in
    whole_run-leaves calls (preorder_with_tokens c)
    (map-leaves (element_at c.root) (path_events c.root c.path) [] own) e

pub preorder-leaves : (c : Cursor) (calls : List WalkCall) → rest_after calls (preorder c) ≡ []
    → LeavesAll (output_of calls (preorder c)) []
preorder-leaves c calls e =
    let own = term-leaves (is_node_at c.root) c.path (subterm (Node c.root) c.path) in
    whole_run-leaves calls (preorder c) (map-leaves (cursor_at c.root)
    (events_of_nodes c.root (path_events c.root c.path)) [] own) e

-- ---- what is entered are the descendants

entered-append : {A : Type 0} (es fs : List (WalkEvent A))
    → entered_by (es ++ fs) ≡ entered_by es ++ entered_by fs
entered-append [] fs = refl
entered-append (Enter x ∷ es) fs = ap (λ xs. x ∷ xs) (entered-append es fs)
entered-append (Leave x ∷ es) fs = entered-append es fs

pub entered-map : {A B : Type 0} (f : A → B) (es : List (WalkEvent A))
    → entered_by (map (event_map f) es) ≡ map f (entered_by es)
entered-map f [] = refl
entered-map f (Enter x ∷ es) = ap (λ xs. f x ∷ xs) (entered-map f es)
entered-map f (Leave x ∷ es) = entered-map f es

pub entered-nodes : (root : NodeTerm) (es : List (WalkEvent Path))
    → entered_by (events_of_nodes root es) ≡ nodes_at root (entered_by es)
entered-nodes root [] = refl
entered-nodes root (Enter p ∷ es) = by (is_node_at root p) (entered-nodes root es)
  where
    by : (b : Bool) → entered_by (events_of_nodes root es) ≡ nodes_at root (entered_by es)
        → entered_by (cond b (Enter p ∷ events_of_nodes root es) (events_of_nodes root es))
        ≡ cond b (p ∷ nodes_at root (entered_by es)) (nodes_at root (entered_by es))
    by true e = ap (λ ps. p ∷ ps) e
    by false e = e
entered-nodes root (Leave p ∷ es) = by (is_node_at root p) (entered-nodes root es)
  where
    by : (b : Bool) → entered_by (events_of_nodes root es) ≡ nodes_at root (entered_by es)
        → entered_by (cond b (Leave p ∷ events_of_nodes root es) (events_of_nodes root es))
        ≡ nodes_at root (entered_by es)
    by true e = e
    by false e = e

mutual
  node-entered : (p : Path) (n : NodeTerm) → entered_by (node_events p n)
      ≡ map (λ q. p ++ q) (node_elements n)
  node-entered p (node k f) =
      ap (λ ps. p ∷ ps) (entered-append (forest_events p 0 f) (Leave p ∷ [])
      ∙ append-nil (entered_by (forest_events p 0 f)) ∙ forest-entered p 0 f)
      ∙ ap (λ q. q ∷ map (λ q. p ++ q) (elements_from 0 f)) (sym (append-nil p))

  forest-entered : (p : Path) (i : ℕ) (f : Forest)
      → entered_by (forest_events p i f) ≡ map (λ q. p ++ q) (elements_from i f)
  forest-entered p i empty = refl
  forest-entered p i (node_then n f) =
      entered-append (node_events (p ++ i ∷ []) n) (forest_events p (suc i) f)
      ∙ ap (λ ps. ps ++ entered_by (forest_events p (suc i) f))
      (node-entered (p ++ i ∷ []) n ∙ sym (map_below p i (node_elements n)))
      ∙ ap (λ ps. map (λ q. p ++ q) (map (λ q. i ∷ q) (node_elements n)) ++ ps)
      (forest-entered p (suc i) f)
      ∙ sym (map-append (λ q. p ++ q) (map (λ q. i ∷ q) (node_elements n))
      (elements_from (suc i) f))
  forest-entered p i (token_then t f) = ap (λ ps. (p ++ i ∷ []) ∷ ps) (forest-entered p (suc i) f)

term-entered : (p : Path) (t : Option Term) → entered_by (term_events p t)
    ≡ map (λ q. p ++ q) (of_some element_list t)
term-entered p None = refl
term-entered p (Some (Node n)) = node-entered p n
term-entered p (Some (Token t)) = ap (λ q. q ∷ []) (sym (append-nil p))

elements-below : (t : Option Term) (p : Path)
    → filter (begins p) (of_some element_list t)
    ≡ map (λ q. p ++ q) (of_some element_list (subterm_of t p))
elements-below None p = refl
elements-below (Some t) [] = filter_all (begins []) (element_list t) (λ q. refl)
    ∙ sym (map-id (element_list t))
elements-below (Some t) (i ∷ p) =
    let u = slice_get (term_children t) i in
    ap (filter (begins (i ∷ p))) (element_list-term t)
    ∙ filter-below_children element_list (begins (i ∷ p)) (begins p) false false 0 i i
    (term_children t) (omega arith) (λ j q l. not-begins i j p q (inr l)) (λ q. begins-same i p q)
    (λ j q l. not-begins i j p q (inl l))
    ∙ append-nil (map (λ q. i ∷ q) (filter (begins p) (of_some element_list u)))
    ∙ ap (map (λ q. i ∷ q)) (elements-below u p)
    ∙ map-map (λ q. i ∷ q) (λ q. p ++ q) (of_some element_list (subterm_of u p))

pub entered-descendants : (root : NodeTerm) (p : Path)
    → entered_by (path_events root p) ≡ descendant_paths root p
entered-descendants root p = term-entered p (subterm (Node root) p)
    ∙ sym (elements-below (Some (Node root)) p)

pub enters-descendants_with_tokens : (c : Cursor)
    → entered_by (preorder_with_tokens c) ≡ descendants_with_tokens c
enters-descendants_with_tokens c =
    entered-map (element_at c.root) (path_events c.root c.path)
    ∙ ap (map (element_at c.root)) (entered-descendants c.root c.path)

pub enters-descendants : (c : Cursor) → entered_by (preorder c) ≡ descendants c
enters-descendants c =
    entered-map (cursor_at c.root) (events_of_nodes c.root (path_events c.root c.path))
    ∙ ap (map (cursor_at c.root)) (entered-nodes c.root (path_events c.root c.path)
    ∙ ap (nodes_at c.root) (entered-descendants c.root c.path))
