-- Walks, one step at a time: what comes after an event, and what a skip leaves.
use Rattle.std.proofs.Common.{◌≡◌, ◌≢◌, ℕ, zero, suc, ◌+◌, ◌-◌, ◌<◌, ◌≤◌, Bool, true, false, cond}
use Rattle.std.proofs.Common.{List, [], ◌∷◌, ◌++◌, map, length, filter, Option, Some, None, drop}
use Rattle.std.proofs.Common.{refl, sym, ◌∙◌, ap, arith, append_assoc, drop-cons}
use Rattle.std.specs.Prelude.{slice_get}
use Rattle.std.specs.Option.{option_map, unwrap_or}
use Rattle.std.proofs.Math.Seq.{drop-append_seam, drop-length}
use Rattle.std.proofs.lemmas.Bool.{true≢false}
use Rattle.std.proofs.lemmas.List.{append-nil, drop_all}
use Rattle.std.proofs.lemmas.List.Elements.{filter-append}
use Rattle.std.proofs.lemmas.Option.{slice_get_within, get_or_from_slice_get}
use Rattle.rowan_green.specs.declared.utility_types.NodeOrToken.TheVariants.{Node, Token}
use Rattle.rowan_green.specs.declared.utility_types.WalkEvent.{WalkEvent}
use Rattle.rowan_green.specs.declared.utility_types.WalkEvent.TheVariants.{Enter, Leave}
use Rattle.rowan_green.specs.WalkEvent.{event_value}
use Rattle.rowan_green.specs.Term.{NodeTerm, node, Forest, empty, node_then, token_then, Term}
use Rattle.rowan_green.specs.Term.{terms}
use Rattle.rowan_terms.specs.Path.{Path, term_children, subterm, begins}
use Rattle.rowan_table.specs.Moves.{parent_path, children_of, child_count, child_paths, following}
use Rattle.rowan_table.specs.Moves.{first_at}
use Rattle.rowan_table.specs.declared.table.Table.{Table}
use Rattle.rowan_table.specs.TablePass.{StandsInside}
use Rattle.rowan_table.specs.TableView.{path_at, IsWithin}
use Rattle.rowan_table.specs.Preorder.{event_map, node_events, forest_events, term_events}
use Rattle.rowan_table.specs.Preorder.{path_events, from_leave, skip}
use Rattle.rowan_table.specs.Events.{events_from, child_events, behind, behind_path, events_on}
use Rattle.rowan_table.proofs.PathLemmas.{begins-own, begins-rest, subterm-child, following-child}
use Rattle.rowan_table.proofs.PathLemmas.{below-first, below-none}
use Rattle.rowan_table.proofs.TableLemmas.{slice_get-some}
use Rattle.rowan_table.proofs.TokenLemmas.{has_behind, split-parent, inside-parent, no_parent}

-- ---- the events of an element, and of its children

forest-from : (p : Path) (i : ℕ) (f : Forest) → forest_events p i f ≡ events_from p i (terms f)
forest-from p i empty = refl
forest-from p i (node_then n f) = ap (λ es. node_events (p ++ i ∷ []) n ++ es)
    (forest-from p (suc i) f)
forest-from p i (token_then t f) =
    ap (λ es. Enter (p ++ i ∷ []) ∷ Leave (p ++ i ∷ []) ∷ es) (forest-from p (suc i) f)

events-children : (p : Path) (t : Term) → term_events p (Some t)
    ≡ Enter p ∷ (events_from p 0 (term_children t) ++ Leave p ∷ [])
events-children p (Node (node k f)) = ap (λ es. Enter p ∷ (es ++ Leave p ∷ [])) (forest-from p 0 f)
events-children p (Token t) = refl

events-next : (p : Path) (i : ℕ) (ts : List Term) (c : Term) → slice_get ts i ≡ Some c
    → events_from p i (drop i ts) ≡ term_events (p ++ i ∷ []) (Some c)
    ++ events_from p (suc i) (drop (suc i) ts)
events-next p i ts c e =
    let here : drop i ts ≡ c ∷ drop (suc i) ts = drop-cons ts i c (slice_get_within ts i c e)
    ∙ ap (λ u. u ∷ drop (suc i) ts) (get_or_from_slice_get ts i c c e) in
    ap (events_from p i) here

events-end : (p : Path) (i : ℕ) (ts : List Term) → length ts ≤ i → events_from p i (drop i ts) ≡ []
events-end p i ts h = ap (events_from p i) (drop_all i ts h)

-- the events of an element are its Enter, those of its children, and its Leave
path_events-children : (root : NodeTerm) (p : Path) (t : Term) → subterm (Node root) p ≡ Some t
    → path_events root p ≡ Enter p ∷ (child_events root p 0 ++ Leave p ∷ [])
path_events-children root p t e =
    ap (term_events p) e ∙ events-children p t
    ∙ ap (λ o. Enter p ∷ (events_from p 0 (children_of o) ++ Leave p ∷ [])) (sym e)

child_events-next : (root : NodeTerm) (p : Path) (i : ℕ) → i < child_count root p
    → child_events root p i ≡ path_events root (p ++ i ∷ []) ++ child_events root p (suc i)
child_events-next root p i h =
    let ts = children_of (subterm (Node root) p) in
    let c = slice_get-some ts i h in
    events-next p i ts c.0 c.1 ∙ ap (λ o. term_events (p ++ i ∷ []) o
    ++ child_events root p (suc i)) (sym (subterm-child (Some (Node root)) p i ∙ c.1))

child_events-end : (root : NodeTerm) (p : Path) (i : ℕ) → child_count root p ≤ i
    → child_events root p i ≡ []
child_events-end root p i h = events-end p i (children_of (subterm (Node root) p)) h

-- ---- what comes behind an element

behind-child : (root : NodeTerm) (top way : Path) (i : ℕ)
    → behind root top (way ++ i ∷ []) ≡ child_events root (top ++ way) (suc i)
    ++ Leave (top ++ way) ∷ behind root top way
behind-child root top [] i = ap (λ p. child_events root p (suc i) ++ Leave p ∷ [])
    (sym (append-nil top))
behind-child root top (j ∷ way) i =
    let ends = child_events root top (suc j) ++ Leave top ∷ [] in
    let same : (top ++ j ∷ []) ++ way ≡ top ++ j ∷ way = append_assoc top (j ∷ []) way in
    let deep = behind root (top ++ j ∷ []) way in
    ap (λ es. es ++ ends) (behind-child root (top ++ j ∷ []) way i
    ∙ ap (λ p. child_events root p (suc i) ++ Leave p ∷ deep) same)
    ∙ append_assoc (child_events root (top ++ j ∷ way) (suc i)) (Leave (top ++ j ∷ way) ∷ deep) ends

-- the way from a path to one that it begins
way : (top p : Path) → begins top p ≡ true → p ≡ top ++ drop (length top) p
way top p h =
    let r = begins-rest top p h in
    r.1 ∙ ap (λ q. top ++ q) (sym (ap (drop (length top)) r.1 ∙ drop-append_seam top r.0))

way-child : (top p : Path) (i : ℕ) → begins top p ≡ true
    → drop (length top) (p ++ i ∷ []) ≡ drop (length top) p ++ i ∷ []
way-child top p i h =
    ap (λ q. drop (length top) (q ++ i ∷ [])) (way top p h)
    ∙ ap (drop (length top)) (append_assoc top (drop (length top) p) (i ∷ []))
    ∙ drop-append_seam top (drop (length top) p ++ i ∷ [])

pub behind-top : (root : NodeTerm) (top : Path) → behind_path root top top ≡ []
behind-top root top = ap (behind root top) (drop-length top)

-- behind a child come the later ones, and then its parent is left
behind_path-child : (root : NodeTerm) (top p : Path) (i : ℕ) → begins top p ≡ true
    → behind_path root top (p ++ i ∷ []) ≡ child_events root p (suc i)
    ++ Leave p ∷ behind_path root top p
behind_path-child root top p i h =
    let from = drop (length top) p in
    ap (behind root top) (way-child top p i h) ∙ behind-child root top from i
    ∙ ap (λ q. child_events root q (suc i) ++ Leave q ∷ behind root top from) (sym (way top p h))

-- ---- steps

pub enter-child : (root : NodeTerm) (top p s : Path) (t : Term) → subterm (Node root) p ≡ Some t
    → begins top p ≡ true
    → Some s ≡ first_at (child_paths root p) → events_on root top (Enter p)
    ≡ Enter p ∷ events_on root top (Enter s)
enter-child root top p s t there h e =
    let f = below-first p 0 (child_count root p) s e in
    let own = path_events root (p ++ 0 ∷ []) in
    let later = child_events root p 1 in
    let ends = Leave p ∷ behind_path root top p in
    ap (λ es. es ++ behind_path root top p) (path_events-children root p t there)
    ∙ ap (λ es. Enter p ∷ es) (
    append_assoc (child_events root p 0) (Leave p ∷ []) (behind_path root top p)
    ∙ ap (λ es. es ++ ends) (child_events-next root p 0 f.1)
    ∙ append_assoc own later ends
    ∙ ap (λ es. own ++ es) (sym (behind_path-child root top p 0 h))
    ∙ ap (λ q. events_on root top (Enter q)) (sym f.0))

pub enter-childless : (root : NodeTerm) (top p : Path) (t : Term) → subterm (Node root) p ≡ Some t
    → ◌≡◌ {A = Option Path} None (first_at (child_paths root p))
    → events_on root top (Enter p) ≡ Enter p ∷ events_on root top (Leave p)
enter-childless root top p t there e =
    ap (λ es. es ++ behind_path root top p) (path_events-children root p t there)
    ∙ ap (λ es. Enter p ∷ ((es ++ Leave p ∷ []) ++ behind_path root top p))
    (child_events-end root p 0 (omega (arith, below-none p 0 (child_count root p) e)))

pub behind-sibling : (root : NodeTerm) (top p s : Path) → begins top p ≡ true → p ≢ top
    → Some s ≡ first_at (following root p) → behind_path root top p ≡ events_on root top (Enter s)
behind-sibling root top p s h apart e =
    let t = has_behind root p s e in
    let q = t.parent in
    let i = t.place in
    let above = inside-parent top p q i h apart t.here in
    let own = path_events root (q ++ suc i ∷ []) in
    let ends = Leave q ∷ behind_path root top q in
    ap (behind_path root top) t.here
    ∙ behind_path-child root top q i above
    ∙ ap (λ es. es ++ ends) (child_events-next root q (suc i) t.count)
    ∙ append_assoc own (child_events root q (suc (suc i))) ends
    ∙ ap (λ es. own ++ es) (sym (behind_path-child root top q (suc i) above))
    ∙ ap (λ u. events_on root top (Enter u)) (sym t.there)

pub behind-last : (root : NodeTerm) (top p q : Path) → begins top p ≡ true → p ≢ top
    → ◌≡◌ {A = Option Path} None (first_at (following root p)) → Some q ≡ parent_path p
    → behind_path root top p ≡ events_on root top (Leave q)
behind-last root top p q h apart none e =
    let t = split-parent p q e in
    let i = t.0 in
    let above = inside-parent top p q i h apart t.1 in
    let past = below-none q (i + 1) (child_count root q - (i + 1))
    (none ∙ ap (λ u. first_at (following root u)) t.1 ∙ ap first_at (following-child root q i)) in
    ap (behind_path root top) t.1
    ∙ behind_path-child root top q i above
    ∙ ap (λ es. es ++ Leave q ∷ behind_path root top q)
    (child_events-end root q (suc i) (omega (arith, past)))

-- ---- skips

-- The events of one element leave what they enter, also those of some elements alone.
abbrev kept : (Path → Bool) → List (WalkEvent Path) → List (WalkEvent Path)
kept k es = filter (λ e. k (event_value e)) es

kept-append : (k : Path → Bool) (es fs : List (WalkEvent Path))
    → kept k (es ++ fs) ≡ kept k es ++ kept k fs
kept-append k es fs = filter-append (λ e. k (event_value e)) es fs

around : (b : Bool) (p : Path) (n : ℕ) (own es : List (WalkEvent Path))
    → ((m : ℕ) (fs : List (WalkEvent Path)) → from_leave m (own ++ fs) ≡ from_leave m fs)
    → from_leave n (cond b (Enter p ∷ (own ++ cond b (Leave p ∷ []) []))
    (own ++ cond b (Leave p ∷ []) []) ++ es) ≡ from_leave n es
around true p n own es h =
    ap (from_leave (suc n)) (append_assoc own (Leave p ∷ []) es) ∙ h (suc n) (Leave p ∷ es)
around false p n own es h = ap (λ fs. from_leave n (fs ++ es)) (append-nil own) ∙ h n es

token-even : (b : Bool) (p : Path) (n : ℕ) (later es : List (WalkEvent Path))
    → from_leave n (cond b (Enter p ∷ cond b (Leave p ∷ later) later)
    (cond b (Leave p ∷ later) later) ++ es) ≡ from_leave n (later ++ es)
token-even true p n later es = refl
token-even false p n later es = refl

mutual
  node-even : (k : Path → Bool) (p : Path) (t : NodeTerm) (n : ℕ) (es : List (WalkEvent Path))
      → from_leave n (kept k (node_events p t) ++ es) ≡ from_leave n es
  node-even k p (node kind f) n es =
      ap (λ fs. from_leave n (cond (k p) (Enter p ∷ fs) fs ++ es))
      (kept-append k (forest_events p 0 f) (Leave p ∷ []))
      ∙ around (k p) p n (kept k (forest_events p 0 f)) es (λ m fs. forest-even k p 0 f m fs)

  forest-even : (k : Path → Bool) (p : Path) (i : ℕ) (f : Forest) (n : ℕ)
      (es : List (WalkEvent Path)) → from_leave n (kept k (forest_events p i f) ++ es)
      ≡ from_leave n es
  forest-even k p i empty n es = refl
  forest-even k p i (node_then t f) n es =
      let own = kept k (node_events (p ++ i ∷ []) t) in
      let later = kept k (forest_events p (suc i) f) in
      ap (λ fs. from_leave n (fs ++ es)) (kept-append k (node_events (p ++ i ∷ []) t)
      (forest_events p (suc i) f))
      ∙ ap (from_leave n) (append_assoc own later es)
      ∙ node-even k (p ++ i ∷ []) t n (later ++ es) ∙ forest-even k p (suc i) f n es
  forest-even k p i (token_then t f) n es =
      token-even (k (p ++ i ∷ [])) (p ++ i ∷ []) n (kept k (forest_events p (suc i) f)) es
      ∙ forest-even k p (suc i) f n es

term-even : (k : Path → Bool) (p : Path) (t : Option Term) (n : ℕ) (es : List (WalkEvent Path))
    → from_leave n (kept k (term_events p t) ++ es) ≡ from_leave n es
term-even k p None n es = refl
term-even k p (Some (Node t)) n es = node-even k p t n es
term-even k p (Some (Token t)) n es = token-even (k p) p n [] es

from-even : (k : Path → Bool) (p : Path) (i : ℕ) (ts : List Term) (n : ℕ)
    (es : List (WalkEvent Path)) → from_leave n (kept k (events_from p i ts) ++ es)
    ≡ from_leave n es
from-even k p i [] n es = refl
from-even k p i (t ∷ ts) n es =
    let own = kept k (term_events (p ++ i ∷ []) (Some t)) in
    let later = kept k (events_from p (suc i) ts) in
    ap (λ fs. from_leave n (fs ++ es)) (kept-append k (term_events (p ++ i ∷ []) (Some t))
    (events_from p (suc i) ts))
    ∙ ap (from_leave n) (append_assoc own later es)
    ∙ term-even k (p ++ i ∷ []) (Some t) n (later ++ es) ∙ from-even k p (suc i) ts n es

kept-leave : (k : Path → Bool) (p : Path) (es : List (WalkEvent Path)) → k p ≡ true
    → kept k (Leave p ∷ es) ≡ Leave p ∷ kept k es
kept-leave k p es h = ap (λ b. cond b (Leave p ∷ kept k es) (kept k es)) h

-- before the start nothing is skipped
pub skip-start : (root : NodeTerm) (top : Path) (k : Path → Bool)
    → skip (kept k (events_on root top (Enter top))) ≡ kept k (events_on root top (Enter top))
skip-start root top k =
    let own = path_events root top in
    let all : events_on root top (Enter top) ≡ own = ap (λ es. own ++ es) (behind-top root top)
    ∙ append-nil own in
    let none : from_leave 0 (kept k own) ≡ None = ap (from_leave 0) (sym (append-nil (kept k own)))
    ∙ term-even k top (subterm (Node root) top) 0 [] in
    ap (λ es. skip (kept k es)) all ∙ ap (λ o. unwrap_or o (kept k own)) none
    ∙ ap (kept k) (sym all)

-- after an Enter, or a sibling's Leave, the parent is left next
pub skip-enter : (root : NodeTerm) (top p q : Path) (k : Path → Bool) → begins top p ≡ true
    → p ≢ top → Some q ≡ parent_path p → k q ≡ true
    → skip (kept k (events_on root top (Enter p))) ≡ kept k (events_on root top (Leave q))
skip-enter root top p q k h apart e own_node =
    let t = split-parent p q e in
    let i = t.0 in
    let above = inside-parent top p q i h apart t.1 in
    let own = path_events root p in
    let later = child_events root q (suc i) in
    let ends = Leave q ∷ behind_path root top q in
    let all : events_on root top (Enter p) ≡ own ++ (later ++ ends) =
    ap (λ es. own ++ es) (ap (behind_path root top) t.1 ∙ behind_path-child root top q i above) in
    let parts : kept k (events_on root top (Enter p))
    ≡ kept k own ++ (kept k later ++ kept k ends) =
    ap (kept k) all ∙ kept-append k own (later ++ ends)
    ∙ ap (λ es. kept k own ++ es) (kept-append k later ends) in
    let found : from_leave 0 (kept k own ++ (kept k later ++ kept k ends)) ≡ Some (kept k ends) =
    term-even k p (subterm (Node root) p) 0 (kept k later ++ kept k ends)
    ∙ from-even k q (suc i) (drop (suc i) (children_of (subterm (Node root) q))) 0 (kept k ends)
    ∙ ap (from_leave 0) (kept-leave k q (behind_path root top q) own_node)
    ∙ ap (λ es. Some es) (sym (kept-leave k q (behind_path root top q) own_node)) in
    ap skip parts ∙ ap (λ o. unwrap_or o (kept k own ++ (kept k later ++ kept k ends))) found

pub skip-leave : (root : NodeTerm) (top p : Path) (k : Path → Bool) → k p ≡ true
    → skip (kept k (events_on root top (Leave p))) ≡ kept k (events_on root top (Leave p))
skip-leave root top p k own_node =
    ap skip (kept-leave k p (behind_path root top p) own_node)
    ∙ sym (kept-leave k p (behind_path root top p) own_node)

-- a skip looks at no value
from_leave-map : {A B : Type 0} (f : A → B) (n : ℕ) (es : List (WalkEvent A))
    → from_leave n (map (event_map f) es) ≡ option_map (map (event_map f)) (from_leave n es)
from_leave-map f n [] = refl
from_leave-map f n (Enter x ∷ es) = from_leave-map f (suc n) es
from_leave-map f zero (Leave x ∷ es) = refl
from_leave-map f (suc n) (Leave x ∷ es) = from_leave-map f n es

pub skip-map : {A B : Type 0} (f : A → B) (es : List (WalkEvent A))
    → skip (map (event_map f) es) ≡ map (event_map f) (skip es)
skip-map {A = A} f es =
    ap (λ o. unwrap_or o (map (event_map f) es)) (from_leave-map f 0 es) ∙ by (from_leave 0 es)
  where
    by : (o : Option (List (WalkEvent A))) → unwrap_or (option_map (map (event_map f)) o)
        (map (event_map f) es) ≡ map (event_map f) (unwrap_or o es)
    by None = refl
    by (Some fs) = refl

-- a path that another one begins is that one, or has a parent
pub no_parent-inside : (top p : Path) → begins top p ≡ true → p ≢ top
    → ◌≡◌ {A = Option Path} None (parent_path p) → ⊥
no_parent-inside [] p h apart e = apart (no_parent p e)
no_parent-inside (i ∷ top) p h apart e = true≢false (sym h ∙ ap (begins (i ∷ top)) (no_parent p e))

begins-itself : (p : Path) → begins p p ≡ true
begins-itself p = ap (begins p) (sym (append-nil p)) ∙ begins-own p []

pub start-inside : (t : Table) (n : ℕ) → IsWithin t n → StandsInside t n n
start-inside t n h = record { top_within = h; within = h; inside = begins-itself (path_at t n) }

-- a walk that is to enter its start is whole
pub whole : (root : NodeTerm) (top : Path) → events_on root top (Enter top) ≡ path_events root top
whole root top = ap (λ es. path_events root top ++ es) (behind-top root top)
    ∙ append-nil (path_events root top)
