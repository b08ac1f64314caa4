-- What the iterators show of a traversal, one step at a time.
use Rattle.std.proofs.Common.{◌≡◌, ◌≢◌, ℕ, ◌<◌, Bool, true, List, ◌∷◌, map, Option, Some, None}
use Rattle.std.proofs.Common.{refl, sym, ◌∙◌, ap, subst, arith}
use Rattle.rowan_green.specs.declared.utility_types.WalkEvent.{WalkEvent}
use Rattle.rowan_green.specs.declared.utility_types.WalkEvent.TheVariants.{Enter, Leave}
use Rattle.rowan_terms.specs.Path.{Path}
use Rattle.rowan_cursor.specs.declared.cursor.traversal.Traversal.{Traversal}
use Rattle.rowan_table.specs.declared.table.Table.{Table}
use Rattle.rowan_table.specs.Events.{NextStays, event_of, remaining_events}
use Rattle.rowan_table.specs.Moves.{cursor_at, element_at, is_node_at, parent_path}
use Rattle.rowan_table.specs.Preorder.{event_map, events_of_nodes, entered_by, descendant_paths}
use Rattle.rowan_table.specs.Preorder.{skip}
use Rattle.rowan_table.specs.TablePass.{StandsInside}
use Rattle.rowan_table.specs.TableView.{root_of, path_at, stands_for_node}
use Rattle.rowan_table.specs.TableView.{entries_of}
use Rattle.rowan_cursor.specs.TraversalView.{remaining_path_events, remaining_node_path_events}
use Rattle.rowan_cursor.specs.TraversalView.{traversal_events, traversal_node_events, HasTraversal}
use Rattle.rowan_table.proofs.TokenLemmas.{apart_paths, parent-inside}
use Rattle.rowan_cursor.proofs.PreorderLaws.{kept, all_kept, entered-descendants}
use Rattle.rowan_table.proofs.EventLemmas.{whole, skip-start, skip-enter, skip-map}
use Rattle.rowan_table.proofs.EventLemmas.{no_parent-inside}

-- ---- a walk that is to enter its start

pub start-entered : (t : Table) (start : ℕ) → entered_by
    (remaining_events t start (Some (Enter start))) ≡ descendant_paths (root_of t) (path_at t start)
start-entered t start =
    let root = root_of t in
    let top = path_at t start in
    ap entered_by (whole root top) ∙ entered-descendants root top

-- ---- the next event

event_map-twice : {A B C : Type 0} (f : B → C) (g : A → B) (e : WalkEvent A)
    → event_map f (event_map g e) ≡ event_map (λ x. f (g x)) e
event_map-twice f g (Enter x) = refl
event_map-twice f g (Leave x) = refl

-- the next of these events comes, and then the others are left
pub event-first : {A : Type 0} (f : Path → A) (t : Table) (es fs : List (WalkEvent Path))
    (event : WalkEvent ℕ) (item : WalkEvent A) → es ≡ event_of t event ∷ fs
    → item ≡ event_map (λ n. f (path_at t n)) event
    → map (event_map f) es ≡ item ∷ map (event_map f) fs
event-first f t es fs event item first shown =
    ap (map (event_map f)) first
    ∙ ap (λ e. e ∷ map (event_map f) fs) (event_map-twice f (path_at t) event ∙ sym shown)

-- ---- skips

-- before the start nothing is skipped
skip-before : (t : Table) (start number : ℕ) (next : Option (WalkEvent ℕ)) (k : Path → Bool)
    → next ≡ Some (Enter number) → number ≡ start
    → skip (kept k (remaining_events t start next)) ≡ kept k (remaining_events t start next)
skip-before t start number next k e same =
    let f : next ≡ Some (Enter start) = e ∙ ap (λ n. Some (Enter n)) same in
    rw f (skip-start (root_of t) (path_at t start) k)

-- before another element is entered, all up to the parent's Leave is skipped
skip-to-parent : (t : Table) (start number parent : ℕ) (next : Option (WalkEvent ℕ))
    (k : Path → Bool) → next ≡ Some (Enter number)
    → NextStays t start next → number ≢ start
    → Some (path_at t parent) ≡ parent_path (path_at t number) → k (path_at t parent) ≡ true
    → skip (kept k (remaining_events t start next))
    ≡ kept k (remaining_events t start (Some (Leave parent)))
skip-to-parent t start number parent next k e inside apart above own =
    let at : StandsInside t start number = subst (λ o. NextStays t start o) e inside in
    rw e (skip-enter (root_of t) (path_at t start) (path_at t number) (path_at t parent) k at.inside
    (apart_paths (entries_of t) t.complete number start at.within at.top_within apart) above own)

-- only the start may have no parent
pub has_parent : (t : Table) (start number : ℕ) (next : Option (WalkEvent ℕ))
    → next ≡ Some (Enter number)
    → NextStays t start next → number ≢ start
    → ◌≡◌ {A = Option Path} None (parent_path (path_at t number)) → ⊥
has_parent t start number next e inside apart none =
    let at : StandsInside t start number = subst (λ o. NextStays t start o) e inside in
    no_parent-inside (path_at t start) (path_at t number) at.inside
    (apart_paths (entries_of t) t.complete number start at.within at.top_within apart) none

shown : {A B : Type 0} (f : A → B) (es fs : List (WalkEvent A)) → skip es ≡ fs
    → map (event_map f) fs ≡ skip (map (event_map f) es)
shown f es fs h = sym (skip-map f es ∙ ap (map (event_map f)) h)

pub skip_before-elements : (t : Table) (w : Traversal) (number : ℕ) → w.next ≡ Some (Enter number)
    → number ≡ w.start → traversal_events t w ≡ skip (traversal_events t w)
skip_before-elements t w number e same =
    let all = all_kept (remaining_path_events t w) in
    shown (element_at (root_of t)) (remaining_path_events t w) (remaining_path_events t w)
    (ap skip (sym all) ∙ skip-before t w.start number w.next (λ p. true) e same ∙ all)

pub skip_before-nodes : (t : Table) (w : Traversal) (number : ℕ) → w.next ≡ Some (Enter number)
    → number ≡ w.start → traversal_node_events t w ≡ skip (traversal_node_events t w)
skip_before-nodes t w number e same =
    let nodes = remaining_node_path_events t w in
    shown (cursor_at (root_of t)) nodes nodes
    (skip-before t w.start number w.next (is_node_at (root_of t)) e same)

pub skip_to_parent-elements : (t : Table) (w : Traversal) (number parent : ℕ)
    → w.next ≡ Some (Enter number) → HasTraversal t w → number ≢ w.start
    → Some (path_at t parent) ≡ parent_path (path_at t number)
    → map (event_map (element_at (root_of t))) (remaining_events t w.start (Some (Leave parent)))
    ≡ skip (traversal_events t w)
skip_to_parent-elements t w number parent e fits apart above =
    let now = remaining_events t w.start (Some (Leave parent)) in
    let skipped =
    ap skip (sym (all_kept (remaining_path_events t w)))
    ∙ skip-to-parent t w.start number parent w.next (λ p. true) e fits.inside apart above refl
    ∙ all_kept now in
    shown (element_at (root_of t)) (remaining_path_events t w) now skipped

pub skip_to_parent-nodes : (t : Table) (w : Traversal) (number parent : ℕ)
    → w.next ≡ Some (Enter number) → HasTraversal t w → number ≢ w.start
    → Some (path_at t parent) ≡ parent_path (path_at t number) → stands_for_node t parent ≡ true
    → map (event_map (cursor_at (root_of t)))
    (events_of_nodes (root_of t) (remaining_events t w.start (Some (Leave parent))))
    ≡ skip (traversal_node_events t w)
skip_to_parent-nodes t w number parent e fits apart above own =
    let now = remaining_events t w.start (Some (Leave parent)) in
    let root = root_of t in
    shown (cursor_at root) (remaining_node_path_events t w) (events_of_nodes root now)
    (skip-to-parent t w.start number parent w.next (is_node_at root) e fits.inside apart above own)

-- the parent of what is inside, and not the start, is inside
pub inside-above : (t : Table) (start number parent : ℕ) (next : Option (WalkEvent ℕ))
    → next ≡ Some (Enter number)
    → NextStays t start next → number ≢ start → parent < number
    → Some (path_at t parent) ≡ parent_path (path_at t number) → StandsInside t start parent
inside-above t start number parent next e inside apart earlier above =
    let at : StandsInside t start number = subst (λ o. NextStays t start o) e inside in
    record {
      top_within = at.top_within;
      within = omega (arith, earlier, at.within);
      inside = parent-inside (path_at t start) (path_at t number) (path_at t parent) at.inside
          (apart_paths (entries_of t) t.complete number start at.within at.top_within apart) above;
    }
