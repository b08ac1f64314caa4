-- What edits put in: where it stands in the new tree.
use Rattle.std.proofs.Common.{◌≡◌, ℕ, zero, suc, ◌+◌, ◌-◌, ◌≤◌, true, List, [], ◌∷◌, ◌++◌, length}
use Rattle.std.proofs.Common.{take, drop, Some, refl, sym, ◌∙◌, ap, subst, arith}
use Rattle.std.proofs.Common.{append_assoc}
use Rattle.std.specs.Prelude.{slice_get}
use Rattle.std.specs.List.{AllByRecursion}
use Rattle.rowan_green.specs.declared.utility_types.NodeOrToken.TheVariants.{Node, Token}
use Rattle.rowan_green.specs.Edits.{spliced}
use Rattle.rowan_terms.specs.Path.{Path, subterm, subterm_of, term_children}
use Rattle.rowan_green.specs.Term.{NodeTerm, Term, node_children}
use Rattle.rowan_terms.proofs.PutLemmas.{child-of}
use Rattle.rowan_terms.proofs.Lists.{at_map}
use Rattle.rowan_green.proofs.Terms.{terms-forest}
use Rattle.rowan_table.specs.Moves.{children_of}
use Rattle.rowan_table.proofs.PathLemmas.{subterm-child}
use Rattle.rowan_changes.specs.Edit.{Edit, edited, edited_once, place, ends_before}
use Rattle.rowan_changes.specs.Plan.{IsOf, EndInTurn, AreInOrder}
use Rattle.rowan_changes.specs.Sites.{Site, site_of, sites_of, site_place, moved_over, ArePutAt}
use Rattle.rowan_changes.specs.SitesKept.{EndsBefore}
use Rattle.rowan_changes.proofs.Places.{Before, true-before, drop-at}
use Rattle.rowan_changes.proofs.SiteLemmas.{over-behind, over-next, before-later, all-later}
use Rattle.rowan_changes.proofs.SiteListLemmas.{turn-take, front-ends, turn-sites}
use Rattle.rowan_changes.proofs.TextLaw.{all-before, place-in, stays-all}
use Rattle.rowan_changes.proofs.Untouched.{edit_at, edited-below, new-child, subterm-kept}
use Rattle.rowan_changes.proofs.Untouched.{before-untouched, get-behind, length-took}

-- ---- one edit

get-inside : {A : Type 0} (xs ys : List A) (i : ℕ) (x : A) → slice_get xs i ≡ Some x
    → slice_get (xs ++ ys) i ≡ Some x
get-inside [] ys i x h = absurd cc
get-inside (y ∷ xs) ys zero x h = h
get-inside (y ∷ xs) ys (suc i) x h = get-inside xs ys i x h

get-new : (cs : List Term) (s e : ℕ) (new : List Term) (i : ℕ) (u : Term) → s ≤ length cs
    → slice_get new i ≡ Some u → slice_get (spliced cs s e new) (s + i) ≡ Some u
get-new cs s e new i u few h =
    let front = take s cs in
    let at : s + i ≡ length front + i = omega (arith, length-took s cs few) in
    ap (λ us. slice_get us (s + i)) (append_assoc front new (drop e cs))
    ∙ ap (λ n. slice_get (front ++ (new ++ drop e cs)) n) at
    ∙ get-behind front (new ++ drop e cs) i ∙ get-inside new (drop e cs) i u h

put-there : (t : Term) (p : Path) (s e : ℕ) (new : List Term) (n : NodeTerm) (i : ℕ) (u : Term)
    → subterm t p ≡ Some (Node n) → s ≤ length (node_children n) → slice_get new i ≡ Some u
    → subterm (edited_once t (edit_at p s e new)) (p ++ (s + i) ∷ []) ≡ Some u
put-there (Token t) [] s e new n i u h few g = absurd cc
put-there (Token t) (k ∷ p) s e new n i u h few g = absurd cc
put-there (Node m) [] s e new n i u h few g =
    let cs = node_children m in
    let same : m ≡ n = cc in
    let room : s ≤ length cs = subst (λ x. s ≤ length (node_children x)) (sym same) few in
    ap (λ ts. subterm_of (slice_get ts (s + i)) []) (terms-forest (spliced cs s e new))
    ∙ ap (λ o. subterm_of o []) (get-new cs s e new i u room g)
put-there (Node m) (k ∷ p) s e new n i u h few g =
    let t : Term = Node m in
    let z = p ++ (s + i) ∷ [] in
    let c = child-of (slice_get (term_children t) k) p (Node n) h in
    let inner : subterm c.0 p ≡ Some (Node n) = ap (λ o. subterm_of o p) (sym c.1) ∙ h in
    let below = edited_once c.0 (edit_at p s e new) in
    ap (λ x. subterm x (k ∷ z)) (edited-below t k p s e new c.0 c.1)
    ∙ new-child t k c.0 below z c.1 ∙ put-there c.0 p s e new n i u inner few g

-- ---- all edits

ends-at : (d e : Edit) (es : List Edit) (n : ℕ) → AllByRecursion (λ f. ends_before d f ≡ true) es
    → slice_get es n ≡ Some e → ends_before d e ≡ true
ends-at d e [] n a h = absurd cc
ends-at d e (f ∷ es) zero a h =
    let same : f ≡ e = cc in subst (λ x. ends_before d x ≡ true) same a.0
ends-at d e (f ∷ es) (suc n) a h = ends-at d e es n a.1 h

places-before : (d : Edit) (es : List Edit) (n : ℕ)
    → AllByRecursion (λ f. ends_before d f ≡ true) es
    → AllByRecursion (λ f. Before d.parent d.end (site_place f)) (take n (sites_of es))
places-before d es zero a = tt
places-before d [] (suc n) a = tt
places-before d (f ∷ es) (suc n) a =
    (true-before d.parent d.end (place f) a.0, places-before d es n a.1)

stand-moved : (root : NodeTerm) (es : List Edit) (n : ℕ) (e : Edit) (i : ℕ) (u : Term)
    → AllByRecursion (IsOf root) es → EndInTurn es → slice_get es n ≡ Some e
    → slice_get e.new i ≡ Some u
    → subterm (edited (Node root) es)
    (moved_over (take n (sites_of es)) (e.parent ++ (e.start + i) ∷ [])) ≡ Some u
stand-moved root [] n e i u of turn h g = absurd cc
stand-moved root (d ∷ ds) zero e i u of turn h g =
    let t : Term = Node root in
    let same : d ≡ e = cc in
    let to = stays-all root ds d.parent d.end (all-before d d.end ds (omega arith) turn.1) turn.2
    of.1 in
    let here = to.node (place-in root d of.0) in
    let few : d.start ≤ length (node_children here.node) = omega (arith, turn.0, here.within) in
    subst (λ (x : Edit). subterm (edited t (d ∷ ds)) (x.parent ++ (x.start + i) ∷ []) ≡ Some u) same
    (put-there (edited t ds) d.parent d.start d.end d.new here.node i u here.stands few
    (subst (λ (x : Edit). slice_get x.new i ≡ Some u) (sym same) g))
stand-moved root (d ∷ ds) (suc n) e i u of turn h g =
    let all = sites_of ds in
    let ss = take n all in
    let z = e.parent ++ (e.start + i) ∷ [] in
    let in_turn = turn-sites ds turn.2 in
    let there : slice_get all n ≡ Some (site_of e) = at_map site_of ds n e h in
    let before : AllByRecursion (EndsBefore z) ss =
    all-later e.parent e.start i ss (front-ends all n (site_of e) in_turn there) in
    let first : Before d.parent d.end z =
    before-later d.parent d.end e.parent e.start i
    (true-before d.parent d.end (place e) (ends-at d e ds n turn.1 h)) in
    let near : Before d.parent d.end (moved_over ss z) =
    over-behind ss d.parent d.end z first (places-before d ds n turn.1)
    (turn-take all n in_turn) before in
    subterm-kept (edited (Node root) ds) d.parent d.start d.end d.new (moved_over ss z) u turn.0
    (before-untouched d.parent d.start d.end (moved_over ss z) near)
    (stand-moved root ds n e i u of.1 turn.2 h g)

-- each element that an edit puts in stands in the new tree
pub new-stand : (root : NodeTerm) (es : List Edit) (n : ℕ) (e : Edit) (parent : Path)
    (start end i : ℕ) (u : Term) → AreInOrder root es → slice_get es n ≡ Some e
    → ArePutAt (sites_of es) n parent start end → slice_get e.new i ≡ Some u
    → subterm (edited (Node root) es) (parent ++ (start + i) ∷ []) ≡ Some u
new-stand root es n e parent start end i u h at put g =
    let all = sites_of es in
    let there : slice_get all n ≡ Some (site_of e) = at_map site_of es n e at in
    let in_turn = turn-sites es h.in_turn in
    let both : Some put.site ≡ Some (site_of e) = sym put.is ∙ there in
    let same : put.site ≡ site_of e = cc in
    let from : parent ++ start ∷ [] ≡ moved_over (take n all) (e.parent ++ e.start ∷ []) =
    put.from ∙ ap (λ s. moved_over (take n all) (site_place s)) same in
    let to = over-next (take n all) e.parent e.start i parent start (turn-take all n in_turn)
    (front-ends all n (site_of e) in_turn there) from in
    ap (subterm (edited (Node root) es)) (sym to)
    ∙ stand-moved root es n e i u h.of_tree h.in_turn at g

-- ---- their text

by-index : (cs new : List Term) (s : ℕ)
    → ((i : ℕ) (u : Term) → slice_get new i ≡ Some u → slice_get cs (s + i) ≡ Some u)
    → take (length new) (drop s cs) ≡ new
by-index cs [] s h = refl
by-index cs (u ∷ us) s h =
    let here : s + 0 ≡ s = omega arith in
    let first : slice_get cs s ≡ Some u = ap (slice_get cs) (sym here) ∙ h 0 u refl in
    ap (take (suc (length us))) (drop-at cs s u first)
    ∙ ap (λ ts. u ∷ ts) (by-index cs us (s + 1) (λ i v g. (
    let next : s + 1 + i ≡ s + suc i = omega arith in
    ap (slice_get cs) next ∙ h (suc i) v g)))

-- the children of the node in which they stand, from the first of them to the last
pub new-children : (root : NodeTerm) (es : List Edit) (n : ℕ) (e : Edit) (parent : Path)
    (start end : ℕ) → AreInOrder root es → slice_get es n ≡ Some e
    → ArePutAt (sites_of es) n parent start end
    → take (end - start) (drop start (children_of (subterm (edited (Node root) es) parent)))
    ≡ e.new
new-children root es n e parent start end h at put =
    let t = edited (Node root) es in
    let cs = children_of (subterm t parent) in
    let there : slice_get (sites_of es) n ≡ Some (site_of e) = at_map site_of es n e at in
    let both : Some put.site ≡ Some (site_of e) = sym put.is ∙ there in
    let same : put.site ≡ site_of e = cc in
    let count : end - start ≡ length e.new =
    omega (arith, put.to, ap (λ (s : Site). s.count) same) in
    ap (λ k. take k (drop start cs)) count
    ∙ by-index cs e.new start (λ i u g.
    sym (subterm-child (Some t) parent (start + i))
    ∙ new-stand root es n e parent start end i u h at put g)
