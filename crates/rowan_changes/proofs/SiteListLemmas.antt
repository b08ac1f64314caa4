-- Lists of edits that were made: those before a path, and one more behind them.
use Rattle.std.proofs.Common.{◌≡◌, ℕ, zero, suc, ◌+◌, ◌<◌, ◌≤◌, true, false, List, [], ◌∷◌, ◌++◌}
use Rattle.std.proofs.Common.{length, take, drop, Some, inl, inr, refl, sym, ◌∙◌, ap, subst, arith}
use Rattle.std.proofs.Common.{length-append}
use Rattle.std.specs.Prelude.{◌⊎◌, ◌||◌, Bool, Option, None, slice_get, slice_index_or}
use Rattle.std.specs.List.{AllByRecursion, AllWithin, list_any}
use Rattle.std.specs.Option.{is_some}
use Rattle.std.proofs.lemmas.List.{map-append, take-append-drop, take_all, length-map}
use Rattle.rowan_green.specs.declared.utility_types.NodeOrToken.TheVariants.{Node}
use Rattle.rowan_terms.specs.Path.{Path, subterm}
use Rattle.rowan_green.specs.Term.{NodeTerm}
use Rattle.rowan_terms.proofs.Lists.{at_map}
use Rattle.rowan_changes.specs.declared.edit.Splice.{Splice}
use Rattle.rowan_changes.specs.declared.edit_sites.PlacedEdit.{PlacedEdit}
use Rattle.rowan_changes.specs.Edit.{Edit, lies_before, place, ends_before}
use Rattle.rowan_changes.specs.GreenEditor.{edit_of, edits_of}
use Rattle.rowan_changes.specs.Plan.{EndInTurn}
use Rattle.rowan_changes.specs.Sites.{Site, EditedPlaces, site_of, sites_of, site_place, is_taken_at}
use Rattle.rowan_changes.specs.Sites.{moved_over, path_after, ArePutAt}
use Rattle.rowan_changes.specs.SitesKept.{site_in, sites_in, EndsBefore, StandInTurn, IsPlaced}
use Rattle.rowan_changes.specs.SitesKept.{IsTakenBy, ArePlaced, carried}
use Rattle.rowan_changes.proofs.OpenNodeLemmas.{take-more}
use Rattle.rowan_changes.proofs.Places.{true-before, before-true, before-trans, drop-at, drop-all}
use Rattle.rowan_changes.proofs.SiteLemmas.{length-over, over-append, stays-all, none-before}
use Rattle.rowan_changes.proofs.SiteLemmas.{none-behind, any-front, carried-over, path-none}
use Rattle.rowan_changes.proofs.SiteLemmas.{path-taken, path-moved}

-- ---- sites in turn

pub turn-take : (ss : List Site) (n : ℕ) → StandInTurn ss → StandInTurn (take n ss)
turn-take [] zero t = tt
turn-take [] (suc n) t = tt
turn-take (s ∷ ss) zero t = tt
turn-take (s ∷ ss) (suc n) t = (t.0, all-take ss n t.1, turn-take ss n t.2)
  where
    all-take : (rs : List Site) (m : ℕ) → AllByRecursion (λ f. EndsBefore (site_place f) s) rs
        → AllByRecursion (λ f. EndsBefore (site_place f) s) (take m rs)
    all-take [] zero a = tt
    all-take [] (suc m) a = tt
    all-take (r ∷ rs) zero a = tt
    all-take (r ∷ rs) (suc m) a = (a.0, all-take rs m a.1)

pub turn-drop : (ss : List Site) (n : ℕ) → StandInTurn ss → StandInTurn (drop n ss)
turn-drop [] zero t = tt
turn-drop [] (suc n) t = tt
turn-drop (s ∷ ss) zero t = t
turn-drop (s ∷ ss) (suc n) t = turn-drop ss n t.2

pub order-of : (ss : List Site) (k : ℕ) (s : Site) → StandInTurn ss → slice_get ss k ≡ Some s
    → s.start ≤ s.end
order-of [] k s t h = absurd cc
order-of (r ∷ ss) zero s t h =
    let e : r ≡ s = cc in subst (λ (x : Site). x.start ≤ x.end) e t.0
order-of (r ∷ ss) (suc k) s t h = order-of ss k s t.2 h

-- the sites before one of them end before it
pub front-ends : (ss : List Site) (k : ℕ) (s : Site) → StandInTurn ss → slice_get ss k ≡ Some s
    → AllByRecursion (EndsBefore (site_place s)) (take k ss)
front-ends [] k s t h = absurd cc
front-ends (r ∷ ss) zero s t h = tt
front-ends (r ∷ ss) (suc k) s t h = (ends ss k t.1 h, front-ends ss k s t.2 h)
  where
    ends : (rs : List Site) (j : ℕ) → AllByRecursion (λ f. EndsBefore (site_place f) r) rs
        → slice_get rs j ≡ Some s → EndsBefore (site_place s) r
    ends [] j a g = absurd cc
    ends (x ∷ rs) zero a g =
        let e : x ≡ s = cc in subst (λ (y : Site). EndsBefore (site_place y) r) e a.0
    ends (x ∷ rs) (suc j) a g = ends rs j a.1 g

turn-more : (ss : List Site) (s : Site) → StandInTurn ss → s.start ≤ s.end
    → AllByRecursion (EndsBefore (site_place s)) ss → StandInTurn (ss ++ s ∷ [])
turn-more [] s t order a = (order, tt, tt)
turn-more (r ∷ ss) s t order a = (t.0, all-more ss t.1 a.0, turn-more ss s t.2 order a.1)
  where
    all-more : (rs : List Site) → AllByRecursion (λ f. EndsBefore (site_place f) r) rs
        → EndsBefore (site_place s) r
        → AllByRecursion (λ f. EndsBefore (site_place f) r) (rs ++ s ∷ [])
    all-more [] b e = (e, tt)
    all-more (x ∷ rs) b e = (b.0, all-more rs b.1 e)

pub turn-sites : (es : List Edit) → EndInTurn es → StandInTurn (sites_of es)
turn-sites [] t = tt
turn-sites (e ∷ es) t = (t.0, each es t.1, turn-sites es t.2)
  where
    each : (fs : List Edit) → AllByRecursion (λ f. ends_before e f ≡ true) fs
        → AllByRecursion (λ f. EndsBefore (site_place f) (site_of e)) (sites_of fs)
    each [] a = tt
    each (f ∷ fs) a = (a.0, each fs a.1)

-- ---- those before a path

abbrev pub ends_at_path : Path → PlacedEdit → Bool
ends_at_path p e = lies_before e.parent.items e.end p

at-index : (P : Site → Type 0) (es : List PlacedEdit) (j : ℕ) (d : PlacedEdit)
    → AllByRecursion P (sites_in es) → j < length es → P (site_in (slice_index_or es j d))
at-index P [] j d a h = absurd (omega arith)
at-index P (e ∷ es) zero d a h = a.0
at-index P (e ∷ es) (suc j) d a h = at-index P es j d a.1 (omega arith)

order-at : (es : List PlacedEdit) (j : ℕ) (d : PlacedEdit) → StandInTurn (sites_in es)
    → j < length es
    → (site_in (slice_index_or es j d)).start ≤ (site_in (slice_index_or es j d)).end
order-at [] j d t h = absurd (omega arith)
order-at (e ∷ es) zero d t h = t.0
order-at (e ∷ es) (suc j) d t h = order-at es j d t.2 (omega arith)

-- those that end before a path stand in front of the others
pub parted : (es : List PlacedEdit) (p : Path) → StandInTurn (sites_in es) → (i j : ℕ)
    (d : PlacedEdit) → i ≤ j → j < length es → ends_at_path p (slice_index_or es j d) ≡ true
    → ends_at_path p (slice_index_or es i d) ≡ true
parted [] p t i j d le within h = absurd (omega arith)
parted (e ∷ es) p t zero zero d le within h = h
parted (e ∷ es) p t zero (suc j) d le within h =
    let here : j < length es = omega arith in
    let s = site_in e in
    let f = site_in (slice_index_or es j d) in
    let first : EndsBefore (site_place f) s =
    at-index (λ g. EndsBefore (site_place g) s) es j d t.1 here in
    before-true s.parent s.end p
    (before-trans s.parent s.end f.parent f.start f.end p
    (true-before s.parent s.end (site_place f) first) (order-at es j d t.2 here)
    (true-before f.parent f.end p h))
parted (e ∷ es) p t (suc i) zero d le within h = absurd (omega arith)
parted (e ∷ es) p t (suc i) (suc j) d le within h =
    parted es p t.2 i j d (omega arith) (omega arith) h

pub in-front : (P : Site → Type 0) (es : List PlacedEdit) (n : ℕ)
    → AllWithin (λ e. P (site_in e)) es 0 n → AllByRecursion P (sites_in (take n es))
in-front P [] zero a = tt
in-front P [] (suc n) a = tt
in-front P (e ∷ es) zero a = tt
in-front P (e ∷ es) (suc n) a = (
  a zero e (omega arith) (omega arith),
  in-front P es n (λ k d l h. a (suc k) d (omega arith) (omega arith)),
)

pub from-on : (P : Site → Type 0) (es : List PlacedEdit) (n : ℕ)
    → AllWithin (λ e. P (site_in e)) es n (length es) → AllByRecursion P (sites_in (drop n es))
from-on P [] zero a = tt
from-on P [] (suc n) a = tt
from-on P (e ∷ es) zero a = (
  a zero e (omega arith) (omega arith),
  from-on P es zero (λ k d l h. a (suc k) d (omega arith) (omega arith)),
)
from-on P (e ∷ es) (suc n) a =
    from-on P es n (λ k d l h. a (suc k) d (omega arith) (omega arith))

in-two : (es : List PlacedEdit) (n : ℕ)
    → sites_in es ≡ sites_in (take n es) ++ sites_in (drop n es)
in-two es n =
    ap sites_in (sym (take-append-drop n es)) ∙ map-append site_in (take n es) (drop n es)

-- only those before a path move it
pub moved-in-front : (es : List PlacedEdit) (p : Path) (n : ℕ)
    → AllByRecursion (λ s. lies_before s.parent s.end p ≡ false) (sites_in (drop n es))
    → moved_over (sites_in es) p ≡ moved_over (sites_in (take n es)) p
moved-in-front es p n b =
    let front = sites_in (take n es) in
    let back = sites_in (drop n es) in
    ap (λ ss. moved_over ss p) (in-two es n) ∙ over-append front back p
    ∙ ap (moved_over front) (stays-all back p b)

-- only the first of the others can take away what stands there
pub taken-none : (es : List PlacedEdit) (p : Path) (n : ℕ)
    → AllByRecursion (EndsBefore p) (sites_in (take n es)) → length es ≤ n
    → list_any (is_taken_at p) (sites_in es) ≡ false
taken-none es p n a h =
    ap (λ ss. list_any (is_taken_at p) ss) (in-two es n)
    ∙ any-front p (sites_in (take n es)) (sites_in (drop n es))
    (none-before p (sites_in (take n es)) a)
    ∙ ap (λ xs. list_any (is_taken_at p) (sites_in xs)) (drop-all es n h)

pub taken-first : (es : List PlacedEdit) (p : Path) (n : ℕ) (e : PlacedEdit)
    → StandInTurn (sites_in es) → AllByRecursion (EndsBefore p) (sites_in (take n es))
    → AllByRecursion (λ s. lies_before s.parent s.end p ≡ false) (sites_in (drop n es))
    → slice_get es n ≡ Some e
    → list_any (is_taken_at p) (sites_in es) ≡ is_taken_at p (site_in e)
taken-first es p n e t a b at =
    let s = site_in e in
    let rest = drop (n + 1) es in
    let next : drop n es ≡ e ∷ rest = drop-at es n e at in
    let back : AllByRecursion (λ r. lies_before r.parent r.end p ≡ false) (s ∷ sites_in rest) =
    subst (λ xs. AllByRecursion (λ r. lies_before r.parent r.end p ≡ false) (sites_in xs)) next b
    in
    let turn : StandInTurn (s ∷ sites_in rest) =
    subst (λ xs. StandInTurn (sites_in xs)) next (turn-back es n t) in
    ap (λ ss. list_any (is_taken_at p) ss) (in-two es n)
    ∙ any-front p (sites_in (take n es)) (sites_in (drop n es))
    (none-before p (sites_in (take n es)) a)
    ∙ ap (λ xs. list_any (is_taken_at p) (sites_in xs)) next
    ∙ ap (λ x. is_taken_at p s || x) (none-behind p s (sites_in rest) turn.1 back.0)
    ∙ no-more (is_taken_at p s)
  where
    turn-back : (xs : List PlacedEdit) (m : ℕ) → StandInTurn (sites_in xs)
        → StandInTurn (sites_in (drop m xs))
    turn-back [] zero u = tt
    turn-back [] (suc m) u = tt
    turn-back (x ∷ xs) zero u = u
    turn-back (x ∷ xs) (suc m) u = turn-back xs m u.2

    no-more : (x : Bool) → (x || false) ≡ x
    no-more true = refl
    no-more false = refl

-- ---- edits that are placed

front-same : (es : List PlacedEdit) (n k : ℕ) → k ≤ n
    → take k (sites_in (take n es)) ≡ take k (sites_in es)
front-same es n zero h = refl
front-same [] zero (suc k) h = refl
front-same [] (suc n) (suc k) h = refl
front-same (e ∷ es) zero (suc k) h = absurd (omega arith)
front-same (e ∷ es) (suc n) (suc k) h = ap (λ ss. site_in e ∷ ss) (front-same es n k (omega arith))

get-front : (es : List PlacedEdit) (n k : ℕ) (e : PlacedEdit) → slice_get (take n es) k ≡ Some e
    → (k < n) × (slice_get es k ≡ Some e)
get-front [] zero k e h = absurd cc
get-front [] (suc n) k e h = absurd cc
get-front (x ∷ es) zero k e h = absurd cc
get-front (x ∷ es) (suc n) zero e h = (omega arith, h)
get-front (x ∷ es) (suc n) (suc k) e h =
    let r = get-front es n k e h in (omega (arith, r.0), r.1)

sites-take : (es : List PlacedEdit) (n : ℕ) → take n (sites_in es) ≡ sites_in (take n es)
sites-take es zero = refl
sites-take [] (suc n) = refl
sites-take (e ∷ es) (suc n) = ap (λ ss. site_in e ∷ ss) (sites-take es n)

pub placed-front : (es : List PlacedEdit) (n : ℕ) → ArePlaced es → ArePlaced (take n es)
placed-front es n h = record {
  turn = subst StandInTurn (sites-take es n) (turn-take (sites_in es) n h.turn);
  each = λ k e at. (
      let r = get-front es n k e at in
      subst (λ ss. IsPlaced ss e) (sym (front-same es n k (omega (arith, r.0))))
      (h.each k e r.1));
}

get-more : {A : Type 0} (xs : List A) (y : A) (n : ℕ) (x : A) → slice_get (xs ++ y ∷ []) n ≡ Some x
    → (slice_get xs n ≡ Some x) ⊎ ((n ≡ length xs) × (y ≡ x))
get-more [] y zero x h = let e : y ≡ x = cc in inr (refl, e)
get-more [] y (suc n) x h = absurd cc
get-more (z ∷ xs) y zero x h = inl h
get-more (z ∷ xs) y (suc n) x h = elim (get-more xs y n x h) [
  | inl here ↦ inl here
  | inr both ↦ inr (ap suc both.0, both.1)
]

get-less : {A : Type 0} (xs : List A) (n : ℕ) (x : A) → slice_get xs n ≡ Some x → n < length xs
get-less [] n x h = absurd cc
get-less (y ∷ xs) zero x h = omega arith
get-less (y ∷ xs) (suc n) x h = omega (arith, get-less xs n x h)

front-more : (ss : List Site) (s : Site) (n : ℕ) → n ≤ length ss → take n (ss ++ s ∷ []) ≡ take n ss
front-more ss s zero h = refl
front-more [] s (suc n) h = absurd (omega arith)
front-more (r ∷ ss) s (suc n) h = ap (λ x. r ∷ x) (front-more ss s n (omega arith))

pub placed-more : (es : List PlacedEdit) (e : PlacedEdit) → ArePlaced es
    → IsPlaced (sites_in es) e → AllByRecursion (EndsBefore (site_place (site_in e))) (sites_in es)
    → e.start ≤ e.end → ArePlaced (es ++ e ∷ [])
placed-more es e h g a order =
    let all = map-append site_in es (e ∷ []) in
    let len = length-map es site_in in
    record {
      turn = subst StandInTurn (sym all) (turn-more (sites_in es) (site_in e) h.turn order a);
      each = λ n x at. at-place n x all len (get-more es e n x at);
    }
  where
    at-place : (n : ℕ) (x : PlacedEdit)
        → sites_in (es ++ e ∷ []) ≡ sites_in es ++ site_in e ∷ []
        → length (sites_in es) ≡ length es
        → (slice_get es n ≡ Some x) ⊎ ((n ≡ length es) × (e ≡ x))
        → IsPlaced (take n (sites_in (es ++ e ∷ []))) x
    at-place n x all len (inl here) =
        let few : n ≤ length (sites_in es) = omega (arith, len, get-less es n x here) in
        subst (λ ss. IsPlaced ss x)
        (sym (ap (take n) all ∙ front-more (sites_in es) (site_in e) n few)) (h.each n x here)
    at-place n x all len (inr both) =
        let few : n ≤ length (sites_in es) = omega (arith, len, both.0) in
        let long : length (sites_in es) ≤ n = omega (arith, len, both.0) in
        subst (λ y. IsPlaced (take n (sites_in (es ++ e ∷ []))) y) both.1
        (subst (λ ss. IsPlaced ss e)
        (sym (ap (take n) all ∙ front-more (sites_in es) (site_in e) n few
        ∙ take_all n (sites_in es) long)) g)

pub placed-length : (ss : List Site) (e : PlacedEdit) → IsPlaced ss e
    → length e.new_place.items ≡ length e.parent.items + 1
placed-length ss e h =
    ap length h.place ∙ length-over ss (site_place (site_in e))
    ∙ length-append e.parent.items (e.start ∷ [])

last-site : (es : List PlacedEdit) (k : ℕ) (e : PlacedEdit) → slice_get es k ≡ Some e
    → length es ≡ suc k → sites_in es ≡ take k (sites_in es) ++ site_in e ∷ []
last-site [] k e at len = absurd cc
last-site (x ∷ []) zero e at len = let s : x ≡ e = cc in ap (λ y. site_in y ∷ []) s
last-site (x ∷ y ∷ es) zero e at len = absurd (omega arith)
last-site (x ∷ es) (suc k) e at len =
    ap (λ ss. site_in x ∷ ss) (last-site es k e at (omega arith))

-- what lies behind all edits goes with the last one
pub all-carried : (es : List PlacedEdit) (k : ℕ) (e : PlacedEdit) (p : Path) → ArePlaced es
    → slice_get es k ≡ Some e → length es ≡ suc k → EndsBefore p (site_in e)
    → moved_over (sites_in es) p
    ≡ carried e.parent.items e.end e.new_end e.new_place.items p
all-carried es k e p h at len b =
    let i = h.each k e at in
    let ss = take k (sites_in es) in
    ap (λ rs. moved_over rs p) (last-site es k e at len)
    ∙ carried-over ss (site_in e) e.new_place.items p e.new_end (turn-take (sites_in es) k h.turn)
    (front-ends (sites_in es) k (site_in e) h.turn (at_map site_in es k e at)) i.place i.end b

pub last-ends : (es : List PlacedEdit) (k : ℕ) (e : PlacedEdit) (p : Path)
    → AllByRecursion (EndsBefore p) (sites_in es) → slice_get es k ≡ Some e
    → EndsBefore p (site_in e)
last-ends [] k e p a at = absurd cc
last-ends (x ∷ es) zero e p a at =
    let s : x ≡ e = cc in subst (λ y. EndsBefore p (site_in y)) s a.0
last-ends (x ∷ es) (suc k) e p a at = last-ends es k e p a.1 at

-- ---- edits that are placed one after the other

pub record AreBegun (ss : List Splice) (k : ℕ) (es : List PlacedEdit) : Type 0 where
  pub sites : sites_in es ≡ take k (sites_of (edits_of ss))
  pub placed : ArePlaced es

pub begun : (ss : List Splice) (es : List PlacedEdit) → es ≡ [] → AreBegun ss 0 es
begun ss es none =
    subst (AreBegun ss 0) (sym none)
    (record { sites = refl; placed = record { turn = tt; each = λ n e at. absurd cc } })

pub begun-ends : (ss : List Splice) (k : ℕ) (s : Splice) (es : List PlacedEdit)
    → EndInTurn (edits_of ss) → slice_get ss k ≡ Some s → AreBegun ss k es
    → AllByRecursion (EndsBefore (place (edit_of s))) (sites_in es)
begun-ends ss k s es t at h =
    let all = sites_of (edits_of ss) in
    let there : slice_get all k ≡ Some (site_of (edit_of s)) =
    at_map site_of (edits_of ss) k (edit_of s) (at_map edit_of ss k s at) in
    subst (AllByRecursion (EndsBefore (place (edit_of s)))) (sym h.sites)
    (front-ends all k (site_of (edit_of s)) (turn-sites (edits_of ss) t) there)

pub begun-more : (ss : List Splice) (k : ℕ) (s : Splice) (es now : List PlacedEdit)
    (e : PlacedEdit) → EndInTurn (edits_of ss) → slice_get ss k ≡ Some s → AreBegun ss k es
    → site_in e ≡ site_of (edit_of s) → IsPlaced (sites_in es) e → now ≡ es ++ e ∷ []
    → AreBegun ss (k + 1) now
begun-more ss k s es now e t at h same placed is =
    let all = sites_of (edits_of ss) in
    let there : slice_get all k ≡ Some (site_of (edit_of s)) =
    at_map site_of (edits_of ss) k (edit_of s) (at_map edit_of ss k s at) in
    let ends : AllByRecursion (EndsBefore (site_place (site_in e))) (sites_in es) =
    subst (λ x. AllByRecursion (EndsBefore (site_place x)) (sites_in es)) (sym same)
    (begun-ends ss k s es t at h) in
    let order : e.start ≤ e.end =
    subst (λ (x : Site). x.start ≤ x.end) (sym same)
    (order-of all k (site_of (edit_of s)) (turn-sites (edits_of ss) t) there) in
    let next : k + 1 ≡ suc k = omega arith in
    subst (AreBegun ss (k + 1)) (sym is) (record {
      sites = map-append site_in es (e ∷ []) ∙ ap (λ xs. xs ++ site_in e ∷ []) h.sites
          ∙ ap (λ x. take k all ++ x ∷ []) same ∙ sym (take-more all k (site_of (edit_of s)) there)
          ∙ ap (λ n. take n all) (sym next);
      placed = placed-more es e h.placed placed ends order;
    })

pub begun-all : (ss : List Splice) (k : ℕ) (es : List PlacedEdit) → AreBegun ss k es
    → length ss ≤ k → sites_in es ≡ sites_of (edits_of ss)
begun-all ss k es h long =
    h.sites ∙ take_all k (sites_of (edits_of ss)) (omega (
      arith,
      long,
      length-map (edits_of ss) site_of,
      length-map ss edit_of,
    ))

-- ---- where the element at a path is afterwards

-- whether an edit takes it away is whether the first one does that does not end before it
pub taken-is : (es : List PlacedEdit) (p : Path) (n : ℕ) (b : Bool) → StandInTurn (sites_in es)
    → AllByRecursion (EndsBefore p) (sites_in (take n es))
    → AllByRecursion (λ s. lies_before s.parent s.end p ≡ false) (sites_in (drop n es))
    → IsTakenBy (slice_get es n) p b → list_any (is_taken_at p) (sites_in es) ≡ b
taken-is es p n b t front back h = at (slice_get es n) refl h
  where
    past : (xs : List PlacedEdit) (m : ℕ) → slice_get xs m ≡ None → length xs ≤ m
    past [] m g = omega arith
    past (x ∷ xs) zero g = absurd cc
    past (x ∷ xs) (suc m) g = omega (arith, past xs m g)

    at : (o : Option PlacedEdit) → slice_get es n ≡ o → IsTakenBy o p b
        → list_any (is_taken_at p) (sites_in es) ≡ b
    at None g taken = taken-none es p n front (past es n g) ∙ sym taken
    at (Some e) g taken = taken-first es p n e t front back g ∙ sym taken

pub after-none : (root : NodeTerm) (es : List PlacedEdit) (a : EditedPlaces) (p : Path)
    → (let seen : EditedPlaces = record { root = root; sites = sites_in es } in seen ≡ a)
    → is_some (subterm (Node root) p) ≡ false → ◌≡◌ {A = Option Path} None (path_after a p)
after-none root es a p view h =
    subst (λ (x : EditedPlaces). ◌≡◌ {A = Option Path} None (path_after x p)) view
    (sym (path-none (record { root = root; sites = sites_in es }) p h))

pub after-taken : (root : NodeTerm) (es : List PlacedEdit) (a : EditedPlaces) (p : Path)
    → (let seen : EditedPlaces = record { root = root; sites = sites_in es } in seen ≡ a)
    → list_any (is_taken_at p) (sites_in es) ≡ true
    → ◌≡◌ {A = Option Path} None (path_after a p)
after-taken root es a p view h =
    subst (λ (x : EditedPlaces). ◌≡◌ {A = Option Path} None (path_after x p)) view
    (sym (path-taken (record { root = root; sites = sites_in es }) p h))

pub after-moved : (root : NodeTerm) (es : List PlacedEdit) (a : EditedPlaces) (p moved : Path)
    → (let seen : EditedPlaces = record { root = root; sites = sites_in es } in seen ≡ a)
    → is_some (subterm (Node root) p) ≡ true
    → list_any (is_taken_at p) (sites_in es) ≡ false → moved ≡ moved_over (sites_in es) p
    → Some moved ≡ path_after a p
after-moved root es a p moved view h g is =
    subst (λ (x : EditedPlaces). Some moved ≡ path_after x p) view
    (ap Some is ∙ sym (path-moved (record { root = root; sites = sites_in es }) p h g))

-- with no edits nothing moves
pub none-moved : (es : List PlacedEdit) (p : Path) → length es ≡ 0 → p ≡ moved_over (sites_in es) p
none-moved [] p h = refl
none-moved (e ∷ es) p h = absurd (omega arith)

-- where what an edit puts in stands
pub put-at : (es : List PlacedEdit) (n : ℕ) (e : PlacedEdit) (parent : Path) (start : ℕ)
    → ArePlaced es → slice_get es n ≡ Some e → e.new_place.items ≡ parent ++ start ∷ []
    → ArePutAt (sites_in es) n parent start e.new_end
put-at es n e parent start h at is =
    let i = h.each n e at in
    record {
      site = site_in e;
      is = at_map site_in es n e at;
      from = sym is ∙ i.place;
      to = i.end parent start is;
    }
