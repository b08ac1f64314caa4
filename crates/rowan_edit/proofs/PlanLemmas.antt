-- Plans: one more edit among those that stand in order, and the last one taken off.
use Rattle.std.proofs.Common.{◌≡◌, ℕ, ◌≤◌, Bool, true, false, List, []}
use Rattle.std.proofs.Common.{◌∷◌, ◌++◌, length, take, refl, sym, ◌∙◌, ap}
use Rattle.std.proofs.Common.{subst, arith}
use Rattle.std.specs.Prelude.{not, ◌&&◌, if◌then◌else◌}
use Rattle.std.specs.List.{AllByRecursion}
use Rattle.std.proofs.lemmas.List.{map-append, append-nil}
use Rattle.rowan_green.specs.declared.fault.Fault.{Fault}
use Rattle.rowan_green.specs.declared.utility_types.NodeOrToken.TheVariants.{Node}
use Rattle.rowan_terms.specs.Path.{Path}
use Rattle.rowan_green.specs.Term.{NodeTerm, Term, node_children}
use Rattle.rowan_changes.specs.declared.edit.Splice.{Splice}
use Rattle.rowan_changes.specs.declared.zipper.Zipper.{Zipper}
use Rattle.rowan_changes.specs.Edit.{Edit, edited, edited_once, place, ends_before, conflicts}
use Rattle.rowan_changes.specs.Edit.{lies_before}
use Rattle.rowan_changes.specs.GreenEditor.{edit_of, edits_of}
use Rattle.rowan_changes.specs.Limits.{PassesLimitAt, PassesLimitIn}
use Rattle.rowan_changes.specs.Plan.{IsOf, EndInTurn, AreInOrder, added}
use Rattle.rowan_changes.specs.Zipper.{tree_of, path_of, place_of, HasPlace, Fork, PassesBelow}
use Rattle.rowan_changes.proofs.Places.{Before, true-before, before-true, before-trans, fork-before}
use Rattle.rowan_changes.proofs.Untouched.{still-passes, edit_at}
use Rattle.rowan_changes.proofs.Ways.{room-all}

abbrev pub EachEndsBefore : List Edit → Edit → Type 0
EachEndsBefore es e = AllByRecursion (λ f. ends_before f e ≡ true) es

abbrev pub EndsBeforeEach : Edit → List Edit → Type 0
EndsBeforeEach e es = AllByRecursion (λ f. ends_before e f ≡ true) es

pub all-both : {A : Type 0} (P : A → Type 0) (xs ys : List A) → AllByRecursion P (xs ++ ys)
    → AllByRecursion P xs × AllByRecursion P ys
all-both P [] ys a = (tt, a)
all-both P (x ∷ xs) ys a = let r = all-both P xs ys a.1 in ((a.0, r.0), r.1)

pub all-joined : {A : Type 0} (P : A → Type 0) (xs ys : List A) → AllByRecursion P xs
    → AllByRecursion P ys → AllByRecursion P (xs ++ ys)
all-joined P [] ys a b = b
all-joined P (x ∷ xs) ys a b = (a.0, all-joined P xs ys a.1 b)

pub ends-trans : (d e f : Edit) → ends_before d e ≡ true → e.start ≤ e.end → ends_before e f ≡ true
    → ends_before d f ≡ true
ends-trans d e f h order g =
    before-true d.parent d.end (place f) (before-trans d.parent d.end e.parent e.start e.end
    (place f) (true-before d.parent d.end (place e) h) order
    (true-before e.parent e.end (place f) g))

-- ---- where one more edit comes

pub added-behind : (es fs : List Edit) (e : Edit) → EachEndsBefore es e
    → AllByRecursion (λ f. ends_before f e ≡ false) fs → added (es ++ fs) e ≡ es ++ e ∷ fs
added-behind [] [] e a b = refl
added-behind [] (f ∷ fs) e a b = ap (λ t. if t then f ∷ added fs e else e ∷ f ∷ fs) b.0
added-behind (d ∷ es) fs e a b =
    ap (λ t. if t then d ∷ added (es ++ fs) e else e ∷ d ∷ (es ++ fs)) a.0
    ∙ ap (λ xs. d ∷ xs) (added-behind es fs e a.1 b)

turn-joined : (es fs : List Edit) (e : Edit) → EndInTurn (es ++ fs) → EachEndsBefore es e
    → EndsBeforeEach e fs → e.start ≤ e.end → EndInTurn (es ++ e ∷ fs)
turn-joined [] fs e t a b order = (order, b, t)
turn-joined (d ∷ es) fs e t a b order =
    let parts = all-both (λ f. ends_before d f ≡ true) es fs t.1 in (
      t.0,
      all-joined (λ f. ends_before d f ≡ true) es (e ∷ fs) parts.0 (a.0, parts.1),
      turn-joined es fs e t.2 a.1 b order,
    )

pub order-added : (root : NodeTerm) (es fs : List Edit) (e : Edit) → AreInOrder root (es ++ fs)
    → EachEndsBefore es e → EndsBeforeEach e fs → IsOf root e → AreInOrder root (es ++ e ∷ fs)
order-added root es fs e h a b of =
    let parts = all-both (IsOf root) es fs h.of_tree in
    record {
      of_tree = all-joined (IsOf root) es (e ∷ fs) parts.0 (of, parts.1);
      in_turn = turn-joined es fs e h.in_turn a b of.order;
    }

-- an edit that ends before the first of others ends before all of them
pub ends-before-rest : (e f : Edit) (fs : List Edit) → EndInTurn (f ∷ fs)
    → ends_before e f ≡ true → EndsBeforeEach e (f ∷ fs)
ends-before-rest e f fs t h = (h, rest fs t.1)
  where
    rest : (gs : List Edit) → EndsBeforeEach f gs → EndsBeforeEach e gs
    rest [] a = tt
    rest (g ∷ gs) a = (ends-trans e f g h t.0 a.0, rest gs a.1)

-- ---- conflicts

not-both : (b c : Bool) → b ≡ false → c ≡ false → not b && not c ≡ true
not-both false false e f = refl
not-both true c e f = absurd cc
not-both false true e f = absurd cc

pub conflict-is : (e f : Edit) → ends_before e f ≡ false → ends_before f e ≡ false
    → conflicts e f ≡ true
conflict-is e f h g = not-both (ends_before e f) (ends_before f e) h g

first-apart : (b c : Bool) → b ≡ true → not b && not c ≡ false
first-apart true c e = refl
first-apart false c e = absurd cc

second-apart : (b c : Bool) → c ≡ true → not b && not c ≡ false
second-apart true true e = refl
second-apart false true e = refl
second-apart b false e = absurd cc

pub all-apart : (es fs : List Edit) (e : Edit) → EachEndsBefore es e → EndsBeforeEach e fs
    → AllByRecursion (λ f. conflicts f e ≡ false) (es ++ fs)
all-apart es fs e a b = all-joined (λ f. conflicts f e ≡ false) es fs (before es a) (behind fs b)
  where
    before : (ds : List Edit) → EachEndsBefore ds e → AllByRecursion (λ f. conflicts f e ≡ false) ds
    before [] h = tt
    before (d ∷ ds) h =
        (first-apart (ends_before d e) (ends_before e d) h.0, before ds h.1)

    behind : (ds : List Edit) → EndsBeforeEach e ds → AllByRecursion (λ f. conflicts f e ≡ false) ds
    behind [] h = tt
    behind (d ∷ ds) h =
        (second-apart (ends_before d e) (ends_before e d) h.0, behind ds h.1)

-- ---- the last edit

edited-more : (t : Term) (es : List Edit) (e : Edit)
    → edited t (es ++ e ∷ []) ≡ edited (edited_once t e) es
edited-more t [] e = refl
edited-more t (f ∷ es) e = ap (λ u. edited_once u f) (edited-more t es e)

turn-front : (es fs : List Edit) → EndInTurn (es ++ fs) → EndInTurn es
turn-front [] fs t = tt
turn-front (e ∷ es) fs t =
    (t.0, (all-both (λ f. ends_before e f ≡ true) es fs t.1).0, turn-front es fs t.2)

each-before-last : (es : List Edit) (e : Edit) → EndInTurn (es ++ e ∷ []) → EachEndsBefore es e
each-before-last [] e t = tt
each-before-last (d ∷ es) e t =
    ((all-both (λ f. ends_before d f ≡ true) es (e ∷ []) t.1).1.0, each-before-last es e t.2)

-- all edits that are left lie before a place
abbrev pub LieBefore : List Edit → Path → Type 0
LieBefore es z = AllByRecursion (λ e. lies_before e.parent e.end z ≡ true) es

-- the edits that are left make of the tree so far what all make of the old one
pub record AreLeft (root : NodeTerm) (left all : List Edit) (z : Zipper) : Type 0 where
  pub tree : edited (tree_of z) left ≡ edited (Node root) all
  pub order : AreInOrder root left
  pub before : LieBefore left (place_of z)

-- the last one of those that are left
pub record IsLast (root : NodeTerm) (rest : List Edit) (e : Edit) (all : List Edit) (z : Zipper)
    : Type 0 where
  pub tree : edited (edited_once (tree_of z) e) rest ≡ edited (Node root) all
  pub of : HasPlace root e.parent e.end
  pub start : e.start ≤ e.end
  pub order : AreInOrder root rest
  pub before : lies_before e.parent e.end (place_of z) ≡ true
  pub behind : EachEndsBefore rest e

edits-more : (rest : List Splice) (s : Splice)
    → edits_of (rest ++ s ∷ []) ≡ edits_of rest ++ edit_of s ∷ []
edits-more rest s = map-append edit_of rest (s ∷ [])

pub last-left : (root : NodeTerm) (left rest : List Splice) (s : Splice) (all : List Edit)
    (z : Zipper) → left ≡ rest ++ s ∷ [] → AreLeft root (edits_of left) all z
    → IsLast root (edits_of rest) (edit_of s) all z
last-left root left rest s all z e h =
    let es = edits_of rest in
    let f = edit_of s in
    let list : edits_of left ≡ es ++ f ∷ [] = ap edits_of e ∙ edits-more rest s in
    let order : AreInOrder root (es ++ f ∷ []) = subst (AreInOrder root) list h.order in
    let places = all-both (IsOf root) es (f ∷ []) order.of_tree in
    let of = places.1.0 in
    record {
      tree = sym (edited-more (tree_of z) es f) ∙ ap (edited (tree_of z)) (sym list) ∙ h.tree;
      of = record { node = of.node; stands = of.stands; within = of.within };
      start = of.order;
      order = record { of_tree = places.0; in_turn = turn-front es (f ∷ []) order.in_turn };
      before = (all-both (λ d. lies_before d.parent d.end (place_of z) ≡ true) es (f ∷ [])
          (subst (λ ds. LieBefore ds (place_of z)) list h.before)).1.0;
      behind = each-before-last es f order.in_turn;
    }

-- at first all edits lie before the place behind the root's last child
pub left-first : (root : NodeTerm) (all : List Edit) (z : Zipper) → AreInOrder root all
    → tree_of z ≡ Node root → place_of z ≡ length (node_children root) ∷ []
    → AreLeft root all all z
left-first root all z h tree at = record {
  tree = ap (λ t. edited t all) tree;
  order = h;
  before = subst (LieBefore all) (sym at) (each all h.of_tree);
}
  where
    each : (es : List Edit) → AllByRecursion (IsOf root) es
        → LieBefore es (length (node_children root) ∷ [])
    each [] a = tt
    each (e ∷ es) a = (
      before-true e.parent e.end (length (node_children root) ∷ [])
          (room-all root e.parent e.end a.0.node a.0.stands a.0.within),
      each es a.1,
    )

-- ---- why not

-- a node below where the paths part stands in the edited tree, whatever edits are left
pub fails-later : (root : NodeTerm) (rest : List Edit) (e : Edit) (all : List Edit) (z : Zipper)
    (count : ℕ) (fault : Fault) → IsLast root rest e all z → Fork (path_of z) e.parent count
    → PassesBelow z count fault → PassesLimitIn (edited (Node root) all) fault
fails-later root rest e all z count fault last fork h =
    let p = take h.depth (path_of z) in
    let at : Before e.parent e.end p =
    fork-before count (path_of z) e.parent z.inner.kept e.end h.depth fork
    (true-before e.parent e.end (place_of z) last.before) h.below h.within in
    let turn : EndInTurn (rest ++ e ∷ []) =
    turn-joined rest [] e (subst EndInTurn (sym (append-nil rest)) last.order.in_turn) last.behind
    tt last.start in
    let r = still-passes (tree_of z) (rest ++ e ∷ []) p fault turn
    (all-joined (λ d. Before d.parent d.end p) rest (e ∷ []) (each rest last.behind at) (at, tt))
    h.passes in
    let same : edited (tree_of z) (rest ++ e ∷ []) ≡ edited (Node root) all =
    edited-more (tree_of z) rest e ∙ last.tree in
    (r.path, subst (λ t. PassesLimitAt t r.path fault) same r.passes)
  where
    each : (es : List Edit) → EachEndsBefore es e → Before e.parent e.end (take h.depth (path_of z))
        → AllByRecursion (λ d. Before d.parent d.end (take h.depth (path_of z))) es
    each [] a b = tt
    each (d ∷ es) a b = (
      before-trans d.parent d.end e.parent e.start e.end (take h.depth (path_of z))
          (true-before d.parent d.end (place e) a.0) last.start b,
      each es a.1 b,
    )

-- ---- the last edit is made

pub next-left : (root : NodeTerm) (rest : List Edit) (e : Edit) (all : List Edit) (z y x : Zipper)
    → IsLast root rest e all z → tree_of y ≡ tree_of z → path_of y ≡ e.parent
    → tree_of x ≡ edited_once (tree_of y) (edit_at (path_of y) e.start e.end e.new)
    → place_of x ≡ path_of y ++ e.start ∷ [] → AreLeft root rest all x
next-left root rest e all z y x last tree path made at = record {
  tree = ap (λ t. edited t rest) (made
      ∙ ap (λ p. edited_once (tree_of y) (edit_at p e.start e.end e.new)) path
      ∙ ap (λ t. edited_once t e) tree) ∙ last.tree;
  order = last.order;
  before = subst (LieBefore rest) (sym (at ∙ ap (λ p. p ++ e.start ∷ []) path)) last.behind;
}

pub all-made : (root : NodeTerm) (left : List Splice) (all : List Edit) (z : Zipper)
    → length left ≡ 0 → AreLeft root (edits_of left) all z → tree_of z ≡ edited (Node root) all
all-made root [] all z e h = h.tree
all-made root (s ∷ left) all z e h = absurd (omega arith)
