-- The tree of the plain edits is the one with edits and arrangements made one after the other.
use Rattle.std.proofs.Common.{◌≡◌, ℕ, ◌+◌, ◌≤◌, Bool, true, false, List, [], ◌∷◌, ◌++◌, length}
use Rattle.std.proofs.Common.{Option, Some, None, refl, sym, ◌∙◌, ap, subst, arith, inl, inr}
use Rattle.std.specs.Prelude.{not, cond, if◌then◌else◌, ◌||◌}
use Rattle.std.specs.Cmp.Lexicographic.{slice_cmp}
use Rattle.std.specs.List.{AllByRecursion, list_any}
use Rattle.std.specs.Option.{option_map, is_some}
use Rattle.std.specs.Ordering.{nat_cmp}
use Rattle.std.specs.declared.cmp.Ordering.TheVariants.{Less}
use Rattle.std.proofs.lemmas.Bool.{cases_Bool}
use Rattle.std.proofs.lemmas.List.{append-nil}
use Rattle.rowan_green.specs.declared.utility_types.NodeOrToken.TheVariants.{Node}
use Rattle.rowan_green.specs.Edits.{spliced}
use Rattle.rowan_terms.specs.Path.{Path, subterm, put}
use Rattle.rowan_green.specs.Term.{NodeTerm, Term, node_of, node_kind, node_children}
use Rattle.rowan_terms.proofs.PutLemmas.{put-again, put-join, subterm-put}
use Rattle.rowan_table.specs.Moves.{children_of}
use Rattle.rowan_edit.specs.ArrangedTree.{with_pieces, put_pieces, arranged_once, all_made}
use Rattle.rowan_edit.specs.ArrangedTree.{edits_early, edits_late, AreInPathOrder, IsPlanned}
use Rattle.rowan_edit.specs.Arrangements.{Arrangement, ArrangedPlan, Excludes, IsArrangementOf}
use Rattle.rowan_edit.specs.Arrangements.{AreFree, all_arranged, arranged, as_edit, edited_at}
use Rattle.rowan_edit.specs.Arrangements.{edits_outside, gap, plain_edits}
use Rattle.rowan_changes.specs.Edit.{Edit, edited, edited_once, put_spliced, with_spliced, place}
use Rattle.rowan_changes.specs.Edit.{ends_before}
use Rattle.rowan_edit.specs.Inside.{rest_behind, edits_inside}
use Rattle.rowan_edit.specs.Pieces.{named_in}
use Rattle.rowan_changes.specs.Plan.{IsOf, EndInTurn, AreInOrder, added}
use Rattle.rowan_changes.specs.Sites.{is_taken_at, site_of, sites_of}
use Rattle.rowan_edit.proofs.ArrangeLemmas.{all-beyond, all-beyond-outside}
use Rattle.rowan_edit.proofs.ArrangeLemmas.{all-early-outside, beyond-not-before, early-before}
use Rattle.rowan_edit.proofs.ArrangeLemmas.{inside-append, outside-append, outside-inside}
use Rattle.rowan_edit.proofs.ArrangeLemmas.{outside-all, turn-rest, turn-without, all-without}
use Rattle.rowan_edit.proofs.ArrangeLemmas.{beyond-behind, node-free}
use Rattle.rowan_edit.proofs.ExcludeLemmas.{IsBeyond, late-behind, less-before, rest-splits}
use Rattle.rowan_changes.proofs.Places.{Before, true-before, before-true}
use Rattle.rowan_edit.proofs.PlanLemmas.{EachEndsBefore, all-both, all-joined, added-behind}
use Rattle.rowan_edit.proofs.PlanLemmas.{ends-trans, order-added}
use Rattle.rowan_edit_laws.proofs.SiteLaw.{elements-moved, node-edited, stays-inside}
use Rattle.rowan_changes.proofs.Places.{drop-all}
use Rattle.rowan_changes.proofs.Untouched.{edit_at}

edited-append : (t : Term) (es fs : List Edit) → edited t (es ++ fs) ≡ edited (edited t fs) es
edited-append t [] fs = refl
edited-append t (e ∷ es) fs = ap (λ u. edited_once u e) (edited-append t es fs)

-- ---- edits inside of a node leave what is around it

-- what stands at a path after edits inside of it, and that only this is other
record KeepsAround (s t : Term) (p : Path) : Type 0 where
  at : Term
  stands : subterm t p ≡ Some at
  around : (y : Term) → put t p y ≡ put s p y

once-around : (s t : Term) (p r : Path) (start end : ℕ) (new : List Term) → KeepsAround s t p
    → KeepsAround s (edited_once t (edit_at (p ++ r) start end new)) p
once-around s t p r start end new k = case (subterm t (p ++ r)) refl
  where
    e : Edit
    e = edit_at (p ++ r) start end new

    case : (o : Option Term) → subterm t (p ++ r) ≡ o → KeepsAround s (put_spliced t e o) p
    case None h = k
    case (Some v) h =
        let x = with_spliced v e in
        let join = put-join t p r x k.at k.stands in
        record {
          at = put k.at r x;
          stands = ap (λ u. subterm u p) join ∙ subterm-put t p (put k.at r x) k.at k.stands;
          around = λ y. ap (λ u. put u p y) join ∙ put-again t p (put k.at r x) y ∙ k.around y;
        }

abbrev AreInside : Path → List Edit → Type 0
AreInside p es = AllByRecursion (λ e. (r : Path) × (e.parent ≡ p ++ r)) es

all-around : (s : Term) (p : Path) (w : Term) → subterm s p ≡ Some w → (es : List Edit)
    → AreInside p es → KeepsAround s (edited s es) p
all-around s p w h [] a = record { at = w; stands = h; around = λ y. refl }
all-around s p w h (e ∷ es) a =
    subst (λ q. KeepsAround s (edited_once (edited s es) (edit_at q e.start e.end e.new)) p)
    (sym a.0.1)
    (once-around s (edited s es) p a.0.0 e.start e.end e.new (all-around s p w h es a.1))

-- ---- the edits behind the gap: first those inside, then those behind the node

record AreSplit (p : Path) (es : List Edit) : Type 0 where
  taken : List Edit
  behind : List Edit
  is : es ≡ taken ++ behind
  inside : AreInside p taken
  none : edits_outside p taken ≡ []
  beyond : AllByRecursion (IsBeyond p) behind

split : (p : Path) (es : List Edit) → EndInTurn es
    → AllByRecursion (λ e. ends_before (gap p) e ≡ true) es → AreSplit p es
split p [] t a = record { taken = []; behind = []; is = refl; inside = tt; none = refl; beyond = tt }
split p (e ∷ es) t a = case (split p es t.2 a.1) (rest_behind p e.parent) refl
  where
    case : AreSplit p es → (o : Option Path) → rest_behind p e.parent ≡ o → AreSplit p (e ∷ es)
    case rest None h = record {
      taken = [];
      behind = e ∷ es;
      is = refl;
      inside = tt;
      none = refl;
      beyond = all-beyond p (e ∷ es) t a (λ f fs is.
          (let same : e ≡ f = cc in
          subst (λ (x : Edit). rest_behind p x.parent ≡ None) same h));
    }
    case rest (Some r) h = record {
      taken = e ∷ rest.taken;
      behind = rest.behind;
      is = ap (λ xs. e ∷ xs) rest.is;
      inside = ((r, rest-splits p e.parent r h), rest.inside);
      none = ap (λ o. cond (not (is_some o)) (e ∷ edits_outside p rest.taken)
          (edits_outside p rest.taken)) h ∙ rest.none;
      beyond = rest.beyond;
    }

-- ---- one arrangement

gap-places : (p : Path) (es : List Edit) → AllByRecursion (λ e. ends_before (gap p) e ≡ true) es
    → AllByRecursion (λ f. Before (p ++ []) 0 (place f)) es
gap-places p [] a = tt
gap-places p (e ∷ es) a = (
  subst (λ q. Before q 0 (place e)) (sym (append-nil p)) (true-before p 0 (place e) a.0),
  gap-places p es a.1,
)

gap-taken : (p : Path) (es : List Edit) → AreFree es p
    → list_any (is_taken_at p) (sites_of es) ≡ false
gap-taken p [] a = refl
gap-taken p (e ∷ es) a =
    ap (λ b. b || list_any (is_taken_at p) (sites_of es)) (case (is_taken_at p (site_of e)) refl)
    ∙ gap-taken p es a.1
  where
    case : (b : Bool) → is_taken_at p (site_of e) ≡ b → is_taken_at p (site_of e) ≡ false
    case true h = absurd (a.0 (inr h))
    case false h = h

-- what stands at the node after the edits behind the gap
at-node : (root : NodeTerm) (p : Path) (u : Term) (es : List Edit) → subterm (Node root) p ≡ Some u
    → EndInTurn es → AreFree es p → AllByRecursion (λ e. ends_before (gap p) e ≡ true) es
    → subterm (edited (Node root) es) p ≡ Some (edited u (edits_inside p es))
at-node root p u es h turn free behind =
    ap (subterm (edited (Node root) es))
    (sym (stays-inside p [] 0 es (gap-places p es behind) turn))
    ∙ elements-moved (Node root) es p u turn (gap-taken p es free) h

whole-children : (n : NodeTerm) (new : List Term)
    → spliced (node_children n) 0 (length (node_children n)) new ≡ new
whole-children n new =
    ap (λ xs. new ++ xs) (drop-all (node_children n) (length (node_children n)) (omega arith))
    ∙ append-nil new

-- the arrangement of a node is the edit of all its children
node-arranged : (root n : NodeTerm) (inside : List Edit) (a : Arrangement)
    → subterm (Node root) a.path ≡ Some (Node n)
    → with_spliced (Node n) (as_edit root inside a) ≡ with_pieces (edited (Node n) inside) a.pieces
node-arranged root n inside a h =
    let m = node-edited n inside in
    let new = named_in (node_children m.0) a.pieces in
    let es : edited_at root a.path inside ≡ Some (Node m.0) =
    ap (option_map (λ u. edited u inside)) h ∙ ap Some m.1 in
    ap (λ k. Node (node_of (node_kind n) (spliced (node_children n) 0 k
    (named_in (children_of (edited_at root a.path inside)) a.pieces))))
    (ap (λ o. length (children_of o)) h)
    ∙ ap (λ o. Node (node_of (node_kind n) (spliced (node_children n) 0 (length (node_children n))
    (named_in (children_of o) a.pieces)))) es
    ∙ ap (λ xs. Node (node_of (node_kind n) xs)) (whole-children n new)
    ∙ ap (λ k. Node (node_of k new)) (sym m.2)
    ∙ ap (λ t. with_pieces t a.pieces) (sym m.1)

module _ (root : NodeTerm) (a : Arrangement) (of : IsArrangementOf root a) (es : List Edit)
    (turn : EndInTurn es) (free : AreFree es a.path)
    (late : AllByRecursion (λ e. ends_before (gap a.path) e ≡ true) es) where
  parts : AreSplit a.path es
  parts = split a.path es turn late

  -- the edits after the arrangement
  once-arranged : (behind : List Edit) → edits_outside a.path es ≡ behind
      → AllByRecursion (IsBeyond a.path) behind
      → (taken : List Edit) → es ≡ taken ++ behind → AreInside a.path taken
      → arranged_once (edited (Node root) es) a
      ≡ edited_once (edited (Node root) behind) (as_edit root (edits_inside a.path es) a)
  once-arranged behind out beyond taken is inside =
      let p = a.path in
      let u = of.node in
      let t = edited (Node root) es in
      let s = edited (Node root) behind in
      let deep = edits_inside p es in
      let low : AreFree behind p =
      (all-both (λ e. ¬ Excludes e p) taken behind (subst (λ xs. AreFree xs p) is free)).1 in
      let last : EndInTurn behind = turn-rest taken behind (subst EndInTurn is turn) in
      let back = (all-both (λ e. ends_before (gap p) e ≡ true) taken behind
      (subst (AllByRecursion (λ e. ends_before (gap p) e ≡ true)) is late)).1 in
      let none : edits_inside p behind ≡ [] =
      outside-inside p behind (all-beyond-outside p behind beyond) in
      let here : subterm s p ≡ Some (Node u) =
      at-node root p (Node u) behind of.stands last low back
      ∙ ap (λ xs. Some (edited (Node u) xs)) none in
      let there : subterm t p ≡ Some (edited (Node u) deep) =
      at-node root p (Node u) es of.stands turn free late in
      let same : t ≡ edited s taken =
      ap (edited (Node root)) is ∙ edited-append (Node root) taken behind in
      let around = all-around s p (Node u) here taken inside in
      ap (put_pieces t a) there
      ∙ ap (λ v. put v p (with_pieces (edited (Node u) deep) a.pieces)) same
      ∙ around.around (with_pieces (edited (Node u) deep) a.pieces)
      ∙ ap (put s p) (sym (node-arranged root u deep a of.stands))
      ∙ sym (ap (put_spliced s (as_edit root deep a)) here)

  -- the edits with the arrangement among them, behind those in front
  pub arranged-made : (front : List Edit) → AreFree front a.path → EachEndsBefore front (gap a.path)
      → edited (Node root) (arranged root (front ++ es) a)
      ≡ edited (arranged_once (edited (Node root) es) a) front
  arranged-made front own early =
      let p = a.path in
      let first = all-early-outside p front own early in
      let s = parts in
      let behind = s.behind in
      let out : edits_outside p es ≡ behind =
      ap (edits_outside p) s.is ∙ outside-append p s.taken behind
      ∙ ap (λ xs. xs ++ edits_outside p behind) s.none
      ∙ outside-all p behind (all-beyond-outside p behind s.beyond) in
      let deep : edits_inside p (front ++ es) ≡ edits_inside p es =
      inside-append p front es
      ∙ ap (λ xs. xs ++ edits_inside p es) (outside-inside p front first) in
      let x = as_edit root (edits_inside p es) a in
      let last : EndInTurn behind = turn-rest s.taken behind (subst EndInTurn s.is turn) in
      ap (λ xs. edited (Node root) (added xs (as_edit root (edits_inside p (front ++ es)) a)))
      (outside-append p front es ∙ ap (λ xs. xs ++ edits_outside p es) (outside-all p front first)
      ∙ ap (λ xs. front ++ xs) out)
      ∙ ap (λ xs. edited (Node root) (added (front ++ behind) (as_edit root xs a))) deep
      ∙ ap (edited (Node root)) (added-behind front behind x
      (early-before x p refl refl front early) (beyond-not-before x p refl refl behind s.beyond last))
      ∙ edited-append (Node root) front (x ∷ behind)
      ∙ ap (λ t. edited t front) (sym (once-arranged behind out s.beyond s.taken s.is s.inside))

-- ---- the edits in front of a node's first child, and the others

both-gaps : (p q : Path) (s e : ℕ) → Before p 0 (q ++ s ∷ []) → Before q e (p ++ 0 ∷ []) → s ≤ e
    → q ≡ p
both-gaps [] [] s e h g le = refl
both-gaps [] (j ∷ q) s e h g le = elim g [
  | inl less ↦ absurd (omega (arith, less))
  | inr both ↦ absurd both.1
]
both-gaps (i ∷ p) [] s e h g le = elim h [
  | inl less ↦ absurd (omega (arith, less, g, le))
  | inr both ↦ absurd both.1
]
both-gaps (i ∷ p) (j ∷ q) s e h g le = elim h [
  | inl less ↦ elim g [
    | inl more ↦ absurd (omega (arith, less, more))
    | inr both ↦ absurd (omega (arith, less, both.0))
  ]
  | inr same ↦ elim g [
    | inl more ↦ absurd (omega (arith, same.0, more))
    | inr both ↦ cc (both.0, both-gaps p q s e same.1 both.1 le)
  ]
]

-- an edit behind the gap does not end before it
behind-late : (p : Path) (e : Edit) → ¬ Excludes e p → e.start ≤ e.end
    → ends_before (gap p) e ≡ true → ends_before e (gap p) ≡ false
behind-late p e free order h = elim (cases_Bool (ends_before e (gap p))) [
  | inl early ↦ absurd (free (inl (both-gaps p e.parent e.start e.end
      (true-before p 0 (place e) h) (true-before e.parent e.end (p ++ 0 ∷ []) early) order)))
  | inr late ↦ late
]

record AreCut (p : Path) (es : List Edit) : Type 0 where
  early : List Edit
  late : List Edit
  is : es ≡ early ++ late
  is_early : edits_early p es ≡ early
  is_late : edits_late p es ≡ late
  before : EachEndsBefore early (gap p)
  behind : AllByRecursion (λ e. ends_before (gap p) e ≡ true) late

-- those behind one that does not end before the gap
all-late : (p : Path) (e : Edit) (es : List Edit) → ends_before (gap p) e ≡ true → e.start ≤ e.end
    → EndInTurn es → AllByRecursion (λ f. ends_before e f ≡ true) es → AreFree es p
    → (edits_early p es ≡ []) × (edits_late p es ≡ es)
    × AllByRecursion (λ f. ends_before (gap p) f ≡ true) es
all-late p e [] h order t a free = (refl, refl, tt)
all-late p e (f ∷ es) h order t a free =
    let next : ends_before (gap p) f ≡ true = ends-trans (gap p) e f h order a.0 in
    let late = behind-late p f free.0 t.0 next in
    let rest = all-late p e es h order t.2 a.1 free.1 in (
      ap (λ b. cond b (f ∷ edits_early p es) (edits_early p es)) late ∙ rest.0,
      ap (λ b. cond (not b) (f ∷ edits_late p es) (edits_late p es)) late
          ∙ ap (λ xs. f ∷ xs) rest.1,
      (next, rest.2),
    )

cut : (p : Path) (es : List Edit) → EndInTurn es → AreFree es p → AreCut p es
cut p [] t free = record {
  early = [];
  late = [];
  is = refl;
  is_early = refl;
  is_late = refl;
  before = tt;
  behind = tt;
}
cut p (e ∷ es) t free = case (cut p es t.2 free.1) (ends_before e (gap p)) refl
  where
    case : AreCut p es → (b : Bool) → ends_before e (gap p) ≡ b → AreCut p (e ∷ es)
    case rest true h = record {
      early = e ∷ rest.early;
      late = rest.late;
      is = ap (λ xs. e ∷ xs) rest.is;
      is_early = ap (λ b. cond b (e ∷ edits_early p es) (edits_early p es)) h
          ∙ ap (λ xs. e ∷ xs) rest.is_early;
      is_late = ap (λ b. cond (not b) (e ∷ edits_late p es) (edits_late p es)) h ∙ rest.is_late;
      before = (h, rest.before);
      behind = rest.behind;
    }
    case rest false h =
        let next = late-behind e p free.0 h in
        let others = all-late p e es next t.0 t.2 t.1 free.1 in
        record {
          early = [];
          late = e ∷ es;
          is = refl;
          is_early = ap (λ b. cond b (e ∷ edits_early p es) (edits_early p es)) h ∙ others.0;
          is_late = ap (λ b. cond (not b) (e ∷ edits_late p es) (edits_late p es)) h
              ∙ ap (λ xs. e ∷ xs) others.1;
          before = tt;
          behind = (next, others.2);
        }

-- ---- one arrangement among the edits of a tree

-- the edits with the arrangement are in order, and go together with those of smaller paths
record IsStep (root : NodeTerm) (a : Arrangement) (es : List Edit) : Type 0 where
  order : AreInOrder root (arranged root es a)
  free : (q : Path) → slice_cmp nat_cmp q a.path ≡ Less → AreFree es q
      → AreFree (arranged root es a) q
  behind : (q : Path) → slice_cmp nat_cmp q a.path ≡ Less
      → AllByRecursion (λ e. ends_before (gap q) e ≡ true) es
      → AllByRecursion (λ e. ends_before (gap q) e ≡ true) (arranged root es a)

step : (root : NodeTerm) (a : Arrangement) (es : List Edit) → IsArrangementOf root a
    → AreInOrder root es → AreFree es a.path → IsStep root a es
step root a es of order free =
    let p = a.path in
    let c = cut p es order.in_turn free in
    let turn : EndInTurn (c.early ++ c.late) = subst EndInTurn c.is order.in_turn in
    let s = split p c.late (turn-rest c.early c.late turn) c.behind in
    let x = as_edit root (edits_inside p es) a in
    let is : es ≡ c.early ++ (s.taken ++ s.behind) = c.is ∙ ap (λ xs. c.early ++ xs) s.is in
    let all = subst (AreInOrder root) is order in
    let own = all-both (λ e. ¬ Excludes e p) c.early (s.taken ++ s.behind)
    (subst (λ xs. AreFree xs p) is free) in
    let last = turn-rest s.taken s.behind (turn-rest c.early (s.taken ++ s.behind) all.in_turn) in
    let before = early-before x p refl refl c.early c.before in
    let list : arranged root es a ≡ c.early ++ x ∷ s.behind =
    ap (λ xs. added xs x) (ap (edits_outside p) is
    ∙ outside-append p c.early (s.taken ++ s.behind)
    ∙ ap (λ xs. xs ++ edits_outside p (s.taken ++ s.behind))
    (outside-all p c.early (all-early-outside p c.early own.0 c.before))
    ∙ ap (λ xs. c.early ++ xs) (outside-append p s.taken s.behind
    ∙ ap (λ xs. xs ++ edits_outside p s.behind) s.none
    ∙ outside-all p s.behind (all-beyond-outside p s.behind s.beyond)))
    ∙ added-behind c.early s.behind x before
    (beyond-not-before x p refl refl s.behind s.beyond last) in
    let self : IsOf root x = record {
      node = of.node;
      stands = of.stands;
      order = omega arith;
      within = omega (arith, ap (λ o. length (children_of o)) of.stands);
    } in
    let others : AreInOrder root (c.early ++ s.behind) = record {
      of_tree = all-without (IsOf root) c.early s.taken s.behind all.of_tree;
      in_turn = turn-without c.early s.taken s.behind all.in_turn;
    } in
    record {
      order = subst (AreInOrder root) (sym list) (order-added root c.early s.behind x others before
          (beyond-behind x p refl refl s.behind s.beyond) self);
      free = λ q less own. subst (λ xs. AreFree xs q) (sym list)
          (let rest = all-both (λ e. ¬ Excludes e q) c.early s.behind
          (all-without (λ e. ¬ Excludes e q) c.early s.taken s.behind
          (subst (λ xs. AreFree xs q) is own)) in
          all-joined (λ e. ¬ Excludes e q) c.early (x ∷ s.behind) rest.0
          (node-free x q p refl less, rest.1));
      behind = λ q less low.
          (let P : Edit → Type 0 = λ e. ends_before (gap q) e ≡ true in
          let rest = all-both P c.early s.behind
          (all-without P c.early s.taken s.behind (subst (AllByRecursion P) is low)) in
          subst (AllByRecursion P) (sym list) (all-joined P c.early (x ∷ s.behind) rest.0
          (before-true q 0 (place x) (less-before q p less), rest.1)));
    }

-- ---- all of them

-- the path comes before those of the arrangements
abbrev ComesFirst : Path → List Arrangement → Type 0
ComesFirst q rs = AllByRecursion (λ b. slice_cmp nat_cmp q b.path ≡ Less) rs

record AreSteps (root : NodeTerm) (rs : List Arrangement) (es : List Edit) : Type 0 where
  order : AreInOrder root (all_arranged root es rs)
  free : (q : Path) → ComesFirst q rs → AreFree es q → AreFree (all_arranged root es rs) q
  behind : (q : Path) → ComesFirst q rs → AllByRecursion (λ e. ends_before (gap q) e ≡ true) es
      → AllByRecursion (λ e. ends_before (gap q) e ≡ true) (all_arranged root es rs)

steps : (root : NodeTerm) (rs : List Arrangement) (es : List Edit) → AreInOrder root es
    → AreInPathOrder rs → AllByRecursion (IsArrangementOf root) rs
    → AllByRecursion (λ a. AreFree es a.path) rs → AreSteps root rs es
steps root [] es order paths of free =
    record { order = order; free = λ q first own. own; behind = λ q first low. low }
steps root (a ∷ rs) es order paths of free =
    let rest = steps root rs es order paths.1 of.1 free.1 in
    let s = step root a (all_arranged root es rs) of.0 rest.order
    (rest.free a.path paths.0 free.0) in
    record {
      order = s.order;
      free = λ q first own. s.free q first.0 (rest.free q first.1 own);
      behind = λ q first low. s.behind q first.0 (rest.behind q first.1 low);
    }

-- what ends before a node's first child ends before those of later nodes
early-later : (es : List Edit) (p q : Path) → slice_cmp nat_cmp p q ≡ Less
    → EachEndsBefore es (gap p) → EachEndsBefore es (gap q)
early-later [] p q less a = tt
early-later (e ∷ es) p q less a = (
  ends-trans e (gap p) (gap q) a.0 (omega arith)
      (before-true p 0 (q ++ 0 ∷ []) (less-before p q less)),
  early-later es p q less a.1,
)

added-front : (es fs : List Edit) (x : Edit) → EachEndsBefore es x
    → added (es ++ fs) x ≡ es ++ added fs x
added-front [] fs x a = refl
added-front (e ∷ es) fs x a =
    ap (λ b. if b then e ∷ added (es ++ fs) x else x ∷ e ∷ (es ++ fs)) a.0
    ∙ ap (λ xs. e ∷ xs) (added-front es fs x a.1)

-- the edits in front of a node's first child stay in front of what the later arrangements come to
in-front : (root : NodeTerm) (p : Path) (rs : List Arrangement) (front es : List Edit)
    → EachEndsBefore front (gap p) → ComesFirst p rs
    → AllByRecursion (λ a. AreFree front a.path) rs
    → all_arranged root (front ++ es) rs ≡ front ++ all_arranged root es rs
in-front root p [] front es early first free = refl
in-front root p (a ∷ rs) front es early first free =
    let q = a.path in
    let fs = all_arranged root es rs in
    let low = early-later front p q first.0 early in
    let out = all-early-outside q front free.0 low in
    let x = as_edit root (edits_inside q fs) a in
    ap (λ xs. arranged root xs a) (in-front root p rs front es early first.1 free.1)
    ∙ ap (λ xs. added (edits_outside q (front ++ fs)) (as_edit root xs a))
    (inside-append q front fs ∙ ap (λ xs. xs ++ edits_inside q fs) (outside-inside q front out))
    ∙ ap (λ xs. added xs x) (outside-append q front fs
    ∙ ap (λ xs. xs ++ edits_outside q fs) (outside-all q front out))
    ∙ added-front front (edits_outside q fs) x (early-before x q refl refl front low)

free-front : (rs : List Arrangement) (es fs : List Edit)
    → AllByRecursion (λ a. AreFree (es ++ fs) a.path) rs
    → AllByRecursion (λ a. AreFree es a.path) rs × AllByRecursion (λ a. AreFree fs a.path) rs
free-front [] es fs a = (tt, tt)
free-front (r ∷ rs) es fs a =
    let own = all-both (λ e. ¬ Excludes e r.path) es fs a.0 in
    let rest = free-front rs es fs a.1 in
    ((own.0, rest.0), (own.1, rest.1))

made-plain : (root : NodeTerm) (rs : List Arrangement) (es : List Edit) → AreInOrder root es
    → AreInPathOrder rs → AllByRecursion (IsArrangementOf root) rs
    → AllByRecursion (λ a. AreFree es a.path) rs
    → all_made (Node root) es rs ≡ edited (Node root) (all_arranged root es rs)
made-plain root [] es order paths of free = refl
made-plain root (a ∷ rs) es order paths of free =
    let p = a.path in
    let c = cut p es order.in_turn free.0 in
    let all = subst (AreInOrder root) c.is order in
    let late : AreInOrder root c.late = record {
      of_tree = (all-both (IsOf root) c.early c.late all.of_tree).1;
      in_turn = turn-rest c.early c.late all.in_turn;
    } in
    let own = all-both (λ e. ¬ Excludes e p) c.early c.late (subst (λ xs. AreFree xs p) c.is free.0) in
    let others = free-front rs c.early c.late
    (subst (λ xs. AllByRecursion (λ b. AreFree xs b.path) rs) c.is free.1) in
    let s = steps root rs c.late late paths.1 of.1 others.1 in
    let fs = all_arranged root c.late rs in
    ap (λ xs. edited (arranged_once (all_made (Node root) xs rs) a) (edits_early p es)) c.is_late
    ∙ ap (edited (arranged_once (all_made (Node root) c.late rs) a)) c.is_early
    ∙ ap (λ t. edited (arranged_once t a) c.early)
    (made-plain root rs c.late late paths.1 of.1 others.1)
    ∙ sym (arranged-made root a of.0 fs s.order.in_turn (s.free p paths.0 own.1)
    (s.behind p paths.0 c.behind) c.early own.0 c.before)
    ∙ ap (λ xs. edited (Node root) (arranged root xs a))
    (sym (ap (λ xs. all_arranged root xs rs) c.is
    ∙ in-front root p rs c.early c.late c.before paths.0 others.0))

pub arrangements-made : (plan : ArrangedPlan) → IsPlanned plan
    → all_made (Node plan.root) plan.edits plan.arrangements
    ≡ edited (Node plan.root) (plain_edits plan)
arrangements-made plan h =
    made-plain plan.root plan.arrangements plan.edits h.edits h.order h.arrangements h.free
