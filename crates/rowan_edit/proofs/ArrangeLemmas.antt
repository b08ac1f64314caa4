-- An arrangement comes to an edit, among those that stand in order.
use Rattle.std.proofs.Common.{◌≡◌, ℕ, ◌+◌, ◌≤◌, Bool, true, false, List, []}
use Rattle.std.proofs.Common.{◌∷◌, ◌++◌, length, Option, Some, None, append_assoc, inl, inr, refl}
use Rattle.std.proofs.Common.{sym, ◌∙◌, ap, subst, arith}
use Rattle.std.specs.Prelude.{◌⊎◌, not, cond, reverse}
use Rattle.std.specs.Cmp.Lexicographic.{slice_cmp}
use Rattle.std.specs.List.{AllByRecursion}
use Rattle.std.specs.Option.{is_some}
use Rattle.std.specs.Ordering.{nat_cmp}
use Rattle.std.specs.declared.cmp.Ordering.TheVariants.{Less, Equal, Greater}
use Rattle.std.proofs.lemmas.List.{map-append, append-nil, reverse-append}
use Rattle.rowan_green.specs.declared.utility_types.NodeOrToken.TheVariants.{Node}
use Rattle.rowan_terms.specs.Path.{Path, subterm, subterm_of}
use Rattle.rowan_green.specs.Term.{NodeTerm, node_children}
use Rattle.rowan_terms.proofs.Paths.{subterm_of-append}
use Rattle.rowan_table.specs.Moves.{children_of}
use Rattle.rowan_changes.specs.declared.edit.Splice.{Splice}
use Rattle.rowan_edit.specs.declared.plain_edits.Halves.{Halves}
use Rattle.rowan_edit.specs.declared.plain_edits.Parted.{Parted}
use Rattle.rowan_edit.specs.Arrangements.{AreFree, gap}
use Rattle.rowan_edit.specs.Arrangements.{Arrangement, Excludes, IsArrangementOf, arranged, as_edit}
use Rattle.rowan_edit.specs.Arrangements.{edits_outside}
use Rattle.rowan_edit.specs.ArrangementsKept.{AreReady, IsAt, IsParted, AreEditsAt}
use Rattle.rowan_edit.specs.ArrangementsKept.{splices_in}
use Rattle.rowan_changes.specs.Changes.{range_of}
use Rattle.rowan_changes.specs.Edit.{Edit, ends_before, lies_before, place}
use Rattle.rowan_changes.specs.GreenEditor.{edit_of, edits_of, HaveRanges, AreListed}
use Rattle.rowan_edit.specs.Inside.{rest_behind, with_path, edits_inside}
use Rattle.rowan_changes.specs.Plan.{IsOf, EndInTurn, AreInOrder, added}
use Rattle.rowan_edit.proofs.ExcludeLemmas.{IsBeyond, all-behind-gap, among-greater, beyond}
use Rattle.rowan_edit.proofs.ExcludeLemmas.{beyond-late, beyond-next, beyond-outside}
use Rattle.rowan_edit.proofs.ExcludeLemmas.{early-outside, less-before, path-equal, rest-splits}
use Rattle.rowan_changes.proofs.Places.{Before, before-true, true-before, before-trans}
use Rattle.rowan_edit.proofs.PlanLemmas.{EachEndsBefore, EndsBeforeEach, all-both, all-joined}
use Rattle.rowan_edit.proofs.PlanLemmas.{added-behind, ends-trans, order-added}

-- ---- parts of a list

pub turn-rest : (es fs : List Edit) → EndInTurn (es ++ fs) → EndInTurn fs
turn-rest [] fs t = t
turn-rest (e ∷ es) fs t = turn-rest es fs t.2

pub turn-without : (es ds fs : List Edit) → EndInTurn (es ++ (ds ++ fs)) → EndInTurn (es ++ fs)
turn-without [] ds fs t = turn-rest ds fs t
turn-without (e ∷ es) ds fs t =
    let P : Edit → Type 0 = λ f. ends_before e f ≡ true in
    let first = all-both P es (ds ++ fs) t.1 in
    let rest = all-both P ds fs first.1 in
    (t.0, all-joined P es fs first.0 rest.1, turn-without es ds fs t.2)

pub all-without : {A : Type 0} (P : A → Type 0) (es ds fs : List A) → AllByRecursion P (es ++ (ds ++ fs))
    → AllByRecursion P (es ++ fs)
all-without P es ds fs a =
    let first = all-both P es (ds ++ fs) a in
    all-joined P es fs first.0 (all-both P ds fs first.1).1

-- the front ends before the gap, if its last edit does
all-early : (ss : List Splice) (e : Edit) → EndInTurn (edits_of ss)
    → ((s : Splice) (rest : List Splice) → ss ≡ rest ++ s ∷ [] → ends_before (edit_of s) e ≡ true)
    → EachEndsBefore (edits_of ss) e
all-early [] e t h = tt
all-early (s ∷ []) e t h = (h s [] refl, tt)
all-early (s ∷ x ∷ ss) e t h =
    let rest = all-early (x ∷ ss) e t.2
    (λ y ys is. h y (s ∷ ys) (ap (λ zs. s ∷ zs) is)) in
    (ends-trans (edit_of s) (edit_of x) e t.1.0 t.2.0 rest.0, rest)

-- ---- the edits inside of a node and those outside

pub inside-append : (p : Path) (es fs : List Edit)
    → edits_inside p (es ++ fs) ≡ edits_inside p es ++ edits_inside p fs
inside-append p [] fs = refl
inside-append p (e ∷ es) fs =
    ap (with_path (rest_behind p e.parent) e) (inside-append p es fs)
    ∙ at (rest_behind p e.parent)
  where
    at : (o : Option Path) → with_path o e (edits_inside p es ++ edits_inside p fs)
        ≡ with_path o e (edits_inside p es) ++ edits_inside p fs
    at None = refl
    at (Some q) = refl

pub outside-append : (p : Path) (es fs : List Edit)
    → edits_outside p (es ++ fs) ≡ edits_outside p es ++ edits_outside p fs
outside-append p [] fs = refl
outside-append p (e ∷ es) fs =
    let rest = edits_outside p (es ++ fs) in
    ap (λ xs. cond (not (is_some (rest_behind p e.parent))) (e ∷ xs) xs) (outside-append p es fs)
    ∙ at (not (is_some (rest_behind p e.parent)))
  where
    at : (b : Bool) → cond b (e ∷ (edits_outside p es ++ edits_outside p fs))
        (edits_outside p es ++ edits_outside p fs)
        ≡ cond b (e ∷ edits_outside p es) (edits_outside p es) ++ edits_outside p fs
    at true = refl
    at false = refl

abbrev pub AreOutside : Path → List Edit → Type 0
AreOutside p es = AllByRecursion (λ e. rest_behind p e.parent ≡ None) es

pub outside-inside : (p : Path) (es : List Edit) → AreOutside p es → edits_inside p es ≡ []
outside-inside p [] a = refl
outside-inside p (e ∷ es) a =
    ap (λ o. with_path o e (edits_inside p es)) a.0 ∙ outside-inside p es a.1

pub outside-all : (p : Path) (es : List Edit) → AreOutside p es → edits_outside p es ≡ es
outside-all p [] a = refl
outside-all p (e ∷ es) a =
    let xs = edits_outside p es in
    ap (λ o. cond (not (is_some o)) (e ∷ xs) xs) a.0 ∙ ap (λ ys. e ∷ ys) (outside-all p es a.1)

pub all-early-outside : (p : Path) (es : List Edit) → AreFree es p → EachEndsBefore es (gap p)
    → AreOutside p es
all-early-outside p [] a b = tt
all-early-outside p (e ∷ es) a b =
    (early-outside e p a.0 b.0, all-early-outside p es a.1 b.1)

-- those behind an edit that is beyond a node
pub all-beyond : (p : Path) (es : List Edit) → EndInTurn es
    → AllByRecursion (λ e. ends_before (gap p) e ≡ true) es
    → ((e : Edit) (rest : List Edit) → es ≡ e ∷ rest → rest_behind p e.parent ≡ None)
    → AllByRecursion (IsBeyond p) es
all-beyond p [] t a h = tt
all-beyond p (e ∷ es) t a h = (first, rest es t.1)
  where
    first : IsBeyond p e
    first = beyond e p a.0 (h e es refl)

    rest : (fs : List Edit) → AllByRecursion (λ f. ends_before e f ≡ true) fs
        → AllByRecursion (IsBeyond p) fs
    rest [] b = tt
    rest (f ∷ fs) b = (beyond-next e f p first t.0 b.0, rest fs b.1)

pub all-beyond-outside : (p : Path) (es : List Edit) → AllByRecursion (IsBeyond p) es → AreOutside p es
all-beyond-outside p [] a = tt
all-beyond-outside p (e ∷ es) a = (beyond-outside e p a.0, all-beyond-outside p es a.1)

-- an edit of all children of the node
module _ (x : Edit) (p : Path) (own : x.parent ≡ p) (begin : x.start ≡ 0) where
  pub same-place : place x ≡ p ++ 0 ∷ []
  same-place = ap (λ q. q ++ x.start ∷ []) own ∙ ap (λ s. p ++ s ∷ []) begin

  pub early-before : (es : List Edit) → EachEndsBefore es (gap p) → EachEndsBefore es x
  early-before [] a = tt
  early-before (e ∷ es) a =
      (ap (lies_before e.parent e.end) same-place ∙ a.0, early-before es a.1)

  pub beyond-behind : (es : List Edit) → AllByRecursion (IsBeyond p) es → EndsBeforeEach x es
  beyond-behind [] a = tt
  beyond-behind (e ∷ es) a = (
    ap (λ q. lies_before q x.end (place e)) own ∙ before-true p x.end (place e) (a.0 x.end),
    beyond-behind es a.1,
  )

  pub beyond-not-before : (es : List Edit) → AllByRecursion (IsBeyond p) es → EndInTurn es
      → AllByRecursion (λ f. ends_before f x ≡ false) es
  beyond-not-before [] a t = tt
  beyond-not-before (e ∷ es) a t = (
    ap (lies_before e.parent e.end) same-place ∙ beyond-late e p a.0 t.0,
    beyond-not-before es a.1 t.2,
  )

-- it does not exclude the arrangement of a node of a smaller path
pub node-free : (x : Edit) (q p : Path) → x.parent ≡ p → slice_cmp nat_cmp q p ≡ Less
    → ¬ Excludes x q
node-free x q p own less (inl same) =
    let e : slice_cmp nat_cmp q p ≡ Equal =
    subst (λ z. slice_cmp nat_cmp q z ≡ Equal) (sym same ∙ own) (path-equal q) in
    cc
node-free x q p own less (inr taken) =
    let e : slice_cmp nat_cmp q p ≡ Greater =
    subst (λ z. slice_cmp nat_cmp q z ≡ Greater) own
    (among-greater x.parent x.start x.end q taken) in
    cc

-- ---- edits of a node, from that node on

lies-inside : (p q : Path) (n : ℕ) (z : Path) → lies_before (p ++ q) n (p ++ z) ≡ true
    → lies_before q n z ≡ true
lies-inside p q n z h = before-true q n z (below p (true-before (p ++ q) n (p ++ z) h))
  where
    below : (r : Path) → Before (r ++ q) n (r ++ z) → Before q n z
    below [] b = b
    below (i ∷ r) b = elim b [
      | inl less ↦ absurd (omega (arith, less))
      | inr both ↦ below r both.1
    ]

module _ (root : NodeTerm) (p : Path) (u : NodeTerm) (stands : subterm (Node root) p ≡ Some (Node u))
  where
    inner-of : (e : Edit) (r : Path) → e.parent ≡ p ++ r → IsOf root e
        → IsOf u (record { parent = r; start = e.start; end = e.end; new = e.new })
    inner-of e r same of = record {
      node = of.node;
      stands = sym (ap (λ o. subterm_of o r) stands) ∙ sym (subterm_of-append (Some (Node root)) p r)
          ∙ ap (subterm (Node root)) (sym same) ∙ of.stands;
      order = of.order;
      within = of.within;
    }

    -- what an edit inside ends before
    inner-turn : (e : Edit) (r : Path) → e.parent ≡ p ++ r → (fs : List Edit)
        → AllByRecursion (λ f. ends_before e f ≡ true) fs
        → AllByRecursion (λ f. lies_before r e.end (place f) ≡ true) (edits_inside p fs)
    inner-turn e r same [] a = tt
    inner-turn e r same (f ∷ fs) a =
        at (inner-turn e r same fs a.1) (rest_behind p f.parent) refl
      where
        at : AllByRecursion (λ d. lies_before r e.end (place d) ≡ true) (edits_inside p fs)
            → (o : Option Path) → rest_behind p f.parent ≡ o
            → AllByRecursion (λ d. lies_before r e.end (place d) ≡ true)
            (with_path o f (edits_inside p fs))
        at rest None h = rest
        at rest (Some q) h =
            let there : place f ≡ p ++ (q ++ f.start ∷ []) =
            ap (λ x. x ++ f.start ∷ []) (rest-splits p f.parent q h)
            ∙ append_assoc p q (f.start ∷ []) in
            let before : lies_before (p ++ r) e.end (p ++ (q ++ f.start ∷ [])) ≡ true =
            ap (λ x. lies_before x e.end (p ++ (q ++ f.start ∷ []))) (sym same)
            ∙ ap (lies_before e.parent e.end) (sym there) ∙ a.0 in
            (lies-inside p r e.end (q ++ f.start ∷ []) before, rest)

    pub inner-order : (es : List Edit) → AllByRecursion (IsOf root) es → EndInTurn es
        → AreInOrder u (edits_inside p es)
    inner-order [] a t = record { of_tree = tt; in_turn = tt }
    inner-order (e ∷ es) a t = at (inner-order es a.1 t.2) (rest_behind p e.parent) refl
      where
        at : AreInOrder u (edits_inside p es) → (o : Option Path) → rest_behind p e.parent ≡ o
            → AreInOrder u (with_path o e (edits_inside p es))
        at rest None h = rest
        at rest (Some q) h =
            let same = rest-splits p e.parent q h in
            record {
              of_tree = (inner-of e q same a.0, rest.of_tree);
              in_turn = (t.0, inner-turn e q same es t.1, rest.in_turn);
            }

-- ---- the halves around a node

-- all splices, as the parts of them
pub record AreParts (root : NodeTerm) (h : Halves) (p : Path) (new : Parted) : Type 0 where
  pub taken : List Splice
  pub whole : splices_in h
      ≡ new.others.front.items ++ (taken ++ reverse new.others.behind.items)
  pub inside : edits_of new.inside.items ≡ edits_inside p (edits_of taken)
  pub all : edits_outside p (edits_of taken) ≡ []
  pub early : EachEndsBefore (edits_of new.others.front.items) (gap p)
  pub late : AllByRecursion (λ e. ends_before (gap p) e ≡ true)
      (edits_of (taken ++ reverse new.others.behind.items))
  pub next : (e : Edit) (rest : List Edit) → edits_of (reverse new.others.behind.items) ≡ e ∷ rest
      → rest_behind p e.parent ≡ None

reverse-first : (ss : List Splice) (e : Edit) (rest : List Edit)
    → edits_of (reverse ss) ≡ e ∷ rest
    → (s : Splice) × (xs : List Splice) × (ss ≡ xs ++ s ∷ []) × (edit_of s ≡ e)
reverse-first ss e rest h = at (snoc ss) h
  where
    snoc : (xs : List Splice) → (xs ≡ []) ⊎ ((s : Splice) × (ys : List Splice) × (xs ≡ ys ++ s ∷ []))
    snoc [] = inl refl
    snoc (x ∷ xs) = elim (snoc xs) [
      | inl none ↦ inr (x, [], ap (λ ys. x ∷ ys) none)
      | inr some ↦ inr (some.0, x ∷ some.1, ap (λ ys. x ∷ ys) some.2)
    ]

    at : ((ss ≡ []) ⊎ ((s : Splice) × (ys : List Splice) × (ss ≡ ys ++ s ∷ [])))
        → edits_of (reverse ss) ≡ e ∷ rest
        → (s : Splice) × (xs : List Splice) × (ss ≡ xs ++ s ∷ []) × (edit_of s ≡ e)
    at (inl none) g =
        let t : [] ≡ e ∷ rest = sym (ap (λ xs. edits_of (reverse xs)) none) ∙ g in absurd cc
    at (inr some) g =
        let t : edit_of some.0 ∷ edits_of (reverse some.1) ≡ e ∷ rest =
        sym (ap edits_of (ap reverse some.2 ∙ reverse-append some.1 (some.0 ∷ []))) ∙ g in
        let first : edit_of some.0 ≡ e = cc in
        (some.0, some.1, some.2, first)

pub parts : (root : NodeTerm) (h g : Halves) (p : Path) (new : Parted) → AreReady root h p
    → IsAt p h g → IsParted p g new → AreParts root h p new
parts root h g p new ready at parted =
    let front : h.front.items ≡ new.others.front.items ++ at.gone =
    at.front ∙ ap (λ xs. xs ++ at.gone) (sym parted.front) in
    let back : at.gone ++ reverse h.behind.items
    ≡ parted.taken ++ reverse new.others.behind.items = sym at.behind ∙ parted.behind in
    let whole : splices_in h
    ≡ new.others.front.items ++ (parted.taken ++ reverse new.others.behind.items) =
    ap (λ xs. xs ++ reverse h.behind.items) front
    ∙ append_assoc new.others.front.items at.gone (reverse h.behind.items)
    ∙ ap (λ xs. new.others.front.items ++ xs) back in
    let edits : edits_of (splices_in h) ≡ edits_of new.others.front.items
    ++ edits_of (parted.taken ++ reverse new.others.behind.items) =
    ap edits_of whole
    ∙ map-append edit_of new.others.front.items
    (parted.taken ++ reverse new.others.behind.items) in
    let free = all-both (λ e. ¬ Excludes e p) (edits_of new.others.front.items)
    (edits_of (parted.taken ++ reverse new.others.behind.items))
    (subst (λ es. AreFree es p) edits ready.free) in
    let gone : edits_of (parted.taken ++ reverse new.others.behind.items)
    ≡ edits_of at.gone ++ edits_of (reverse h.behind.items) =
    ap edits_of (sym back) ∙ map-append edit_of at.gone (reverse h.behind.items) in
    let own = all-both (λ e. ¬ Excludes e p) (edits_of at.gone)
    (edits_of (reverse h.behind.items)) (subst (λ es. AreFree es p) gone free.1) in
    let turn = subst EndInTurn edits ready.listed.order.in_turn in
    record {
      taken = parted.taken;
      whole = whole;
      inside = parted.inside;
      all = parted.all;
      early = all-early new.others.front.items (gap p)
          (front-turn (edits_of new.others.front.items)
          (edits_of (parted.taken ++ reverse new.others.behind.items)) turn)
          (λ s rest is. at.early s rest (sym parted.front ∙ is));
      late = subst (AllByRecursion (λ e. ends_before (gap p) e ≡ true)) (sym gone)
          (all-joined (λ e. ends_before (gap p) e ≡ true) (edits_of at.gone)
          (edits_of (reverse h.behind.items))
          (all-behind-gap (edits_of at.gone) p own.0 (each-late at.gone at.late)) ready.behind);
      next = λ e rest is.
          (let f = reverse-first new.others.behind.items e rest is in
          ap (λ (x : Edit). rest_behind p x.parent) (sym f.3) ∙ parted.next f.0 f.1 f.2);
    }
  where
    front-turn : (es fs : List Edit) → EndInTurn (es ++ fs) → EndInTurn es
    front-turn [] fs t = tt
    front-turn (e ∷ es) fs t =
        (t.0, (all-both (λ f. ends_before e f ≡ true) es fs t.1).0, front-turn es fs t.2)

    each-late : (ss : List Splice)
        → AllByRecursion (λ s. ends_before (edit_of s) (gap p) ≡ false) ss
        → AllByRecursion (λ e. ends_before e (gap p) ≡ false) (edits_of ss)
    each-late [] a = tt
    each-late (s ∷ ss) a = (a.0, each-late ss a.1)

-- the edits in three parts
pub record Thirds (root : NodeTerm) (h : Halves) (p : Path) (new : Parted) (front taken behind : List Edit)
    : Type 0 where
  pub order : AreInOrder root (front ++ (taken ++ behind))
  pub free : AreFree (front ++ (taken ++ behind)) p
  pub early : EachEndsBefore front (gap p)
  pub beyond : AllByRecursion (IsBeyond p) behind
  pub inside : edits_inside p (front ++ (taken ++ behind)) ≡ edits_of new.inside.items
  pub outside : edits_outside p (front ++ (taken ++ behind)) ≡ front ++ behind

pub thirds : (root : NodeTerm) (h : Halves) (p : Path) (new : Parted) → AreReady root h p
    → (a : AreParts root h p new)
    → (edits_of (splices_in h) ≡ edits_of new.others.front.items
    ++ (edits_of a.taken ++ edits_of (reverse new.others.behind.items)))
    × Thirds root h p new (edits_of new.others.front.items) (edits_of a.taken)
    (edits_of (reverse new.others.behind.items))
thirds root h p new ready a =
    let front = edits_of new.others.front.items in
    let taken = edits_of a.taken in
    let behind = edits_of (reverse new.others.behind.items) in
    let tail : edits_of (a.taken ++ reverse new.others.behind.items) ≡ taken ++ behind =
    map-append edit_of a.taken (reverse new.others.behind.items) in
    let edits : edits_of (splices_in h) ≡ front ++ (taken ++ behind) =
    ap edits_of a.whole
    ∙ map-append edit_of new.others.front.items (a.taken ++ reverse new.others.behind.items)
    ∙ ap (λ xs. front ++ xs) tail in
    let order = subst (AreInOrder root) edits ready.listed.order in
    let free = subst (λ es. AreFree es p) edits ready.free in
    let own = all-both (λ e. ¬ Excludes e p) front (taken ++ behind) free in
    let late = all-both (λ e. ends_before (gap p) e ≡ true) taken behind
    (subst (AllByRecursion (λ e. ends_before (gap p) e ≡ true)) tail a.late) in
    let beyond = all-beyond p behind
    (turn-rest taken behind (turn-rest front (taken ++ behind) order.in_turn)) late.1 a.next in
    let first = all-early-outside p front own.0 a.early in
    let last = all-beyond-outside p behind beyond in (
      edits,
      record {
        order = order;
        free = free;
        early = a.early;
        beyond = beyond;
        inside = inside-append p front (taken ++ behind)
            ∙ ap (λ xs. xs ++ edits_inside p (taken ++ behind)) (outside-inside p front first)
            ∙ inside-append p taken behind
            ∙ ap (λ xs. edits_inside p taken ++ xs) (outside-inside p behind last)
            ∙ append-nil (edits_inside p taken) ∙ sym a.inside;
        outside = outside-append p front (taken ++ behind)
            ∙ ap (λ xs. xs ++ edits_outside p (taken ++ behind)) (outside-all p front first)
            ∙ ap (λ xs. front ++ xs) (outside-append p taken behind
            ∙ ap (λ xs. xs ++ edits_outside p behind) a.all ∙ outside-all p behind last);
      },
    )

-- the edits inside, of all
pub inside-of : (root : NodeTerm) (h : Halves) (p : Path) (new : Parted) → AreReady root h p
    → AreParts root h p new → edits_of new.inside.items ≡ edits_inside p (edits_of (splices_in h))
inside-of root h p new ready a =
    let t = thirds root h p new ready a in sym (ap (edits_inside p) t.0 ∙ t.1.inside)

-- the edits inside are ones of the node
pub edits-at : (root : NodeTerm) (h : Halves) (a : Arrangement) (new : Parted)
    → AreReady root h a.path → IsArrangementOf root a → AreParts root h a.path new
    → AreEditsAt root a.path (edits_of new.inside.items)
edits-at root h a new ready of is =
    let t = thirds root h a.path new ready is in
    record {
      node = of.node;
      stands = of.stands;
      order = subst (AreInOrder of.node) (t.1.inside) (inner-order root a.path of.node of.stands
          (edits_of new.others.front.items ++ (edits_of is.taken
          ++ edits_of (reverse new.others.behind.items))) t.1.order.of_tree t.1.order.in_turn);
    }

-- ---- the arrangement is among them

-- the halves after an arrangement
pub record IsArranged (root : NodeTerm) (h : Halves) (a : Arrangement) (done : Halves) : Type 0 where
  pub listed : AreListed root (splices_in done)
  pub edits : edits_of (splices_in done) ≡ arranged root (edits_of (splices_in h)) a
  pub ready : (q : Path) → AreReady root h q → slice_cmp nat_cmp q a.path ≡ Less
      → AreReady root done q

ranges-parts : (root : NodeTerm) (xs ys : List Splice) (s : Splice) → HaveRanges root (xs ++ ys)
    → s.range ≡ range_of (Node root) (edit_of s) → HaveRanges root (xs ++ s ∷ ys)
ranges-parts root xs ys s a h =
    let P : Splice → Type 0 = λ x. x.range ≡ range_of (Node root) (edit_of x) in
    let both = all-both P xs ys a in all-joined P xs (s ∷ ys) both.0 (h, both.1)

pub arranged-there : (root : NodeTerm) (h : Halves) (a : Arrangement) (new : Parted) (s : Splice)
    (done : Halves) → AreReady root h a.path → IsArrangementOf root a → AreParts root h a.path new
    → edit_of s ≡ as_edit root (edits_of new.inside.items) a
    → s.range ≡ range_of (Node root) (edit_of s)
    → done.front.items ≡ new.others.front.items
    → done.behind.items ≡ new.others.behind.items ++ s ∷ [] → IsArranged root h a done
arranged-there root h a new s done ready of is edit range front behind =
    let p = a.path in
    let before = new.others.front.items in
    let after = reverse new.others.behind.items in
    let es = edits_of before in
    let ds = edits_of is.taken in
    let fs = edits_of after in
    let t = thirds root h p new ready is in
    let x = edit_of s in
    let own : x.parent ≡ p = ap (λ (e : Edit). e.parent) edit in
    let begin : x.start ≡ 0 = ap (λ (e : Edit). e.start) edit in
    let turn = turn-rest ds fs (turn-rest es (ds ++ fs) t.1.order.in_turn) in
    let back : reverse done.behind.items ≡ s ∷ after =
    ap reverse behind ∙ reverse-append new.others.behind.items (s ∷ []) in
    let all : splices_in done ≡ before ++ s ∷ after =
    ap (λ ys. ys ++ reverse done.behind.items) front ∙ ap (λ ys. before ++ ys) back in
    let list : edits_of (splices_in done) ≡ es ++ x ∷ fs =
    ap edits_of all ∙ map-append edit_of before (s ∷ after) in
    let early = early-before x p own begin es t.1.early in
    let within : x.end ≤ length (node_children of.node) =
    omega (arith, ap (λ (e : Edit). e.end) edit, ap (λ o. length (children_of o)) of.stands) in
    let self : IsOf root x = record {
      node = of.node;
      stands = ap (subterm (Node root)) own ∙ of.stands;
      order = omega (arith, begin);
      within = within;
    } in
    let others : AreInOrder root (es ++ fs) = record {
      of_tree = all-without (IsOf root) es ds fs t.1.order.of_tree;
      in_turn = turn-without es ds fs t.1.order.in_turn;
    } in
    let order = order-added root es fs x others early (beyond-behind x p own begin fs t.1.beyond) self in
    let ranges : HaveRanges root (before ++ after) =
    all-without (λ y. y.range ≡ range_of (Node root) (edit_of y)) before is.taken after
    (subst (HaveRanges root) is.whole ready.listed.ranges) in
    let listed : AreListed root (splices_in done) = record {
      order = subst (AreInOrder root) (sym list) order;
      ranges = subst (HaveRanges root) (sym all) (ranges-parts root before after s ranges range);
    } in
    record {
      listed = listed;
      edits = list
          ∙ sym (added-behind es fs x early
          (beyond-not-before x p own begin fs t.1.beyond turn))
          ∙ ap (λ ys. added ys x) (sym t.1.outside)
          ∙ ap (added (edits_outside p (es ++ (ds ++ fs)))) (edit
          ∙ ap (λ ys. as_edit root ys a) (sym t.1.inside))
          ∙ ap (λ ys. arranged root ys a) (sym t.0);
      ready = λ q here less. (let low : Before q 0 (p ++ 0 ∷ []) = less-before q p less in
          let free : AreFree (es ++ (ds ++ fs)) q = subst (λ ys. AreFree ys q) t.0 here.free in
          record {
            listed = listed;
            free = subst (λ ys. AreFree ys q) (sym list)
                (let rest = all-both (λ e. ¬ Excludes e q) es fs
                (all-without (λ e. ¬ Excludes e q) es ds fs free) in
                all-joined (λ e. ¬ Excludes e q) es (x ∷ fs) rest.0
                (node-free x q p own less, rest.1));
            behind = subst (AllByRecursion (λ e. ends_before (gap q) e ≡ true))
                (sym (ap edits_of back)) (
                  before-true q 0 (place x)
                      (subst (Before q 0) (sym (same-place x p own begin)) low),
                  later q low fs t.1.beyond,
                );
          });
    }
  where
    later : (q : Path) → Before q 0 (a.path ++ 0 ∷ []) → (fs : List Edit)
        → AllByRecursion (IsBeyond a.path) fs
        → AllByRecursion (λ e. ends_before (gap q) e ≡ true) fs
    later q low [] b = tt
    later q low (f ∷ fs) b = (
      before-true q 0 (place f)
          (before-trans q 0 a.path 0 0 (place f) low (omega arith) (b.0 0)),
      later q low fs b.1,
    )
