-- An element that is not taken away stands at its new path, with the edits inside of it made.
use Rattle.std.proofs.Common.{◌≡◌, ℕ, ◌≤◌, Bool, true, false, List, [], ◌∷◌, ◌++◌, length}
use Rattle.std.proofs.Common.{Option, Some, None, inl, inr, refl, sym, ◌∙◌, ap, subst, arith}
use Rattle.std.specs.Prelude.{◌⊎◌, nat_lt, nat_le, ◌&&◌, ◌||◌, if◌then◌else◌, slice_get}
use Rattle.std.specs.List.{AllByRecursion, list_any}
use Rattle.std.proofs.lemmas.Bool.{lt-ltb, le-leb, ne_eqb, cases_lt, cases_eq}
use Rattle.std.proofs.lemmas.Bool.Decides.{Decides-eqb}
use Rattle.rowan_green.specs.declared.utility_types.NodeOrToken.TheVariants.{Node}
use Rattle.rowan_green.specs.Edits.{spliced, replaced}
use Rattle.rowan_terms.specs.Path.{Path, subterm, subterm_of, term_children, put_of}
use Rattle.rowan_green.specs.Term.{NodeTerm, Term, node_of, node_kind, node_children}
use Rattle.rowan_terms.proofs.PutLemmas.{child-of}
use Rattle.rowan_changes.specs.Edit.{Edit, edited, edited_once, put_spliced, with_spliced, place}
use Rattle.rowan_changes.specs.Edit.{ends_before}
use Rattle.rowan_edit.specs.Inside.{rest_behind, with_path, edits_inside}
use Rattle.rowan_changes.specs.Moved.{moved_path, moved_by, IsUntouched, IsUntouchedBy}
use Rattle.rowan_changes.specs.Plan.{EndInTurn}
use Rattle.rowan_changes.specs.Sites.{sites_of, is_among, is_taken_at, moved_over}
use Rattle.rowan_edit.proofs.KeptLemmas.{untouched-by}
use Rattle.rowan_changes.proofs.Places.{Before, true-before}
use Rattle.rowan_changes.proofs.SiteLemmas.{stays-before}
use Rattle.rowan_changes.proofs.Untouched.{edit_at, edited-below, new-child, subterm-kept}

-- the sites alone say where the edits move it
pub by-sites : (es : List Edit) (p : Path) → moved_by es p ≡ moved_over (sites_of es) p
by-sites [] p = refl
by-sites (e ∷ es) p =
    ap (moved_path e.parent e.start e.end (length e.new)) (by-sites es p)

-- ---- how an edit lies to an element that it does not take away

-- the edit is one of the element or of something in it
abbrev IsInside : Path → Path → Type 0
IsInside q p = (r : Path) × (q ≡ p ++ r)

apart-or-inside : (q : Path) (s e : ℕ) (p : Path) → is_among q s e p ≡ false
    → IsUntouched q s e p ⊎ IsInside q p
apart-or-inside q s e [] h = inr (q, refl)
apart-or-inside [] s e (k ∷ p) h = elim (cases_lt k s) [
  | inl less ↦ inl (inl less)
  | inr more ↦ elim (cases_lt k e) [
    | inl within ↦
        let alike : (nat_le s k && nat_lt k e) ≡ true =
        ap (λ b. b && nat_lt k e) (le-leb s k more) ∙ lt-ltb k e within in
        let t : true ≡ false = sym alike ∙ h in
        absurd cc
    | inr far ↦ inl (inr far)
  ]
]
apart-or-inside (i ∷ q) s e (k ∷ p) h = elim (cases_eq i k) [
  | inl same ↦
      let below : is_among q s e p ≡ false =
      sym (ap (λ b. b && is_among q s e p) ((Decides-eqb i k).1 same)) ∙ h in
      elim (apart-or-inside q s e p below) [
        | inl out ↦ inl (inr (same, out))
        | inr deep ↦ inr (deep.0, ap (λ j. j ∷ q) same ∙ ap (λ r. k ∷ r) deep.1)
      ]
  | inr other ↦ inl (inl other)
]

rest-none : (q : Path) (s e : ℕ) (p : Path) → IsUntouched q s e p → rest_behind p q ≡ None
rest-none q s e [] h = absurd h
rest-none [] s e (k ∷ p) h = refl
rest-none (i ∷ q) s e (k ∷ p) h = elim (cases_eq k i) [
  | inl same ↦ elim h [
    | inl other ↦ absurd (other (sym same))
    | inr both ↦
        ap (λ b. if b then rest_behind p q else None) ((Decides-eqb k i).1 same)
        ∙ rest-none q s e p both.1
  ]
  | inr other ↦ ap (λ b. if b then rest_behind p q else None) (ne_eqb k i other)
]

rest-some : (p r : Path) → rest_behind p (p ++ r) ≡ Some r
rest-some [] r = refl
rest-some (k ∷ p) r =
    let same : k ≡ k = refl in
    ap (λ b. if b then rest_behind p (p ++ r) else None) ((Decides-eqb k k).1 same)
    ∙ rest-some p r

-- ---- edits inside of an element

-- an edit inside of an element is one of the element, which stays where it is
edit-inside : (t : Term) (p r : Path) (s e : ℕ) (new : List Term) (w : Term)
    → subterm t p ≡ Some w
    → subterm (edited_once t (edit_at (p ++ r) s e new)) (moved_path (p ++ r) s e (length new) p)
    ≡ Some (edited_once w (edit_at r s e new))
edit-inside t [] r s e new w h =
    let same : t ≡ w = cc in ap (λ u. Some (edited_once u (edit_at r s e new))) same
edit-inside t (k ∷ p) r s e new w h =
    let same : k ≡ k = refl in
    let c = child-of (slice_get (term_children t) k) p w h in
    let inner : subterm c.0 p ≡ Some w = ap (λ o. subterm_of o p) (sym c.1) ∙ h in
    let y = moved_path (p ++ r) s e (length new) p in
    let whole = edited_once t (edit_at (k ∷ (p ++ r)) s e new) in
    let below = edited_once c.0 (edit_at (p ++ r) s e new) in
    ap (λ b. subterm whole (if b then k ∷ y else k ∷ p)) ((Decides-eqb k k).1 same)
    ∙ ap (λ u. subterm u (k ∷ y)) (edited-below t k (p ++ r) s e new c.0 c.1)
    ∙ new-child t k c.0 below y c.1 ∙ edit-inside c.0 p r s e new w inner

-- what lies behind an edit inside of an element does not lie before the element
behind-inside : (p r : Path) (n : ℕ) (q : Path) (s e : ℕ) → Before (p ++ r) n (q ++ s ∷ [])
    → s ≤ e → Before q e p → ⊥
behind-inside [] r n q s e b order h = absurd h
behind-inside (k ∷ p) r n [] s e b order h = elim b [
  | inl less ↦ omega (arith, less, order, h)
  | inr both ↦ absurd both.1
]
behind-inside (k ∷ p) r n (j ∷ q) s e b order h = elim b [
  | inl less ↦ elim h [
    | inl more ↦ omega (arith, less, more)
    | inr both ↦ omega (arith, less, both.0)
  ]
  | inr same ↦ elim h [
    | inl more ↦ omega (arith, same.0, more)
    | inr both ↦ behind-inside p r n q s e same.1 order both.1
  ]
]

pub stays-inside : (p r : Path) (n : ℕ) (es : List Edit)
    → AllByRecursion (λ f. Before (p ++ r) n (place f)) es → EndInTurn es
    → moved_over (sites_of es) p ≡ p
stays-inside p r n [] a turn = refl
stays-inside p r n (f ∷ es) a turn =
    ap (moved_path f.parent f.start f.end (length f.new)) (stays-inside p r n es a.1 turn.2)
    ∙ stays-before f.parent f.start f.end (length f.new) p
    (λ h. behind-inside p r n f.parent f.start f.end a.0 turn.0 h)

places-behind : (e : Edit) (q : Path) (es : List Edit) → e.parent ≡ q
    → AllByRecursion (λ f. ends_before e f ≡ true) es
    → AllByRecursion (λ f. Before q e.end (place f)) es
places-behind e q [] same a = tt
places-behind e q (f ∷ es) same a = (
  subst (λ w. Before w e.end (place f)) same (true-before e.parent e.end (place f) a.0),
  places-behind e q es same a.1,
)

-- ---- all edits

both-false : (a b : Bool) → (a || b) ≡ false → (a ≡ false) × (b ≡ false)
both-false true b h = absurd cc
both-false false b h = (refl, h)

pub elements-moved : (t : Term) (es : List Edit) (p : Path) (u : Term) → EndInTurn es
    → list_any (is_taken_at p) (sites_of es) ≡ false → subterm t p ≡ Some u
    → subterm (edited t es) (moved_over (sites_of es) p) ≡ Some (edited u (edits_inside p es))
elements-moved t [] p u turn out h = h
elements-moved t (e ∷ es) p u turn out h =
    let rest = sites_of es in
    let parts = both-false (is_among e.parent e.start e.end p)
    (list_any (is_taken_at p) rest) out in
    let z = moved_over rest p in
    let inner = edits_inside p es in
    let v = edited u inner in
    let stands : subterm (edited t es) z ≡ Some v = elements-moved t es p u turn.2 parts.1 h in
    elim (apart-or-inside e.parent e.start e.end p parts.0) [
      | inl apart ↦
          let later : IsUntouchedBy e z =
          subst (IsUntouchedBy e) (by-sites es p) (untouched-by e es p apart turn.2 turn.1) in
          subterm-kept (edited t es) e.parent e.start e.end e.new z v turn.0 later stands
          ∙ ap (λ o. Some (edited u (with_path o e inner)))
          (sym (rest-none e.parent e.start e.end p apart))
      | inr deep ↦
          let r = deep.0 in
          let still : z ≡ p =
          stays-inside p r e.end es (places-behind e (p ++ r) es deep.1 turn.1) turn.2 in
          let there : subterm (edited t es) p ≡ Some v =
          ap (subterm (edited t es)) (sym still) ∙ stands in
          let made = edit-inside (edited t es) p r e.start e.end e.new v there in
          let whole = edited_once (edited t es) e in
          let at : subterm whole (moved_path e.parent e.start e.end (length e.new) p)
          ≡ Some (edited_once v (edit_at r e.start e.end e.new)) =
          subst (λ q. subterm (edited_once (edited t es) (edit_at q e.start e.end e.new))
          (moved_path q e.start e.end (length e.new) p)
          ≡ Some (edited_once v (edit_at r e.start e.end e.new))) (sym deep.1) made in
          ap (λ y. subterm whole (moved_path e.parent e.start e.end (length e.new) y)) still ∙ at
          ∙ ap (λ o. Some (edited u (with_path o e inner)))
          (sym (ap (rest_behind p) deep.1 ∙ rest-some p r))
    ]

-- ---- an edited node

-- a node of this kind
abbrev pub IsNodeOf : ℕ → Term → Type 0
IsNodeOf kind t = (n : NodeTerm) × (t ≡ Node n) × (node_kind n ≡ kind)

once-node : (n : NodeTerm) (p : Path) (s e : ℕ) (new : List Term)
    → IsNodeOf (node_kind n) (edited_once (Node n) (edit_at p s e new))
once-node n [] s e new =
    (node_of (node_kind n) (spliced (node_children n) s e new), refl, refl)
once-node n (i ∷ p) s e new = at (subterm (Node n) (i ∷ p))
  where
    at : (o : Option Term)
        → IsNodeOf (node_kind n) (put_spliced (Node n) (edit_at (i ∷ p) s e new) o)
    at None = (n, refl, refl)
    at (Some u) =
        let x = put_of (slice_get (node_children n) i) p
        (with_spliced u (edit_at (i ∷ p) s e new)) in
        (node_of (node_kind n) (replaced (node_children n) i x), refl, refl)

pub node-edited : (n : NodeTerm) (es : List Edit) → IsNodeOf (node_kind n) (edited (Node n) es)
node-edited n [] = (n, refl, refl)
node-edited n (e ∷ es) =
    let r = node-edited n es in
    let o = once-node r.0 e.parent e.start e.end e.new in
    (o.0, ap (λ t. edited_once t e) r.1 ∙ o.1, o.2 ∙ r.2)
