-- What no edit touches, and edits in either order.
use Rattle.std.proofs.Common.{◌≡◌, ℕ, ◌+◌, ◌-◌, ◌<◌, ◌≤◌, Bool, true, false, List}
use Rattle.std.proofs.Common.{[], ◌∷◌, ◌++◌, length, inl, inr, Some, refl, sym, ◌∙◌, ap, subst}
use Rattle.std.proofs.Common.{arith}
use Rattle.std.specs.Prelude.{if◌then◌else◌}
use Rattle.std.specs.List.{AllByRecursion}
use Rattle.std.proofs.lemmas.Bool.{lt-ltb, le-ltb, ne_eqb, cases_lt, cases_eq, cases_Bool}
use Rattle.std.proofs.lemmas.Bool.Decides.{Decides-eqb}
use Rattle.std.proofs.Common.{take, drop, append_assoc}
use Rattle.rowan_green.specs.declared.utility_types.NodeOrToken.TheVariants.{Node}
use Rattle.rowan_terms.specs.Path.{Path, subterm, put}
use Rattle.rowan_green.specs.Term.{NodeTerm, Term, node_of, node_kind, node_children}
use Rattle.rowan_terms.proofs.EditLaws.{replaced-within}
use Rattle.rowan_terms.proofs.PutLemmas.{put-child}
use Rattle.rowan_changes.specs.Edit.{Edit, edited, edited_once, put_spliced, place, ends_before}
use Rattle.rowan_changes.specs.Moved.{moved_path, moved_by, IsUntouched, IsUntouchedBy}
use Rattle.rowan_changes.specs.Plan.{Plan, EndInTurn, added, with_edit}
use Rattle.rowan_changes.proofs.Places.{Before, true-before}
use Rattle.rowan_edit.proofs.PlanLemmas.{ends-trans}
use Rattle.rowan_changes.proofs.Untouched.{subterm-kept}

-- what an edit does not touch it does not touch once a later edit is made
untouched-moved : (p : Path) (s e : ℕ) (q : Path) (start end len : ℕ) (z : Path)
    → IsUntouched p s e z → Before p e (q ++ start ∷ []) → start ≤ end
    → IsUntouched p s e (moved_path q start end len z)
untouched-moved p s e q start end len [] h g order = absurd h
untouched-moved [] s e [] start end len (k ∷ z) h g order = elim (cases_lt k end) [
  | inl less ↦
      subst (λ b. IsUntouched [] s e ((if b then k else k - end + start + len) ∷ z))
      (sym (lt-ltb k end less)) h
  | inr more ↦
      subst (λ b. IsUntouched [] s e ((if b then k else k - end + start + len) ∷ z))
      (sym (le-ltb k end more)) (inr (omega (arith, g)))
]
untouched-moved [] s e (j ∷ q) start end len (k ∷ z) h g order =
    let y = moved_path q start end len z in elim (cases_eq j k) [
      | inl same ↦
          subst (λ b. IsUntouched [] s e (if b then k ∷ y else k ∷ z))
          (sym ((Decides-eqb j k).1 same)) h
      | inr other ↦
          subst (λ b. IsUntouched [] s e (if b then k ∷ y else k ∷ z)) (sym (ne_eqb j k other)) h
    ]
untouched-moved (i ∷ p) s e [] start end len (k ∷ z) h g order = elim (cases_lt k end) [
  | inl less ↦
      subst (λ b. IsUntouched (i ∷ p) s e ((if b then k else k - end + start + len) ∷ z))
      (sym (lt-ltb k end less)) h
  | inr more ↦
      subst (λ b. IsUntouched (i ∷ p) s e ((if b then k else k - end + start + len) ∷ z))
      (sym (le-ltb k end more)) (elim g [
        | inl before ↦ inl (λ same. omega (arith, before, same))
        | inr both ↦ absurd both.1
      ])
]
untouched-moved (i ∷ p) s e (j ∷ q) start end len (k ∷ z) h g order =
    let y = moved_path q start end len z in elim (cases_eq j k) [
      | inl same ↦
          subst (λ b. IsUntouched (i ∷ p) s e (if b then k ∷ y else k ∷ z))
          (sym ((Decides-eqb j k).1 same)) (elim h [
            | inl out ↦ inl out
            | inr on ↦ elim g [
              | inl before ↦ absurd (omega (arith, before, on.0, same))
              | inr both ↦ inr
                  (on.0, untouched-moved p s e q start end len z on.1 both.1 order)
            ]
          ])
      | inr other ↦
          subst (λ b. IsUntouched (i ∷ p) s e (if b then k ∷ y else k ∷ z))
          (sym (ne_eqb j k other)) h
    ]

pub untouched-by : (d : Edit) (es : List Edit) (z : Path) → IsUntouchedBy d z → EndInTurn es
    → AllByRecursion (λ e. ends_before d e ≡ true) es → IsUntouchedBy d (moved_by es z)
untouched-by d [] z h t a = h
untouched-by d (e ∷ es) z h t a =
    untouched-moved d.parent d.start d.end e.parent e.start e.end (length e.new) (moved_by es z)
    (untouched-by d es z h t.2 a.1) (true-before d.parent d.end (place e) a.0) t.0

pub elements-kept : (t : Term) (es : List Edit) (z : Path) (w : Term) → EndInTurn es
    → AllByRecursion (λ e. IsUntouchedBy e z) es → subterm t z ≡ Some w
    → subterm (edited t es) (moved_by es z) ≡ Some w
elements-kept t [] z w turn out h = h
elements-kept t (e ∷ es) z w turn out h =
    subterm-kept (edited t es) e.parent e.start e.end e.new (moved_by es z) w turn.0
    (untouched-by e es z out.0 turn.2 turn.1) (elements-kept t es z w turn.2 out.1 h)

-- ---- in either order

front : (b : Bool) (d e : Edit) (xs ys : List Edit) → b ≡ true
    → (if b then d ∷ xs else e ∷ ys) ≡ d ∷ xs
front true d e xs ys h = refl
front false d e xs ys h = absurd cc

back : (b : Bool) (d e : Edit) (xs ys : List Edit) → b ≡ false
    → (if b then d ∷ xs else e ∷ ys) ≡ e ∷ ys
back false d e xs ys h = refl
back true d e xs ys h = absurd cc

added-either : (es : List Edit) (e f : Edit) → e.start ≤ e.end → ends_before e f ≡ true
    → ends_before f e ≡ false → added (added es e) f ≡ added (added es f) e
added-either [] e f order h g =
    front (ends_before e f) e f (f ∷ []) (e ∷ []) h
    ∙ sym (back (ends_before f e) f e (e ∷ []) (f ∷ []) g)
added-either (d ∷ ds) e f order h g = elim (cases_Bool (ends_before d e)) [
  | inl near ↦
      let also : ends_before d f ≡ true = ends-trans d e f near order h in
      ap (λ es. added es f) (front (ends_before d e) d e (added ds e) (d ∷ ds) near)
      ∙ front (ends_before d f) d f (added (added ds e) f) (d ∷ added ds e) also
      ∙ ap (λ es. d ∷ es) (added-either ds e f order h g)
      ∙ sym (front (ends_before d e) d e (added (added ds f) e) (d ∷ added ds f) near)
      ∙ sym (ap (λ es. added es e) (front (ends_before d f) d f (added ds f) (d ∷ ds) also))
  | inr far ↦
      ap (λ es. added es f) (back (ends_before d e) d e (added ds e) (d ∷ ds) far)
      ∙ front (ends_before e f) e f (added (d ∷ ds) f) (e ∷ d ∷ ds) h
      ∙ elim (cases_Bool (ends_before d f)) [
        | inl also ↦
            let first = front (ends_before d f) d f (added ds f) (d ∷ ds) also in
            ap (λ es. e ∷ es) first
            ∙ sym (back (ends_before d e) d e (added (added ds f) e) (d ∷ added ds f) far)
            ∙ sym (ap (λ es. added es e) first)
        | inr neither ↦
            let first = back (ends_before d f) d f (added ds f) (d ∷ ds) neither in
            ap (λ es. e ∷ es) first
            ∙ sym (back (ends_before f e) f e (added (d ∷ ds) e) (f ∷ d ∷ ds) g)
            ∙ sym (ap (λ es. added es e) first)
      ]
]

pub either-order : (plan : Plan) (e f : Edit) → e.start ≤ e.end → ends_before e f ≡ true
    → ends_before f e ≡ false
    → with_edit (with_edit plan e) f ≡ with_edit (with_edit plan f) e
either-order plan e f order h g =
    let same : added (added plan.edits e) f ≡ added (added plan.edits f) e =
    added-either plan.edits e f order h g in
    let made : List Edit → Plan = λ es. record { root = plan.root; edits = es } in ap made same

-- ---- one term in place of one

pub one-put : (t : Term) (p : Path) (i : ℕ) (u : Term) (n : NodeTerm) → subterm t p ≡ Some (Node n)
    → i < length (node_children n)
    → edited_once t (record { parent = p; start = i; end = i + 1; new = u ∷ [] })
    ≡ put t (p ++ i ∷ []) u
one-put t p i u n h k =
    let cs = node_children n in
    let e : Edit = record { parent = p; start = i; end = i + 1; new = u ∷ [] } in
    ap (put_spliced t e) h
    ∙ ap (λ ts. put t p (Node (node_of (node_kind n) ts)))
    (append_assoc (take i cs) (u ∷ []) (drop (i + 1) cs) ∙ sym (replaced-within cs i u k))
    ∙ sym (put-child t p i u (Node n) h)
