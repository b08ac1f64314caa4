-- The text of a tree in which one child was replaced.
use Rattle.std.proofs.Common.{◌≡◌, ℕ, zero, suc, ◌+◌, ◌<◌, List, [], ◌∷◌, ◌++◌, take, Some, None}
use Rattle.std.proofs.Common.{Option, length, sym, ◌∙◌, ap, subst, arith, inl, inr}
use Rattle.std.proofs.lemmas.List.{append-nil}
use Rattle.std.proofs.lemmas.Option.{slice_get_cases}
use Rattle.std.specs.List.{AllByRecursion}
use Rattle.std.specs.Prelude.{slice_get, Result, Ok, Err, IfOk, IfSome, OnOk}
use Rattle.rowan_green.specs.Search.{child_start}
use Rattle.rowan.specs.Cursor.{Cursor, index, text_range}
use Rattle.rowan.specs.Edits.{spliced}
use Rattle.rowan.specs.Moves.{parent}
use Rattle.rowan.specs.Path.{Path, offset, range, subterm, subterm_of, len_of}
use Rattle.rowan.specs.Refs.{node_place}
use Rattle.rowan.specs.Span.{Span}
use Rattle.rowan.specs.Term.{NodeTerm, Term, node_children, node_text, sum_of_lens, term_len}
use Rattle.rowan.specs.Term.{joined_text, term_text}
use Rattle.rowan.specs.Types.NodeOrToken.TheVariants.{Node}
use Rattle.rowan_changes.specs.declared.changes.Edited.{Edited}
use Rattle.rowan_changes.specs.Changes.{range_of, end_place}
use Rattle.rowan_changes.specs.Edit.{Edit, place}
use Rattle.rowan_changes.specs.Plan.{IsOf}
use Rattle.rowan_changes.specs.TextEdits.{IsEdited}
use Rattle.rowan_changes.proofs.ParentLemmas.{parent-up}
use Rattle.rowan_changes.proofs.TextLaw.{text-edited, top-offset}
use Rattle.rowan_terms.proofs.OffsetLemmas.{offset-join, offset-lens, lens_before-node}
use Rattle.rowan_terms.proofs.Paths.{subterm_of-append}
use Rattle.toml_edit.specs.Edits.{IsPut, IsReplaced}
use Rattle.toml_edit_plan.specs.declared.error.TomlEditError.{TomlEditError}
use Rattle.toml_edit_plan.specs.declared.splice.Splice.{Splice}
use Rattle.toml_edit_plan.specs.declared.written.NewValue.{NewValue}
use Rattle.toml_edit_plan.specs.Splices.{IsIn, edit_of, edits_of}
use Rattle.toml_edit_plan.specs.Written.{IsTextOf}
use Rattle.toml_values.specs.declared.value.Slot.{Slot}

-- the bytes before a child are those before the one ahead of it, and that one's
child-next : (ts : List Term) (i : ℕ) (u : Term) → slice_get ts i ≡ Some u
    → child_start ts (i + 1) ≡ child_start ts i + term_len u
child-next [] i u h = absurd cc
child-next (t ∷ ts) zero u h = let e : t ≡ u = cc in omega (arith, ap term_len e)
child-next (t ∷ ts) (suc i) u h =
    let e : suc i + 1 ≡ suc (i + 1) = omega arith in
    ap (λ k. sum_of_lens (take k (t ∷ ts))) e ∙ omega (arith, child-next ts i u h)

-- where a child of the node at a path begins
child-offset : (t : Term) (q : Path) (i : ℕ) (n : NodeTerm) → subterm t q ≡ Some (Node n)
    → offset t (q ++ i ∷ []) ≡ offset t q + child_start (node_children n) i
child-offset t q i n h = omega (
  arith,
  offset-join t q (i ∷ []) (Node n) h,
  offset-lens (Node n) (i ∷ []),
  lens_before-node n i [],
  top-offset (slice_get (node_children n) i),
)

-- what stands at the path of a child
child-there : (t : Term) (q : Path) (i : ℕ) (n : NodeTerm) (u : Term)
    → subterm t q ≡ Some (Node n) → slice_get (node_children n) i ≡ Some u
    → subterm t (q ++ i ∷ []) ≡ Some u
child-there t q i n u h g =
    subterm_of-append (Some t) q (i ∷ []) ∙ ap (λ o. subterm_of o (i ∷ [])) h
    ∙ ap (λ o. subterm_of o []) g

-- an edit that takes one child away has that one's range
one-range : (root : NodeTerm) (e : Edit) → IsOf root e → e.end ≡ e.start + 1
    → range_of (Node root) e ≡ range (Node root) (e.parent ++ e.start ∷ [])
one-range root e of one =
    elim (slice_get_cases (node_children of.node) e.start).1 [
      | inl here ↦
          let t : Term = Node root in
          let ends : offset t (e.parent ++ e.end ∷ []) ≡ offset t (e.parent ++ e.start ∷ [])
          + len_of (subterm t (e.parent ++ e.start ∷ [])) = omega (
            arith,
            ap (λ k. offset t (e.parent ++ k ∷ [])) one,
            child-offset t e.parent (e.start + 1) of.node of.stands,
            child-offset t e.parent e.start of.node of.stands,
            child-next (node_children of.node) e.start here.0 here.2,
            ap len_of (child-there t e.parent e.start of.node here.0 of.stands here.2),
          ) in
          ap (λ z. record { start = offset t (e.parent ++ e.start ∷ []); end = z }) ends
      | inr past ↦ absurd (omega (arith, past.0, of.within, one))
    ]

-- the text after one node was put in the place of another one
text-put : (old : NodeTerm) (r : Span) (value : NewValue) (s : Splice) (e : Edited)
    → (put : IsPut r value s) → IsIn old s → IsEdited old (edit_of s ∷ []) e
    → node_text e.green ≡ spliced (node_text old) r.start r.end (node_text put.piece)
text-put old r value s e put inside made =
    let puts = put.puts in
    let up = parent-up put.old (node_place s.parent) puts.above in
    let of : IsOf old (edit_of s) = made.order.of_tree.0 in
    let path : put.old.path ≡ (node_place s.parent).path ++ s.start ∷ [] =
    up.path ∙ ap (λ i. (node_place s.parent).path ++ i ∷ []) (sym puts.start) in
    let ranges : range_of (Node old) (edit_of s) ≡ r =
    one-range old (edit_of s) of puts.end
    ∙ ap (λ n. range (Node n) ((node_place s.parent).path ++ s.start ∷ []))
    (sym inside ∙ up.root) ∙ ap (λ p. range (Node put.old.root) p) (sym path) ∙ put.range in
    let new : joined_text s.new.items ≡ node_text put.piece =
    ap joined_text puts.new ∙ append-nil (node_text put.piece) in
    ap term_text made.green ∙ text-edited old (edit_of s ∷ []) made.order
    ∙ ap (λ x. spliced (node_text old) x.start x.end (joined_text s.new.items)) ranges
    ∙ ap (λ x. spliced (node_text old) r.start r.end x) new

-- a value at a slot gives way, as the splice of its node says
pub put_by : (o : Option Slot) (value : NewValue) (r : Span) (c : Cursor) (text : List ℕ)
    (piece : NodeTerm) (result : Result Splice TomlEditError)
    → IfSome o (λ slot. r ≡ slot.origin.range) → text_range c ≡ r → IsTextOf value text
    → node_text piece ≡ text
    → IfOk result (λ s. parent c ≡ Some (node_place s.parent))
    → IfOk result (λ s. s.start ≡ index c) → IfOk result (λ s. s.end ≡ s.start + 1)
    → IfOk result (λ s. s.new.items ≡ Node piece ∷ [])
    → IfOk result (λ s. IfSome o (λ slot. IsPut slot.origin.range value s))
put_by o value r c text piece (Err x) at lies is same above start end new = tt
put_by None value r c text piece (Ok s) at lies is same above start end new = tt
put_by (Some slot) value r c text piece (Ok s) at lies is same above start end new = record {
  old = c;
  range = lies ∙ at;
  piece = piece;
  text = subst (λ bs. IsTextOf value bs) (sym same) is;
  puts = record { above = above; start = start; end = end; new = new };
}

-- a value at a slot was replaced, as a splice says and as its being made says
pub replaced_by : (old : NodeTerm) (o : Option Slot) (value : NewValue) (s : Splice)
    (splices : List Splice) (result : Result Edited TomlEditError) → splices ≡ s ∷ []
    → IfSome o (λ slot. IsPut slot.origin.range value s)
    → IfOk result (IsEdited old (edits_of splices))
    → OnOk result (AllByRecursion (IsIn old) splices)
    → IfOk result (λ e. IfSome o (λ slot. IsReplaced old slot.origin.range value e))
replaced_by old o value s splices (Err x) all put made inside = tt
replaced_by old None value s splices (Ok e) all put made inside = tt
replaced_by old (Some slot) value s splices (Ok e) all put made inside =
    let one : IsEdited old (edit_of s ∷ []) e =
    subst (λ ss. IsEdited old (edits_of ss) e) all made in
    let here : AllByRecursion (IsIn old) (s ∷ []) =
    subst (λ ss. AllByRecursion (IsIn old) ss) all inside in record {
      splice = s;
      put = put;
      edited = one;
      whole = text-put old slot.origin.range value s e put here.0 one;
    }
