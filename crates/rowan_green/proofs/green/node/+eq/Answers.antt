use Rattle.std.proofs.Common.{◌≡◌, ◌&&◌, ◌<◌, ◌+◌, ◌∙◌, Bool, true, false, map, drop, length}
use Rattle.std.proofs.Common.{get_or, ℕ, refl, sym, ap, arith, List, [], ◌∷◌, ◌++◌, Bor}
use lib.Pointwise.{pointwise}
use Rattle.rowan_green.specs.declared.green.node.GreenChild.{GreenChild}
use Rattle.rowan_green.specs.Term.{Term, NodeTerm, node, node_kind, node_children, node_size}
use Rattle.rowan_green.specs.Sizes.{children_size, term_size}
use Rattle.rowan_green.specs.View.{child_term}
use Rattle.rowan_green.specs.Same.{same_node, same_term, same_forest, same_forest-pointwise}
use Rattle.rowan_green.specs.Unread.{same_row, same_rows, row_size, rows_size}
use Rattle.std.proofs.lemmas.Bool.Decides.{Decides-eqb}
use Rattle.rowan_green.proofs.Drops.{term_size_le-children_size, children_size-node}
use Rattle.rowan_green.proofs.Unread.{same_rows-push, rows_size-push, drop-child}
use Rattle.rowan_green.proofs.green.node.+eq.Goals as goal

same_node-children : (a b : NodeTerm) → node_kind a ≡ node_kind b
    → same_node a b ≡ pointwise same_term (node_children a) (node_children b)
same_node-children (node k f) (node j g) e =
    ap (λ r. r && same_forest f g) ((Decides-eqb k j).1 e) ∙ same_forest-pointwise f g

same_node-lists : (a b : NodeTerm) (ts us : List Term) → node_kind a ≡ node_kind b
    → ts ≡ node_children a → us ≡ node_children b → pointwise same_term ts us ≡ same_node a b
same_node-lists a b ts us k x y =
    ap (λ vs. pointwise same_term vs us) x ∙ ap (λ vs. pointwise same_term (node_children a) vs) y
    ∙ sym (same_node-children a b k)

-- the children from an index on are the same if those at it are, and those behind it
same_compared : (cs ds : List GreenChild) (i : ℕ) (c d : GreenChild) (w r : Bool) → i < length cs
    → length cs ≡ length ds → c ≡ get_or cs i c → d ≡ get_or ds i d
    → w ≡ pointwise same_term (map child_term (drop i cs)) (map child_term (drop i ds))
    → r ≡ same_term (child_term c) (child_term d)
    → w ≡ (r && pointwise same_term (map child_term (drop (i + 1) cs))
    (map child_term (drop (i + 1) ds)))
same_compared cs ds i c d w r h l x y e z =
    let behind = pointwise same_term (map child_term (drop (i + 1) cs))
    (map child_term (drop (i + 1) ds)) in
    e
    ∙ ap (λ v. pointwise same_term (map child_term v) (map child_term (drop i ds)))
    (drop-child cs i c h x)
    ∙ ap (λ v. pointwise same_term (map child_term (c ∷ drop (i + 1) cs)) (map child_term v))
    (drop-child ds i d (omega arith) y)
    ∙ ap (λ b. b && behind) (sym z)

children_size-drop : (cs : List GreenChild) (i : ℕ) (c : GreenChild) → i < length cs
    → c ≡ get_or cs i c → children_size (drop i cs) ≡ term_size (child_term c)
    + children_size (drop (i + 1) cs)
children_size-drop cs i c h e = ap children_size (drop-child cs i c h e)

-- the last row was taken from the list
same_popped : (rs qs : List (Bor (List GreenChild) × Bor (List GreenChild)))
    (r : Bor (List GreenChild) × Bor (List GreenChild)) → rs ≡ qs ++ r ∷ []
    → same_rows rs ≡ (same_row r && same_rows qs)
same_popped rs qs r e = ap same_rows e ∙ same_rows-push qs r

size_popped : (rs qs : List (Bor (List GreenChild) × Bor (List GreenChild)))
    (r : Bor (List GreenChild) × Bor (List GreenChild)) → rs ≡ qs ++ r ∷ []
    → rows_size rs ≡ rows_size qs + row_size r
size_popped rs qs r e = ap rows_size e ∙ rows_size-push qs r

and_assoc : (a b c : Bool) → (a && (b && c)) ≡ ((a && b) && c)
and_assoc true b c = refl
and_assoc false b c = refl

-- two nodes stand on the list, and the children behind them
same_listed : (w t s b n o m : Bool) → w ≡ (t && b) → n ≡ (t && (s && o)) → s ≡ b → o ≡ m
    → n ≡ (w && m)
same_listed w t s b n o m e f g h =
    f ∙ ap (λ x. t && (x && o)) g ∙ ap (λ x. t && (b && x)) h ∙ and_assoc t b m
    ∙ ap (λ x. x && m) (sym e)

pub GreenNode::is_same_within-are_same_within-requires :
    goal.GreenNode::is_same_within-are_same_within-requires
GreenNode::is_same_within-are_same_within-requires t c = (
  omega (
    arith,
    c.decreases,
    children_size-node c.child_slice-children.result.now c.args.self.now
        c.child_slice-children.ensures.terms,
  ),
  c.requires,
)

pub GreenNode::is_same_within-are_same_by_list-requires :
    goal.GreenNode::is_same_within-are_same_by_list-requires
GreenNode::is_same_within-are_same_by_list-requires t c = (
  omega (
    arith,
    c.decreases,
    children_size-node c.child_slice-children.result.now c.args.self.now
        c.child_slice-children.ensures.terms,
  ),
  c.requires,
)

pub GreenNode::is_same_within-returns-in-Some-checked_sub-clause-same :
    goal.GreenNode::is_same_within-returns-in-Some-checked_sub-clause-same
GreenNode::is_same_within-returns-in-Some-checked_sub-clause-same t c =
    c.are_same_within.ensures.same
    ∙ same_node-lists c.args.self.now c.args.other.now
    (map child_term c.child_slice-children.result.now)
    (map child_term c.child_slice-others.result.now) (c.in_default.ensures.kinds refl)
    c.child_slice-children.ensures.terms c.child_slice-others.ensures.terms

pub GreenNode::is_same_within-returns-in-None-clause-same :
    goal.GreenNode::is_same_within-returns-in-None-clause-same
GreenNode::is_same_within-returns-in-None-clause-same t c =
    c.are_same_by_list.ensures.same
    ∙ same_node-lists c.args.self.now c.args.other.now
    (map child_term c.child_slice-children.result.now)
    (map child_term c.child_slice-others.result.now) (c.in_default.ensures.kinds refl)
    c.child_slice-children.ensures.terms c.child_slice-others.ensures.terms

pub GreenNode::is_same_or_listed-returns-then-put_rows-clause-listed :
    goal.GreenNode::is_same_or_listed-returns-then-put_rows-clause-listed
GreenNode::is_same_or_listed-returns-then-put_rows-clause-listed t c none =
    c.put_rows.ensures.same c.if-put_rows.true
    ∙ ap (λ b. b && (same_row c.args.behind && same_rows c.args.rest.now.items))
    (same_node-lists c.args.self.now c.args.other.now (map child_term c.child_slice.result.now)
    (map child_term c.child_slice-2.result.now) (c.in_default.ensures.kinds refl)
    c.child_slice.ensures.terms c.child_slice-2.ensures.terms)

pub GreenNode::is_same_or_listed-returns-then-put_rows-clause-smaller :
    goal.GreenNode::is_same_or_listed-returns-then-put_rows-clause-smaller
GreenNode::is_same_or_listed-returns-then-put_rows-clause-smaller t c none =
    omega (
      arith,
      c.put_rows.ensures.smaller c.if-put_rows.true,
      children_size-node c.child_slice.result.now c.args.self.now c.child_slice.ensures.terms,
    )

pub GreenChild::are_same_within-is_same_within-requires :
    goal.GreenChild::are_same_within-is_same_within-requires
GreenChild::are_same_within-is_same_within-requires t c =
    let child = c.index-children-i.result in (
      omega (
        arith,
        c.decreases,
        ap (λ x. term_size (child_term x)) c.index-children-i.is,
        term_size_le-children_size c.args.children.now c.loop-i.i child (omega arith),
      ),
      c.loop-i.invariant.empty,
    )

pub GreenChild::are_same_or_listed-returns-in_default-clause-same :
    goal.GreenChild::are_same_or_listed-returns-in_default-clause-same
GreenChild::are_same_or_listed-returns-in_default-clause-same t c =
    let i = c.loop-i.i in
    let behind = pointwise same_term (map child_term (drop (i + 1) c.args.children.now))
    (map child_term (drop (i + 1) c.args.others.now)) in
    let here = same_term (child_term c.index-children-i.result) (child_term c.index-others-i.result)
    in
    same_listed _ here _ behind _ _ _
    (same_compared c.args.children.now c.args.others.now i c.index-children-i.result
    c.index-others-i.result _ here c.loop-i-test.true (sym c.if-others-children.false)
    c.index-children-i.is c.index-others-i.is c.loop-i.invariant.same refl)
    (c.in_default.ensures.listed refl)
    (ap
    (λ cs. pointwise same_term (map child_term cs)
    (map child_term c.split_at-in-loop-i.result.1.now)) c.split_at.ensures.back
    ∙ ap
    (λ ds. pointwise same_term (map child_term (drop (i + 1) c.args.children.now))
    (map child_term ds)) c.split_at-in-loop-i.ensures.back) (ap same_rows c.loop-i.invariant.left)

pub GreenChild::are_same_by_list-are_same_or_listed-requires-in-Some :
    goal.GreenChild::are_same_by_list-are_same_or_listed-requires-in-Some
GreenChild::are_same_by_list-are_same_or_listed-requires-in-Some t c = (
  omega (
    arith,
    c.decreases,
    c.loop-row.invariant.smaller,
    size_popped c.loop-row.rest.items c.pop.new.self.items c.in-Some.row c.in-Some.ensures.items,
  ),
  tt,
)

pub GreenChild::are_same_by_list-returns-then-not-are_same_or_listed-2-clause-same :
    goal.GreenChild::are_same_by_list-returns-then-not-are_same_or_listed-2-clause-same
GreenChild::are_same_by_list-returns-then-not-are_same_or_listed-2-clause-same t c =
    sym (c.loop-row.invariant.same
    ∙ same_popped c.loop-row.rest.items c.pop.new.self.items c.in-Some.row c.in-Some.ensures.items
    ∙ sym c.are_same_or_listed-in-Some.ensures.same
    ∙ ap (λ r. r && same_rows c.are_same_or_listed-in-Some.new.rest.items)
    c.if-not-are_same_or_listed-2.true)

pub GreenChild::are_same_by_list-loop-row-smaller :
    goal.GreenChild::are_same_by_list-loop-row-smaller
GreenChild::are_same_by_list-loop-row-smaller t c =
    omega (
      arith,
      c.are_same_or_listed-in-Some.ensures.smaller,
      size_popped c.loop-row.rest.items c.pop.new.self.items c.in-Some.row c.in-Some.ensures.items,
    )

pub GreenChild::are_same_by_list-loop-row-preserved :
    goal.GreenChild::are_same_by_list-loop-row-preserved
GreenChild::are_same_by_list-loop-row-preserved t c = record {
  same = c.loop-row.invariant.same
      ∙ same_popped c.loop-row.rest.items c.pop.new.self.items c.in-Some.row c.in-Some.ensures.items
      ∙ sym c.are_same_or_listed-in-Some.ensures.same
      ∙ ap (λ r. r && same_rows c.are_same_or_listed-in-Some.new.rest.items)
      c.if-not-are_same_or_listed-2.false;
  smaller = omega (
    arith,
    c.loop-row.invariant.smaller,
    c.are_same_or_listed-in-Some.ensures.smaller,
    size_popped c.loop-row.rest.items c.pop.new.self.items c.in-Some.row c.in-Some.ensures.items,
  );
}
