-- The way of a zipper down to a node of the tree as it was.
use Rattle.std.proofs.Common.{◌≡◌, ℕ, zero, suc, ◌+◌, ◌≤◌, ◌<◌, true, List, [], ◌∷◌, ◌++◌, length}
use Rattle.std.proofs.Common.{take, drop, inl, inr, Option, Some, None, refl, sym, ◌∙◌, ap}
use Rattle.std.proofs.Common.{subst, arith}
use Rattle.std.specs.Prelude.{slice_get, slice_index_or, ◌≢◌, Result, Ok, Err, IfOk, IfErr}
use Rattle.rowan_green.specs.declared.fault.Fault.{Fault}
use Rattle.rowan_changes.specs.OpenNode.{closed, around_all}
use Rattle.std.proofs.lemmas.List.{take-append-drop, take_all, length-map}
use Rattle.rowan_green.specs.declared.utility_types.NodeOrToken.TheVariants.{Node, Token}
use Rattle.rowan_green.specs.Fits.{FitsNode, byte_limit}
use Rattle.rowan_terms.specs.Path.{Path, subterm, subterm_of, offset, len_of}
use Rattle.rowan_green.specs.Search.{child_start}
use Rattle.rowan_green.specs.Term.{NodeTerm, Term, node_children, node_len}
use Rattle.rowan_terms.proofs.OffsetLemmas.{range-within}
use Rattle.rowan_terms.proofs.Paths.{offset-empty}
use Rattle.rowan_green.proofs.Terms.{Fits-len}
use Rattle.rowan_table.specs.Moves.{children_of}
use Rattle.rowan_table.proofs.PathLemmas.{offset-node_child, subterm-child}
use Rattle.rowan_changes.specs.declared.open_node.OpenNode.{OpenNode}
use Rattle.rowan_changes.specs.declared.zipper.Zipper.{Zipper}
use Rattle.rowan_changes.specs.Zipper.{tree_of, path_of, place_of, IsStanding, HasPlace, Fork}
use Rattle.rowan_changes.specs.Edit.{lies_before}
use Rattle.rowan_changes.proofs.OpenNodeLemmas.{take-more}
use Rattle.rowan_changes.proofs.Places.{Before, true-before, fork-room, drop-at, drop-all}
use Rattle.rowan_changes.proofs.Untouched.{get-past}
use Rattle.rowan_changes.proofs.ZipperLemmas.{leads-to}

-- the child at the first index is a node, since one stands in it
pub record IsChildNode (n : NodeTerm) (i : ℕ) (rest : Path) (bottom : NodeTerm) : Type 0 where
  pub child : NodeTerm
  pub there : slice_get (node_children n) i ≡ Some (Node child)
  pub below : subterm (Node child) rest ≡ Some (Node bottom)

pub child-node : (n : NodeTerm) (i : ℕ) (rest : Path) (bottom : NodeTerm)
    → subterm (Node n) (i ∷ rest) ≡ Some (Node bottom) → IsChildNode n i rest bottom
child-node n i rest bottom h = at (slice_get (node_children n) i) refl h
  where
    at : (o : Option Term) → slice_get (node_children n) i ≡ o
        → subterm_of o rest ≡ Some (Node bottom) → IsChildNode n i rest bottom
    at None e g = absurd cc
    at (Some (Node child)) e g = record { child = child; there = e; below = g }
    at (Some (Token t)) e g = absurd (token rest g)
      where
        token : (r : Path) → subterm (Token t) r ≡ Some (Node bottom) → ⊥
        token [] f = cc
        token (j ∷ r) f = cc

-- all children of a node that stands on the way lie before a place behind the last one
pub room-all : (n : NodeTerm) (rest : Path) (end : ℕ) (bottom : NodeTerm)
    → subterm (Node n) rest ≡ Some (Node bottom) → end ≤ length (node_children bottom)
    → Before rest end (length (node_children n) ∷ [])
room-all n [] end bottom h within =
    let e : n ≡ bottom = cc in subst (λ m. end ≤ length (node_children m)) (sym e) within
room-all n (i ∷ rest) end bottom h within =
    let c = child-node n i rest bottom h in
    inl (get-past (node_children n) i (Node c.child) c.there)

-- a zipper that has come so far on its way down to a path
pub record IsOnWay (entry z : Zipper) (q : Path) (end count : ℕ) : Type 0 where
  pub root : z.root.now ≡ entry.root.now
  pub tree : tree_of z ≡ tree_of entry
  pub path : path_of z ≡ take count q
  pub standing : IsStanding z
  pub room : Before (drop count q) end (z.inner.kept ∷ [])
  pub below : HasPlace z.inner.node.now (drop count q) end

pub way-begins : (entry z : Zipper) (q : Path) (end count : ℕ) → HasPlace entry.root.now q end
    → lies_before q end (place_of entry) ≡ true → Fork (path_of entry) q count
    → z.root.now ≡ entry.root.now → tree_of z ≡ tree_of entry → length z.above.items ≡ count
    → place_of z ≡ take (count + 1) (place_of entry) → IsStanding z → IsOnWay entry z q end count
way-begins entry z q end count there before fork root tree len place standing =
    let long : length (path_of z) ≡ count =
    length-map z.above.items (λ (n : OpenNode). n.kept) ∙ len in
    let r = fork-room count (path_of entry) q entry.inner.kept end (path_of z) z.inner.kept fork
    (true-before q end (place_of entry) before) long place in
    let down : subterm (Node z.inner.node.now) (drop count q) ≡ Some (Node there.node) =
    sym (leads-to z.root.now z.above.items z.inner.node.now (drop count q) standing)
    ∙ ap (λ n. subterm (Node n) (path_of z ++ drop count q)) root
    ∙ ap (λ p. subterm (Node entry.root.now) (p ++ drop count q)) r.path
    ∙ ap (subterm (Node entry.root.now)) (take-append-drop count q) ∙ there.stands in
    record {
      root = root;
      tree = tree;
      path = r.path;
      standing = standing;
      room = r.room;
      below = record { node = there.node; stands = down; within = there.within };
    }

-- the next step leads to a child that is a node and lies before the place
pub record IsStep (z : Zipper) (index : ℕ) : Type 0 where
  pub before : index < z.inner.kept
  pub child : NodeTerm
  pub there : slice_get (node_children z.inner.node.now) index ≡ Some (Node child)

pub way-step : (entry z : Zipper) (q : Path) (end count index : ℕ) → IsOnWay entry z q end count
    → slice_get q count ≡ Some index → IsStep z index
way-step entry z q end count index w at =
    let next = drop-at q count index at in
    let rest = drop (count + 1) q in
    let room : Before (index ∷ rest) end (z.inner.kept ∷ []) =
    subst (λ p. Before p end (z.inner.kept ∷ [])) next w.room in
    let c = child-node z.inner.node.now index rest w.below.node
    (ap (subterm (Node z.inner.node.now)) (sym next) ∙ w.below.stands) in
    record {
      before = elim room [ inl less ↦ less | inr both ↦ absurd both.1 ];
      child = c.child;
      there = c.there;
    }

pub way-next : (entry z y : Zipper) (q : Path) (end count index : ℕ) → IsOnWay entry z q end count
    → slice_get q count ≡ Some index → y.root.now ≡ z.root.now → tree_of y ≡ tree_of z
    → path_of y ≡ path_of z ++ index ∷ []
    → slice_get (node_children z.inner.node.now) index ≡ Some (Node y.inner.node.now)
    → y.inner.kept ≡ length (node_children y.inner.node.now) → IsStanding y
    → IsOnWay entry y q end (count + 1)
way-next entry z y q end count index w at root tree path child kept standing =
    let next = drop-at q count index at in
    let rest = drop (count + 1) q in
    let more : suc count ≡ count + 1 = omega arith in
    let c = child-node z.inner.node.now index rest w.below.node
    (ap (subterm (Node z.inner.node.now)) (sym next) ∙ w.below.stands) in
    let both : Some (Node c.child) ≡ Some (Node y.inner.node.now) = sym c.there ∙ child in
    let same : c.child ≡ y.inner.node.now = cc in
    let down : subterm (Node y.inner.node.now) rest ≡ Some (Node w.below.node) =
    ap (λ n. subterm (Node n) rest) (sym same) ∙ c.below in
    record {
      root = root ∙ w.root;
      tree = tree ∙ w.tree;
      path = path ∙ ap (λ p. p ++ index ∷ []) w.path ∙ sym (take-more q count index at)
          ∙ ap (λ n. take n q) more;
      standing = standing;
      room = subst (λ n. Before rest end (n ∷ [])) (sym kept)
          (room-all y.inner.node.now rest end w.below.node down w.below.within);
      below = record { node = w.below.node; stands = down; within = w.below.within };
    }

pub record HasCome (z : Zipper) (q : Path) (end : ℕ) : Type 0 where
  pub path : path_of z ≡ q
  pub room : end ≤ z.inner.kept

pub way-ends : (entry z : Zipper) (q : Path) (end count : ℕ) → IsOnWay entry z q end count
    → length q ≤ count → HasCome z q end
way-ends entry z q end count w h = record {
  path = w.path ∙ take_all count q h;
  room = subst (λ p. Before p end (z.inner.kept ∷ [])) (drop-all q count h) w.room;
}

pub get-index : (xs : Path) (k : ℕ) → k < length xs → slice_get xs k ≡ Some (slice_index_or xs k 0)
get-index [] k h = absurd (omega arith)
get-index (x ∷ xs) zero h = refl
get-index (x ∷ xs) (suc k) h = get-index xs k (omega arith)

-- ---- a search for a node

pub down-step : (root n : NodeTerm) (q : Path) (k i : ℕ) (child : NodeTerm) → slice_get q k ≡ Some i
    → subterm (Node n) (drop k q) ≡ subterm (Node root) q
    → slice_get (node_children n) i ≡ Some (Node child)
    → subterm (Node child) (drop (k + 1) q) ≡ subterm (Node root) q
down-step root n q k i child at h there =
    sym (ap (λ o. subterm_of o (drop (k + 1) q)) there)
    ∙ ap (subterm (Node n)) (sym (drop-at q k i at)) ∙ h

pub no-step : (root n : NodeTerm) (q : Path) (k i : ℕ) → slice_get q k ≡ Some i
    → subterm (Node n) (drop k q) ≡ subterm (Node root) q
    → ((child : NodeTerm) → slice_get (node_children n) i ≢ Some (Node child))
    → (m : NodeTerm) → subterm (Node root) q ≢ Some (Node m)
no-step root n q k i at h none m e =
    let c = child-node n i (drop (k + 1) q) m
    (ap (subterm (Node n)) (sym (drop-at q k i at)) ∙ h ∙ e) in
    none c.child c.there

-- the way down so far: the node to which it leads, and where that node's text starts
pub record LeadsSoFar (root : NodeTerm) (q : Path) (k : ℕ) (n : NodeTerm) (at : ℕ) : Type 0 where
  pub rest : subterm (Node n) (drop k q) ≡ subterm (Node root) q
  pub stands : subterm (Node root) (take k q) ≡ Some (Node n)
  pub start : at ≡ offset (Node root) (take k q)

pub leads-first : (root : NodeTerm) (q : Path) → LeadsSoFar root q 0 root 0
leads-first root q =
    record { rest = refl; stands = refl; start = sym (offset-empty (Node root)) }

child-there : (root n : NodeTerm) (p : Path) (i : ℕ) (c : Term)
    → subterm (Node root) p ≡ Some (Node n) → slice_get (node_children n) i ≡ Some c
    → subterm (Node root) (p ++ i ∷ []) ≡ Some c
child-there root n p i c here there =
    subterm-child (Some (Node root)) p i ∙ ap (λ o. slice_get (children_of o) i) here ∙ there

-- the text of a child starts within the limit
pub leads-limit : (root n : NodeTerm) (q : Path) (k i at o : ℕ) (c : Term) → FitsNode root
    → LeadsSoFar root q k n at → slice_get (node_children n) i ≡ Some c
    → o ≡ child_start (node_children n) i → at + o ≤ byte_limit
leads-limit root n q k i at o c fits h there is =
    let p = take k q in
    omega (
      arith,
      is,
      h.start,
      offset-node_child (Node root) p i n h.stands,
      range-within (Node root) (p ++ i ∷ []) c (child-there root n p i c h.stands there),
      Fits-len (Node root) fits,
    )

pub leads-next : (root n child : NodeTerm) (q : Path) (k i at o x : ℕ) → LeadsSoFar root q k n at
    → slice_get q k ≡ Some i → slice_get (node_children n) i ≡ Some (Node child)
    → o ≡ child_start (node_children n) i → x ≡ at + o → LeadsSoFar root q (k + 1) child x
leads-next root n child q k i at o x h on there is to =
    let p = take k q in
    let next : suc k ≡ k + 1 = omega arith in
    let more : p ++ i ∷ [] ≡ take (k + 1) q =
    sym (take-more q k i on) ∙ ap (λ m. take m q) next in
    let begins : x ≡ offset (Node root) (p ++ i ∷ []) =
    omega (arith, to, is, h.start, offset-node_child (Node root) p i n h.stands) in
    record {
      rest = down-step root n q k i child on h.rest there;
      stands = ap (subterm (Node root)) (sym more)
          ∙ child-there root n p i (Node child) h.stands there;
      start = begins ∙ ap (offset (Node root)) more;
    }

-- the whole way
pub record HasLed (root : NodeTerm) (q : Path) (n : NodeTerm) (at : ℕ) : Type 0 where
  pub stands : subterm (Node root) q ≡ Some (Node n)
  pub start : at ≡ offset (Node root) q
  pub fits : at + node_len n ≤ byte_limit

pub leads-all : (root n : NodeTerm) (q : Path) (k at : ℕ) → FitsNode root
    → LeadsSoFar root q k n at → length q ≤ k → HasLed root q n at
leads-all root n q k at fits h long =
    let all : take k q ≡ q = take_all k q long in
    let stands : subterm (Node root) q ≡ Some (Node n) =
    ap (subterm (Node root)) (sym all) ∙ h.stands in
    let start : at ≡ offset (Node root) q = h.start ∙ ap (offset (Node root)) all in
    record {
      stands = stands;
      start = start;
      fits = omega (
        arith,
        start,
        ap len_of stands,
        range-within (Node root) q (Node n) stands,
        Fits-len (Node root) fits,
      );
    }

-- ---- at the top

pub top-tree : (z : Zipper) (inner : OpenNode) (t : Term) → length z.above.items ≡ 0
    → inner ≡ z.inner → tree_of z ≡ t → Node (closed inner) ≡ t
top-tree z inner t len is e =
    ap (λ n. Node (closed n)) is ∙ sym (alone z.above.items len) ∙ e
  where
    alone : (ns : List OpenNode) → length ns ≡ 0
        → around_all ns (Node (closed z.inner)) ≡ Node (closed z.inner)
    alone [] l = refl
    alone (n ∷ ns) l = absurd (omega arith)

pub ok-from : {A : Type 0} {P Q : A → Type 0} (r : Result A Fault) → ((x : A) → P x → Q x)
    → IfOk r P → IfOk r Q
ok-from (Ok x) f h = f x h
ok-from (Err e) f h = h

pub err-from : {A : Type 0} {P Q : Fault → Type 0} (r : Result A Fault)
    → ((e : Fault) → P e → Q e) → IfErr r P → IfErr r Q
err-from (Ok x) f h = h
err-from (Err e) f h = f e h

pub get-at : {A : Type 0} (xs : List A) (i : ℕ) (x : A) → i < length xs → x ≡ slice_index_or xs i x
    → slice_get xs i ≡ Some x
get-at [] i x h e = absurd (omega arith)
get-at (y ∷ ys) zero x h e = ap (λ z. Some z) (sym e)
get-at (y ∷ ys) (suc i) x h e = get-at ys i x (omega arith) e
