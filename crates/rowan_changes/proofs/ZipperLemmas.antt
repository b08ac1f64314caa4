-- A zipper: its tree and the path of its innermost node, as nodes are opened, edited and closed.
use Rattle.std.proofs.Common.{◌≡◌, ℕ, zero, suc, ◌+◌, ◌≤◌, List, [], ◌∷◌, ◌++◌, length, take}
use Rattle.std.proofs.Common.{set, Some, refl, sym, ◌∙◌, ap, subst, arith, length-append}
use Rattle.std.specs.Prelude.{slice_get, reverse}
use Rattle.std.proofs.lemmas.List.{map-append, length-map}
use Rattle.rowan_green.specs.declared.fault.Fault.{Fault}
use Rattle.rowan_green.specs.declared.utility_types.NodeOrToken.TheVariants.{Node}
use Rattle.rowan_green.specs.Edits.{spliced}
use Rattle.rowan_green.specs.Fits.{PassesLimit}
use Rattle.rowan_terms.specs.Path.{Path, term_children, subterm_of, subterm, with_child, put_of}
use Rattle.rowan_terms.specs.Path.{put}
use Rattle.rowan_green.specs.Term.{NodeTerm, Term, terms, forest, node_of, node_kind, node_children}
use Rattle.rowan_terms.proofs.PutLemmas.{replaced-set}
use Rattle.rowan_green.proofs.Terms.{terms-forest}
use Rattle.rowan_changes.specs.declared.open_node.OpenNode.{OpenNode}
use Rattle.rowan_changes.specs.Edit.{Edit, with_spliced, put_spliced, edited_once}
use Rattle.rowan_changes.specs.Limits.{PassesLimitAt}
use Rattle.rowan_changes.specs.OpenNode.{closed_children, closed, around, around_all, path_below}
use Rattle.rowan_changes.specs.Zipper.{Leads}

pub around-more : (ns : List OpenNode) (n : OpenNode) (t : Term)
    → around_all (ns ++ n ∷ []) t ≡ around_all ns (around n t)
around-more [] n t = refl
around-more (m ∷ ns) n t = ap (around m) (around-more ns n t)

pub path-more : (ns : List OpenNode) (n : OpenNode)
    → path_below (ns ++ n ∷ []) ≡ path_below ns ++ n.kept ∷ []
path-more ns n = map-append (λ (m : OpenNode). m.kept) ns (n ∷ [])

-- ---- what stands at the path, and what is put there

get-seam : {A : Type 0} (xs : List A) (k : ℕ) (t : A) (ys : List A) → k ≤ length xs
    → slice_get (take k xs ++ t ∷ ys) k ≡ Some t
get-seam xs zero t ys h = refl
get-seam [] (suc k) t ys h = absurd (omega arith)
get-seam (x ∷ xs) (suc k) t ys h = get-seam xs k t ys (omega arith)

set-seam : {A : Type 0} (xs : List A) (k : ℕ) (t u : A) (ys : List A) → k ≤ length xs
    → set (take k xs ++ t ∷ ys) k u ≡ take k xs ++ u ∷ ys
set-seam xs zero t u ys h = refl
set-seam [] (suc k) t u ys h = absurd (omega arith)
set-seam (x ∷ xs) (suc k) t u ys h = ap (λ z. x ∷ z) (set-seam xs k t u ys (omega arith))

child-around : (n : OpenNode) (t : Term) → slice_get (term_children (around n t)) n.kept ≡ Some t
child-around n t =
    let cs = node_children n.node.now in
    ap (λ ts. slice_get ts n.kept) (terms-forest (take n.kept cs ++ t ∷ reverse n.done.items))
    ∙ get-seam cs n.kept t (reverse n.done.items) n.in_range

with-around : (n : OpenNode) (t u : Term) → with_child (around n t) n.kept u ≡ around n u
with-around n t u =
    let cs = node_children n.node.now in
    let ts = take n.kept cs ++ t ∷ reverse n.done.items in
    ap (λ xs. Node (node_of (node_kind n.node.now) xs))
    (replaced-set (terms (forest ts)) n.kept u ∙ ap (λ xs. set xs n.kept u) (terms-forest ts)
    ∙ set-seam cs n.kept t u (reverse n.done.items) n.in_range)

pub subterm-around : (ns : List OpenNode) (t : Term)
    → subterm (around_all ns t) (path_below ns) ≡ Some t
subterm-around [] t = refl
subterm-around (n ∷ ns) t =
    ap (λ o. subterm_of o (path_below ns)) (child-around n (around_all ns t))
    ∙ subterm-around ns t

pub put-around : (ns : List OpenNode) (t u : Term)
    → put (around_all ns t) (path_below ns) u ≡ around_all ns u
put-around [] t u = refl
put-around (n ∷ ns) t u =
    let x = around_all ns t in
    ap (λ o. with_child (around n x) n.kept (put_of o (path_below ns) u)) (child-around n x)
    ∙ ap (with_child (around n x) n.kept) (put-around ns t u)
    ∙ with-around n x (around_all ns u)

-- an edit of the node at the path
pub spliced-around : (ns : List OpenNode) (f g : OpenNode) (start end : ℕ) (new : List Term)
    → g.node.now ≡ f.node.now → closed_children g ≡ spliced (closed_children f) start end new
    → around_all ns (Node (closed g)) ≡ edited_once (around_all ns (Node (closed f)))
    (record { parent = path_below ns; start = start; end = end; new = new })
spliced-around ns f g start end new same h =
    let e : Edit = record { parent = path_below ns; start = start; end = end; new = new } in
    let x = around_all ns (Node (closed f)) in
    let k = node_kind f.node.now in
    let one : ◌≡◌ {A = Term} (with_spliced (Node (closed f)) e) (Node (closed g)) =
    ap (λ ts. Node (node_of k (spliced ts start end new))) (terms-forest (closed_children f))
    ∙ ap (λ ts. Node (node_of k ts)) (sym h)
    ∙ ap (λ n. Node (node_of (node_kind n) (closed_children g))) (sym same) in
    sym (
    ap (put_spliced x e) (subterm-around ns (Node (closed f)))
    ∙ put-around ns (Node (closed f)) (with_spliced (Node (closed f)) e)
    ∙ ap (around_all ns) one
    )

-- ---- the way down

pub leads-more : (top : NodeTerm) (ns : List OpenNode) (n : OpenNode) (child : NodeTerm)
    → Leads top ns n.node.now → slice_get (node_children n.node.now) n.kept ≡ Some (Node child)
    → Leads top (ns ++ n ∷ []) child
leads-more top [] n child h e =
    (h, (child, ap (λ m. slice_get (node_children m) n.kept) (sym h) ∙ e, refl))
leads-more top (m ∷ ns) n child h e = (h.0, (h.1.0, h.1.1, leads-more h.1.0 ns n child h.1.2 e))

pub leads-less : (top : NodeTerm) (ns : List OpenNode) (n : OpenNode) (child : NodeTerm)
    → Leads top (ns ++ n ∷ []) child → Leads top ns n.node.now
leads-less top [] n child h = h.0
leads-less top (m ∷ ns) n child h = (h.0, (h.1.0, h.1.1, leads-less h.1.0 ns n child h.1.2))

-- the innermost node stands at the path in the tree as it was
pub leads-to : (top : NodeTerm) (ns : List OpenNode) (bottom : NodeTerm) (rest : Path)
    → Leads top ns bottom → subterm (Node top) (path_below ns ++ rest) ≡ subterm (Node bottom) rest
leads-to top [] bottom rest h = ap (λ n. subterm (Node n) rest) (sym h)
leads-to top (n ∷ ns) bottom rest h =
    ap (λ o. subterm_of o (path_below ns ++ rest)) h.1.1 ∙ leads-to h.1.0 ns bottom rest h.1.2

-- ---- one node is closed

pub closed-once : (all rest : List OpenNode) (outer inner closing : OpenNode) (child : NodeTerm)
    → all ≡ rest ++ outer ∷ [] → ◌≡◌ {A = Term} (Node (closed closing)) (around outer (Node child))
    → child ≡ closed inner
    → around_all rest (Node (closed closing)) ≡ around_all all (Node (closed inner))
closed-once all rest outer inner closing child e h g =
    ap (around_all rest) (h ∙ ap (λ n. around outer (Node n)) g)
    ∙ sym (around-more rest outer (Node (closed inner)))
    ∙ ap (λ ns. around_all ns (Node (closed inner))) (sym e)

-- the place moves up to the node that was around
pub place-once : (all rest : List OpenNode) (outer : OpenNode) (kept : ℕ) (entry : Path)
    → all ≡ rest ++ outer ∷ [] → path_below all ++ kept ∷ [] ≡ take (length all + 1) entry
    → path_below rest ++ outer.kept ∷ [] ≡ take (length rest + 1) entry
place-once all rest outer kept entry e h =
    let p = path_below rest ++ outer.kept ∷ [] in
    let len : length all ≡ length rest + 1 = ap length e ∙ length-append rest (outer ∷ []) in
    let long : length p ≡ length rest + 1 =
    length-append (path_below rest) (outer.kept ∷ [])
    ∙ ap (λ n. n + 1) (length-map rest (λ (n : OpenNode). n.kept)) in
    sym (took p (kept ∷ []) (length rest + 1) long)
    ∙ ap (λ q. take (length rest + 1) (q ++ kept ∷ []))
    (sym (path-more rest outer) ∙ ap path_below (sym e)) ∙ ap (take (length rest + 1)) h
    ∙ shorter (length rest + 1) (length all + 1) entry (omega (arith, len))
  where
    took : (xs ys : Path) (n : ℕ) → length xs ≡ n → take n (xs ++ ys) ≡ xs
    took [] ys zero l = refl
    took [] ys (suc n) l = absurd (omega arith)
    took (x ∷ xs) ys zero l = absurd (omega arith)
    took (x ∷ xs) ys (suc n) l = ap (λ zs. x ∷ zs) (took xs ys n (omega arith))

    shorter : (m n : ℕ) (xs : Path) → m ≤ n → take m (take n xs) ≡ take m xs
    shorter zero n xs l = refl
    shorter (suc m) zero xs l = absurd (omega arith)
    shorter (suc m) (suc n) [] l = refl
    shorter (suc m) (suc n) (x ∷ xs) l = ap (λ zs. x ∷ zs) (shorter m n xs (omega arith))

-- the path at a place of which so many beginnings are known
pub path-of-place : (ns : List OpenNode) (kept : ℕ) (q : Path) (k : ℕ)
    → path_below ns ++ kept ∷ [] ≡ take (length ns + 1) (q ++ k ∷ [])
    → (path_below ns ≡ take (length ns) q) × (length ns ≤ length q)
path-of-place [] kept q k h = (none q, omega arith)
  where
    none : (xs : Path) → [] ≡ take 0 xs
    none xs = refl
path-of-place (n ∷ ns) kept [] k h =
    let more : suc (length ns) + 1 ≡ suc (length ns + 1) = omega arith in
    let all = ap length (h ∙ ap (λ m. take m (k ∷ [])) more) in
    absurd (omega (arith, all, length-append (path_below ns) (kept ∷ []), short (length ns + 1)))
  where
    short : (m : ℕ) → length {A = ℕ} (take m []) ≡ 0
    short zero = refl
    short (suc m) = refl
path-of-place (n ∷ ns) kept (x ∷ q) k h =
    let more : suc (length ns) + 1 ≡ suc (length ns + 1) = omega arith in
    let all : n.kept ∷ (path_below ns ++ kept ∷ []) ≡ x ∷ take (length ns + 1) (q ++ k ∷ []) =
    h ∙ ap (λ m. take m (x ∷ (q ++ k ∷ []))) more in
    let first : n.kept ≡ x = cc in
    let others : path_below ns ++ kept ∷ [] ≡ take (length ns + 1) (q ++ k ∷ []) = cc in
    let r = path-of-place ns kept q k others in
    (ap (λ y. y ∷ path_below ns) first ∙ ap (λ ys. x ∷ ys) r.0, omega (arith, r.1))

-- a node that is not made passes its limit in the tree
pub passes-around : (ns : List OpenNode) (inner : OpenNode) (t : Term) (p : Path) (fault : Fault)
    → PassesLimit (closed_children inner) fault → around_all ns (Node (closed inner)) ≡ t
    → path_below ns ≡ p → PassesLimitAt t p fault
passes-around ns inner t p fault h e path = record {
  node = closed inner;
  stands = ap (λ q. subterm t q) (sym path) ∙ ap (λ u. subterm u (path_below ns)) (sym e)
      ∙ subterm-around ns (Node (closed inner));
  passes = subst (λ ts. PassesLimit ts fault) (sym (terms-forest (closed_children inner))) h;
}
