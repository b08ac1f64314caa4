-- The nodes above a list: one more of them on the way down, and one less on the way back up, where
-- each is made anew.
use Rattle.std.proofs.Common.{◌≡◌, ◌≢◌, ℕ, ◌+◌, ◌-◌, ◌<◌, ◌≤◌, Bool, true, false, ◌&&◌, ◌⊎◌, inl}
use Rattle.std.proofs.Common.{inr, List, [], ◌∷◌, ◌++◌, Some, Result, Ok, Err, refl, sym, ◌∙◌, ap}
use Rattle.std.proofs.Common.{subst, arith, append_assoc}
use Rattle.std.proofs.lemmas.Bool.{eq-eqb, eqb-true}
use Rattle.std.proofs.lemmas.List.{map-append}
use Rattle.std.specs.Prelude.{nat_eq, slice_get, IfOk}
use Rattle.std.specs.Option.{option_map}
use Rattle.rowan_green.specs.declared.fault.Fault.{Fault}
use Rattle.rowan_green.specs.declared.fault.Fault.TheVariants.{TextTooLong, Memory, NotFound}
use Rattle.rowan_green.specs.declared.utility_types.NodeOrToken.TheVariants.{Node, Token}
use Rattle.rowan_green.specs.Edits.{replaced}
use Rattle.rowan_green.specs.Fits.{Fits, FitsNode, PassesLimit}
use Rattle.rowan_terms.specs.Path.{Path, subterm, offset, range, len_of, put}
use Rattle.rowan_green.specs.Search.{child_start, IsChildAt}
use Rattle.rowan_green.specs.Span.{Span}
use Rattle.rowan_green.specs.Term.{NodeTerm, TokenTerm, Term, term_kind, node_of, node_kind}
use Rattle.rowan_green.specs.Term.{node_children, node_len}
use Rattle.rowan_terms.proofs.Paths.{offset-empty}
use Rattle.rowan_terms.proofs.PutLemmas.{put-child}
use Rattle.rowan_terms.proofs.PutLimits.{unfit-put}
use Rattle.rowan_green.proofs.SearchLemmas.{has-range}
use Rattle.rowan_table.specs.Cursor.{Cursor, kind}
use Rattle.rowan_table.specs.Moves.{children_of, is_node}
use Rattle.rowan_table.specs.Search.{IsRangeChild}
use Rattle.rowan_table.proofs.PathLemmas.{offset-child, subterm-child}
use Rattle.rowan.specs.Pointer.{is_node_of}
use Rattle.rowan.proofs.ChainLemmas.{size_at, range_child-smaller, range_child-place}
use Rattle.rowan_tool.specs.declared.sexp.reparse.Ancestor.{Ancestor}
use Rattle.rowan_tool.specs.Ancestors.{path_below, AreAncestors, IsReparseAt, WhyNoReparseAt}
use Rattle.rowan_sexp.specs.Casts.{is_list}
use Rattle.rowan_sexp.specs.Grammar.{IsOneList}
use Rattle.rowan_tool.specs.Reparse.{IsListAt, is_list_at, HasNoList, WhyNoList, WhyNoReparse}
use Rattle.rowan_sexp.specs.Sexp.{kind_of}
use Rattle.rowan_tool.proofs.ListReparsed.{HasList, kind-list, no-list, no-replacement}
use Rattle.rowan_tool.proofs.ListSearch.{IsSearching, search-begins, search-goes-on, search-ends}
use Rattle.rowan_tool.proofs.ListSearch.{search-ends-token, has-no-list}

-- ---- one more node, and one less

-- where a list with one more element is cut, that element is cut off, or it is the last of what is
-- behind
split-last : {A : Type 0} (xs : List A) (x : A) (before : List A) (b : A) (others : List A)
    → xs ++ x ∷ [] ≡ before ++ b ∷ others
    → ((xs ≡ before) × (x ≡ b)) ⊎ ((rest : List A) × (xs ≡ before ++ b ∷ rest))
split-last [] x [] b others e = inl (refl, cc)
split-last [] x (z ∷ []) b others e = absurd cc
split-last [] x (z ∷ y ∷ before) b others e = absurd cc
split-last (y ∷ xs) x [] b others e = let same : y ≡ b = cc in inr (xs, ap (λ z. z ∷ xs) same)
split-last (y ∷ xs) x (z ∷ before) b others e =
    let same : y ≡ z = cc in
    elim (split-last xs x before b others
    (let rest : xs ++ x ∷ [] ≡ before ++ b ∷ others = cc in rest)) [
      | inl s ↦ inl (ap (λ v. v ∷ xs) same ∙ ap (λ vs. z ∷ vs) s.0, s.1)
      | inr s ↦ inr (s.0, ap (λ v. v ∷ xs) same ∙ ap (λ vs. z ∷ vs) s.1)
    ]

no-split : {A : Type 0} (before : List A) (b : A) (others : List A)
    → ◌≡◌ {A = List A} [] (before ++ b ∷ others) → ⊥
no-split [] b others e = cc
no-split (z ∷ before) b others e = cc

path-more : (above : List Ancestor) (a : Ancestor)
    → path_below (above ++ a ∷ []) ≡ path_below above ++ a.index ∷ []
path-more above a = map-append (λ b. b.index) above (a ∷ [])

-- the node stands below all of these
abbrev StandsBelow : NodeTerm → List Ancestor → NodeTerm → Type 0
StandsBelow root above n = subterm (Node root) (path_below above) ≡ Some (Node n)

ancestors-more : (root : NodeTerm) (above : List Ancestor) (a : Ancestor) → AreAncestors root above
    → StandsBelow root above a.node.now → AreAncestors root (above ++ a ∷ [])
ancestors-more root above a h here before b others e = elim (split-last above a before b others e) [
  | inl s ↦ ap (λ xs. subterm (Node root) (path_below xs)) (sym s.0) ∙ here
      ∙ ap (λ x. Some (Node x.node.now)) s.1
  | inr s ↦ h before b s.0 s.1
]

ancestors-fewer : (root : NodeTerm) (above : List Ancestor) (a : Ancestor)
    → AreAncestors root (above ++ a ∷ [])
    → AreAncestors root above × StandsBelow root above a.node.now
ancestors-fewer root above a h = (
  λ before b others e. h before b (others ++ a ∷ [])
      (ap (λ xs. xs ++ a ∷ []) e ∙ append_assoc before (b ∷ others) (a ∷ [])),
  h above a [] refl,
)

-- ---- down

-- the way has come to a node; the range within the node is the one that is looked for
pub record IsDescending (root : NodeTerm) (span : Span) (above : List Ancestor) (n : NodeTerm)
    (within : Span) : Type 0 where
  pub ancestors : AreAncestors root above
  pub here : StandsBelow root above n
  pub start : offset (Node root) (path_below above) + within.start ≡ span.start
  pub end : offset (Node root) (path_below above) + within.end ≡ span.end
  pub search : IsSearching root span (path_below above)

pub descent-begins : (root : NodeTerm) (span : Span) → IsDescending root span [] root span
descent-begins root span = record {
  ancestors = λ before b others e. absurd (no-split before b others e);
  here = refl;
  start = omega (arith, offset-empty (Node root));
  end = omega (arith, offset-empty (Node root));
  search = search-begins root span;
}

same-eqb : (a b c d : ℕ) → (a ≡ b → c ≡ d) → (c ≡ d → a ≡ b) → nat_eq a b ≡ nat_eq c d
same-eqb a b c d f g = by (nat_eq a b) (nat_eq c d) refl refl
  where
    by : (x y : Bool) → nat_eq a b ≡ x → nat_eq c d ≡ y → nat_eq a b ≡ nat_eq c d
    by true y e h = e ∙ sym (eq-eqb c d (f (eqb-true a b e)))
    by false true e h = eq-eqb a b (g (eqb-true c d h)) ∙ sym h
    by false false e h = e ∙ sym h

-- whether it is a list with that range
pub own-list : (n : NodeTerm) (span : Span)
    → is_list_at span n [] ≡ (nat_eq 0 span.start && nat_eq (node_len n) span.end && is_list
    (kind_of (node_kind n)))
own-list n span =
    ap (λ o. nat_eq o span.start && nat_eq (o + node_len n) span.end && is_list
    (kind_of (node_kind n))) (offset-empty (Node n))
    ∙ ap (λ l. nat_eq 0 span.start && nat_eq l span.end && is_list (kind_of (node_kind n)))
    (let none : 0 + node_len n ≡ node_len n = omega arith in none)

and-joins : (a b c : Bool) → (a && b && c) ≡ ((a && b) && c)
and-joins true b c = refl
and-joins false b c = refl

-- as it is looked at: first the range, and then the kind
own-range : (n : NodeTerm) (own span : Span) → own ≡ record { start = 0; end = 0 + node_len n }
    → is_list_at span n [] ≡ ((nat_eq own.start span.start && nat_eq own.end span.end) && is_list
    (kind_of (node_kind n)))
own-range n own span e =
    let none : 0 + node_len n ≡ node_len n = omega arith in
    own-list n span
    ∙ ap (λ l. nat_eq 0 span.start && nat_eq l span.end && is_list (kind_of (node_kind n)))
    (sym none)
    ∙ and-joins (nat_eq 0 span.start) (nat_eq (0 + node_len n) span.end)
    (is_list (kind_of (node_kind n)))
    ∙ ap (λ r. (nat_eq r.start span.start && nat_eq r.end span.end) && is_list
    (kind_of (node_kind n))) (sym e)

pub kind-tells : (n : NodeTerm) (own span : Span) → own ≡ record { start = 0; end = 0 + node_len n }
    → true ≡ (nat_eq own.start span.start && nat_eq own.end span.end)
    → is_list (kind_of (node_kind n)) ≡ is_list_at span n []
kind-tells n own span e same = ap (λ b. b && is_list (kind_of (node_kind n))) same
    ∙ sym (own-range n own span e)

pub other-range : (n : NodeTerm) (own span : Span)
    → own ≡ record { start = 0; end = 0 + node_len n }
    → false ≡ (nat_eq own.start span.start && nat_eq own.end span.end)
    → ◌≡◌ {A = Bool} false (is_list_at span n [])
other-range n own span e other = ap (λ b. b && is_list (kind_of (node_kind n))) other
    ∙ sym (own-range n own span e)

pub list-here : (root : NodeTerm) (span : Span) (above : List Ancestor) (n : NodeTerm)
    (within : Span) → IsDescending root span above n within
    → is_list_at within n [] ≡ is_list_at span root (path_below above)
list-here root span above n within d =
    let p = path_below above in
    let o = offset (Node root) p in
    let kinds = is_list (kind_of (node_kind n)) in
    let size : len_of (subterm (Node root) p) ≡ node_len n = ap len_of d.here in
    own-list n within
    ∙ ap (λ b. b && nat_eq (node_len n) within.end && kinds)
    (same-eqb 0 within.start o span.start (λ e. omega (arith, d.start, e))
    (λ e. omega (arith, d.start, e)))
    ∙ ap (λ b. nat_eq o span.start && b && kinds)
    (same-eqb (node_len n) within.end (o + len_of (subterm (Node root) p)) span.end
    (λ e. omega (arith, d.end, e, size)) (λ e. omega (arith, d.end, e, size)))
    ∙ ap (λ b. nat_eq o span.start && nat_eq (o + len_of (subterm (Node root) p)) span.end && b)
    (sym (ap (is_node_of (λ k. is_list (kind_of k))) d.here))

child-at : (ts us : List Term) (a b c d k : ℕ) → ts ≡ us → a ≡ c → b ≡ d → IsChildAt ts a b k
    → IsChildAt us c d k
child-at ts us a b c d k e f g h = subst (λ x. IsChildAt x c d k) e
    (subst (λ x. IsChildAt ts x d k) f (subst (λ x. IsChildAt ts a x k) g h))

children-here : (root : NodeTerm) (span : Span) (above : List Ancestor) (n : NodeTerm)
    (within : Span) → IsDescending root span above n within
    → children_of (subterm (Node root) (path_below above)) ≡ node_children n
children-here root span above n within d = ap children_of d.here

-- the child at the range within the node is the one at the range
range-child : (root : NodeTerm) (span : Span) (above : List Ancestor) (n : NodeTerm) (within : Span)
    (i : ℕ) → IsDescending root span above n within
    → IsChildAt (node_children n) within.start within.end i
    → IsRangeChild root span (path_below above) (path_below above ++ i ∷ [])
range-child root span above n within i d h =
    let p = path_below above in
    let o = offset (Node root) p in
    record {
      place = i;
      path = refl;
      from = omega (arith, d.start);
      child = child-at (node_children n)
          (children_of (subterm (Node root) p)) within.start within.end (span.start - o)
          (span.end - o) i (sym (children-here root span above n within d)) (omega (arith, d.start))
          (omega (arith, d.end)) h;
    }

no-range-child : (root : NodeTerm) (span : Span) (above : List Ancestor) (n : NodeTerm)
    (within : Span) → IsDescending root span above n within
    → ((k : ℕ) → ¬ IsChildAt (node_children n) within.start within.end k) → (q : Path)
    → ¬ IsRangeChild root span (path_below above) q
no-range-child root span above n within d none q c =
    let p = path_below above in
    let o = offset (Node root) p in
    none c.place (child-at (children_of (subterm (Node root) p)) (node_children n) (span.start - o)
    (span.end - o) within.start within.end c.place (children-here root span above n within d)
    (omega (arith, d.start)) (omega (arith, d.end)) c.child)

subterm-below : (root : NodeTerm) (span : Span) (above : List Ancestor) (n : NodeTerm)
    (within : Span) (i : ℕ) → IsDescending root span above n within
    → subterm (Node root) (path_below above ++ i ∷ []) ≡ slice_get (node_children n) i
subterm-below root span above n within i d =
    subterm-child (Some (Node root)) (path_below above) i
    ∙ ap (λ ts. slice_get ts i) (children-here root span above n within d)

-- the child m of a node on the way, with the range within m
pub record IsNext (n : NodeTerm) (within : Span) (i : ℕ) (m : NodeTerm) (next : Span) : Type 0 where
  pub at : IsChildAt (node_children n) within.start within.end i
  pub child : slice_get (node_children n) i ≡ Some (Node m)
  pub start : child_start (node_children n) i + next.start ≡ within.start
  pub end : child_start (node_children n) i + next.end ≡ within.end

pub descent-goes-on : (root : NodeTerm) (span : Span) (above : List Ancestor) (a : Ancestor)
    (within : Span) (m : NodeTerm) (next : Span) → IsDescending root span above a.node.now within
    → is_list_at within a.node.now [] ≡ false → IsNext a.node.now within a.index m next
    → IsDescending root span (above ++ a ∷ []) m next
unfolding range-child
descent-goes-on root span above a within m next d other g =
    let here = a.node.now in
    let p = path_below above in
    let q = p ++ a.index ∷ [] in
    let at = range-child root span above here within a.index d g.at in
    let there : subterm (Node root) q ≡ Some (Node m) =
    subterm-below root span above here within a.index d ∙ g.child in
    let more = sym (path-more above a) in
    let begin : offset (Node root) q ≡ offset (Node root) p + child_start
    (node_children here) a.index = offset-child root p a.index (range_child-place root span p q at)
    ∙ ap (λ ts. offset (Node root) p + child_start ts a.index)
    (children-here root span above here within d) in
    let goes = search-goes-on span (record { root = root; path = p })
    (record { root = root; path = q }) d.search
    (sym (list-here root span above here within d) ∙ other)
    record { child = at; node = ap is_node there; root = refl } in
    let start : offset (Node root) q + next.start ≡ span.start =
    omega (arith, begin, d.start, g.start) in
    let end : offset (Node root) q + next.end ≡ span.end = omega (arith, begin, d.end, g.end) in
    record {
      ancestors = ancestors-more root above a d.ancestors d.here;
      here = ap (subterm (Node root)) (sym more) ∙ there;
      start = ap (λ r. offset (Node root) r + next.start) (sym more) ∙ start;
      end = ap (λ r. offset (Node root) r + next.end) (sym more) ∙ end;
      search = subst (IsSearching root span) more goes;
    }

-- the child is smaller
pub descent-smaller : (root : NodeTerm) (span : Span) (above : List Ancestor) (a : Ancestor)
    (within : Span) → IsDescending root span above a.node.now within
    → IsChildAt (node_children a.node.now) within.start within.end a.index
    → size_at root (path_below (above ++ a ∷ [])) < size_at root (path_below above)
descent-smaller root span above a within d at =
    let p = path_below above in
    omega (
      arith,
      ap (size_at root) (path-more above a),
      range_child-smaller root span p (p ++ a.index ∷ [])
          (range-child root span above a.node.now within a.index d at),
    )

-- the offset of the child is not behind the start of the range
pub child-before : (ts : List Term) (a b k start : ℕ) → IsChildAt ts a b k
    → start ≡ child_start ts k → start ≤ a
child-before ts a b k start h e = omega (arith, e, (has-range ts a b k h).from)

-- nothing is found where no child is at the range, and where that is a token
pub descent-ends : (root : NodeTerm) (span : Span) (above : List Ancestor) (n : NodeTerm)
    (within : Span) → IsDescending root span above n within → is_list_at within n [] ≡ false
    → ((k : ℕ) → ¬ IsChildAt (node_children n) within.start within.end k)
    → HasNoList root span NotFound
descent-ends root span above n within d other none =
    has-no-list root span (search-ends span
    (record { root = root; path = path_below above }) d.search
    (sym (list-here root span above n within d) ∙ other)
    (no-range-child root span above n within d none))

pub descent-ends-token : (root : NodeTerm) (span : Span) (above : List Ancestor) (n : NodeTerm)
    (within : Span) (i : ℕ) (token : TokenTerm) → IsDescending root span above n within
    → is_list_at within n [] ≡ false → IsChildAt (node_children n) within.start within.end i
    → slice_get (node_children n) i ≡ Some (Token token) → HasNoList root span NotFound
descent-ends-token root span above n within i token d other at child =
    let p = path_below above in
    has-no-list root span (search-ends-token span (record { root = root; path = p }) d.search
    (sym (list-here root span above n within d) ∙ other) record {
      path = p ++ i ∷ [];
      child = range-child root span above n within i d at;
      token = ap is_node (subterm-below root span above n within i d ∙ child);
    })

-- or it ends at the list
and-parts : (a b c : Bool) → (a && b && c) ≡ true → (a ≡ true) × (b ≡ true) × (c ≡ true)
and-parts true true true e = (refl, refl, refl)
and-parts true true false e = absurd cc
and-parts true false c e = absurd cc
and-parts false b c e = absurd cc

pub list-found : (root : NodeTerm) (span : Span) (above : List Ancestor) (n : NodeTerm)
    (within : Span) → IsDescending root span above n within → is_list_at within n [] ≡ true
    → IsListAt root span (record { root = root; path = path_below above })
list-found root span above n within d is =
    let parts = and-parts (nat_eq 0 within.start) (nat_eq (node_len n) within.end)
    (is_list (kind_of (node_kind n))) (sym (own-list n within) ∙ is) in
    let p = path_below above in
    let size : len_of (subterm (Node root) p) ≡ node_len n = ap len_of d.here in
    let start : (range (Node root) p).start ≡ span.start =
    omega (arith, d.start, eqb-true 0 within.start parts.0) in
    let end : (range (Node root) p).end ≡ span.end =
    omega (arith, d.end, size, eqb-true (node_len n) within.end parts.1) in
    record {
      root = refl;
      list = n;
      stands = d.here;
      kind = kind-list (node_kind n) parts.2;
      lies = ap (λ x. record { start = x; end = (range (Node root) p).end }) start
          ∙ ap (λ x. record { start = span.start; end = x }) end;
    }

-- ---- up

-- the new node above, with the new child, makes the same tree as that child in its place
put-above : (root : NodeTerm) (above : List Ancestor) (a : Ancestor) (m : NodeTerm) (u : Term)
    → StandsBelow root above a.node.now
    → m ≡ node_of (node_kind a.node.now) (replaced (node_children a.node.now) a.index u)
    → put (Node root) (path_below above) (Node m) ≡ put (Node root) (path_below (above ++ a ∷ [])) u
put-above root above a m u here e =
    let p = path_below above in
    ap (λ k. put (Node root) p (Node k)) e
    ∙ sym (put-child (Node root) p a.index u (Node a.node.now) here)
    ∙ ap (λ q. put (Node root) q u) (sym (path-more above a))

-- the new node below some of the nodes makes the same tree as the list below all
abbrev pub IsClimbing : List Ancestor → NodeTerm → List Ancestor → NodeTerm → Type 0
IsClimbing all list above green = (root : NodeTerm) → AreAncestors root all
    → AreAncestors root above × (put (Node root) (path_below above) (Node green)
    ≡ put (Node root) (path_below all) (Node list))

pub climb-goes-on : (all : List Ancestor) (list : NodeTerm) (above : List Ancestor) (a : Ancestor)
    (green m : NodeTerm) → IsClimbing all list (above ++ a ∷ []) green
    → m ≡ node_of (node_kind a.node.now) (replaced (node_children a.node.now) a.index (Node green))
    → IsClimbing all list above m
climb-goes-on all list above a green m h e root are =
    let fewer = ancestors-fewer root above a (h root are).0 in
    (fewer.0, put-above root above a m (Node green) fewer.1 e ∙ (h root are).1)

-- where the new children pass a limit, the whole new tree does not fit
pub climb-refused : (all : List Ancestor) (list : NodeTerm) (above : List Ancestor) (a : Ancestor)
    (green : NodeTerm) (e : Fault) → IsClimbing all list (above ++ a ∷ []) green
    → PassesLimit (replaced (node_children a.node.now) a.index (Node green)) e → (root : NodeTerm)
    → AreAncestors root all → ¬ Fits (put (Node root) (path_below all) (Node list))
climb-refused all list above a green e h passes root are =
    let fewer = ancestors-fewer root above a (h root are).0 in
    let p = path_below above in
    subst (λ t. ¬ Fits t) (ap (λ q. put (Node root) q (Node green)) (sym (path-more above a))
    ∙ (h root are).1) (unfit-put (Node root) p a.index a.node.now (Node green) e fewer.1 passes)

-- ---- the list at a range is parsed anew

pub both-ok : {X Y : Type 0} (r : Result X Y) (P Q R : X → Type 0) → ((x : X) → P x → Q x → R x)
    → IfOk r P → IfOk r Q → IfOk r R
both-ok (Ok x) P Q R f p q = f x p q
both-ok (Err y) P Q R f p q = tt

has-list : (tree : NodeTerm) (span : Span) (c : Cursor) → IsListAt tree span c → HasList c
has-list tree span c l = record { old = Node l.list; stands = l.stands; kind = l.kind }

pub reparsed-at : (tree : NodeTerm) (span : Span) (above : List Ancestor) (text : List ℕ)
    (list n : NodeTerm) → IsListAt tree span (record { root = tree; path = path_below above })
    → IsOneList text list → Node n ≡ put (Node tree) (path_below above) (Node list) → FitsNode n
    → IsReparseAt tree span text n
reparsed-at tree span above text list n l one root fits = record {
  list = record { root = tree; path = path_below above };
  at = l;
  reparse = record {
    list = list;
    one = one;
    replacement = record {
      kind = ap (option_map term_kind) l.stands ∙ ap (λ k. Some k) (l.kind ∙ sym one.kind);
      root = root;
      fits = fits;
    };
  };
}

pub no-list-at : (tree : NodeTerm) (span : Span) (above : List Ancestor) (text : List ℕ) (e : Fault)
    → IsListAt tree span (record { root = tree; path = path_below above }) → WhyNoList text e
    → WhyNoReparseAt tree span text e
no-list-at tree span above text e l why other =
    let c : Cursor = record { root = tree; path = path_below above } in
    inr (c, l, no-list c text e (has-list tree span c l) why)

pub no-replacement-at : (tree : NodeTerm) (span : Span) (above : List Ancestor) (text : List ℕ)
    (list : NodeTerm) (e : Fault) → IsListAt tree span
    (record { root = tree; path = path_below above }) → IsOneList text list
    → AreAncestors tree above
    → (e ≢ Memory → (e ≡ TextTooLong) ×
    ((root : NodeTerm) → AreAncestors root above
    → ¬ Fits (put (Node root) (path_below above) (Node list)))) → WhyNoReparseAt tree span text e
no-replacement-at tree span above text list e l one are why other =
    let c : Cursor = record { root = tree; path = path_below above } in
    let refused = why other in
    let same : kind c ≡ Some (node_kind list) = ap (option_map term_kind) l.stands
    ∙ ap (λ k. Some k) (l.kind ∙ sym one.kind) in
    inr (
      c,
      l,
      subst (WhyNoReparse c text) (sym refused.0)
          (no-replacement c text list TextTooLong (has-list tree span c l) one
          (same, refused.1 tree are)),
    )
