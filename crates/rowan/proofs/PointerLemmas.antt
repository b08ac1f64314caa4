-- How a pointer is resolved, node by node: what is found from a node on, and the steps that this
-- takes.
use Rattle.std.proofs.Common.{length-append, ◌≡◌, ℕ, suc, ◌+◌, ◌-◌, ◌<◌, ◌≤◌, List, [], ◌∷◌, length}
use Rattle.std.proofs.Common.{Option, Some, None, refl, sym, ◌∙◌, ap, subst, arith, inl, inr, Bool}
use Rattle.std.proofs.Common.{true, false, cond, ◌&&◌, if◌then◌else◌}
use Rattle.std.specs.Prelude.{min, nat_eq, IsSome}
use Rattle.std.specs.List.{find}
use Rattle.std.proofs.lemmas.Bool.{cases_lt, eq-eqb, true≢false}
use Rattle.std.specs.Option.{option_map, is_some}
use Rattle.rowan_green.specs.declared.utility_types.NodeOrToken.TheVariants.{Node, Token}
use Rattle.rowan_terms.specs.Path.{Path, subterm, range}
use Rattle.rowan_green.specs.Search.{digits}
use Rattle.rowan_green.specs.Span.{Span}
use Rattle.rowan_green.specs.Steps.{Tally, count_limit, one_more}
use Rattle.rowan_green.specs.Term.{NodeTerm, node_kind, Term, term_kind}
use Rattle.rowan_table.specs.Cursor.{Cursor}
use Rattle.rowan_table.specs.Moves.{children_of, child_count, is_node, is_node_at, nodes_at}
use Rattle.rowan_table.specs.Moves.{Element, element_if, cursor_at, parent, parent_path}
use Rattle.rowan_table.specs.Search.{IsRangeChild, IsChain, StandsWhere, FindsChild}
use Rattle.rowan_table.proofs.PathLemmas.{parent_path-child, last-split, subterm-child}
use Rattle.rowan_table.proofs.TableLemmas.{slice_get-some}
use Rattle.rowan.specs.Pointer.{Pointer, means_kind, is_node_of, is_meant, up_to, digits_at}
use Rattle.rowan.specs.Pointer.{IsFirstMeant, CountsVisits, resolves_from, counts_from, Resolves}
use Rattle.rowan.specs.Pointer.{CountsResolving}
use Rattle.rowan.proofs.ChainLemmas.{none-some, follows, token-ends, size_at, range_child-smaller}
use Rattle.rowan.proofs.ChainLemmas.{range_child-place}

-- of an element and what follows it, the nodes up to the first that is meant
abbrev pub visited : (Path → Bool) → NodeTerm → Path → List Path → List Path
visited holds root p chain = nodes_at root (up_to holds (p ∷ chain))

visited-here : (holds : Path → Bool) (root : NodeTerm) (p : Path) (chain : List Path)
    → is_node_at root p ≡ true → holds p ≡ true → visited holds root p chain ≡ p ∷ []
visited-here holds root p chain n h = ap (λ b. nodes_at root (if b then p ∷ [] else p ∷ up_to holds
    chain)) h ∙ ap (λ b. cond b (p ∷ []) []) n

visited-next : (holds : Path → Bool) (root : NodeTerm) (p : Path) (chain : List Path)
    → is_node_at root p ≡ true → holds p ≡ false
    → visited holds root p chain ≡ p ∷ nodes_at root (up_to holds chain)
visited-next holds root p chain n h =
    ap (λ b. nodes_at root (if b then p ∷ [] else p ∷ up_to holds chain)) h
    ∙ ap (λ b. cond b (p ∷ nodes_at root (up_to holds chain)) (nodes_at root (up_to holds chain))) n

visited-token : (holds : Path → Bool) (root : NodeTerm) (q : Path) → is_node_at root q ≡ false
    → holds q ≡ false → nodes_at root (up_to holds (q ∷ [])) ≡ []
visited-token holds root q n h = ap (λ b. nodes_at root (if b then q ∷ [] else q ∷ [])) h
    ∙ ap (λ b. cond b (q ∷ []) []) n

-- a node is visited, whatever follows it
visited-some : (holds : Path → Bool) (root : NodeTerm) (p : Path) (chain : List Path)
    → is_node_at root p ≡ true → 0 < length (visited holds root p chain)
visited-some holds root p chain n = by (holds p) refl
  where
    by : (b : Bool) → holds p ≡ b → 0 < length (visited holds root p chain)
    by true e = omega (arith, ap length (visited-here holds root p chain n e))
    by false e = omega (arith, ap length (visited-next holds root p chain n e))

-- ---- from a node on

-- what a search from the element at p finds, and its steps
pub record Search (means : ℕ → Bool) (span : Span) (root : NodeTerm) (p : Path)
    (found : Option Cursor) (old new : Tally) : Type 0 where
  pub chain : List Path
  pub is : IsChain root span p chain
  pub first : found ≡ option_map (cursor_at root) (find (is_meant means span root) (p ∷ chain))
  pub visits : new.visits ≡ min (old.visits + length (visited (is_meant means span root) root p
      chain)) count_limit
  pub most : new.comparisons ≤ old.comparisons + digits_at root (visited (is_meant means span root)
      root p chain)
  pub least : min (old.comparisons + (length (visited (is_meant means span root) root p chain) - 1))
      count_limit ≤ new.comparisons

find-here : (holds : Path → Bool) (p : Path) (chain : List Path) → holds p ≡ true
    → find holds (p ∷ chain) ≡ Some p
find-here holds p chain h = ap (λ b. cond b (Some p) (find holds chain)) h

find-next : (holds : Path → Bool) (p : Path) (chain : List Path) → holds p ≡ false
    → find holds (p ∷ chain) ≡ find holds chain
find-next holds p chain h = ap (λ b. cond b (Some p) (find holds chain)) h

-- the node itself is found
pub search-here : (means : ℕ → Bool) (span : Span) (root : NodeTerm) (p : Path) (old new : Tally)
    → is_node_at root p ≡ true → is_meant means span root p ≡ true
    → new.visits ≡ one_more old.visits → new.comparisons ≡ old.comparisons
    → Search means span root p (Some (cursor_at root p)) old new
search-here means span root p old new n h v c =
    let rest = follows root span p in
    let is = visited-here (is_meant means span root) root p rest.0 n h in
    record {
      chain = rest.0;
      is = rest.1;
      first = ap (option_map (cursor_at root)) (sym (find-here (is_meant means span root) p rest.0
          h));
      visits = omega (arith, v, ap length is);
      most = omega (arith, c);
      least = omega (arith, c, ap length is);
    }

-- nothing is found where no child is at the range
pub search-none : (means : ℕ → Bool) (span : Span) (root : NodeTerm) (p : Path)
    (old middle new : Tally) → is_node_at root p ≡ true → is_meant means span root p ≡ false
    → ((q : Path) → ¬ IsRangeChild root span p q) → middle.visits ≡ one_more old.visits
    → middle.comparisons ≡ old.comparisons
    → new.visits ≡ middle.visits
    → new.comparisons ≤ middle.comparisons + digits (child_count root p)
    → middle.comparisons ≤ new.comparisons → Search means span root p None old new
search-none means span root p old middle new n h none v c w most least =
    let is = visited-next (is_meant means span root) root p [] n h in
    record {
      chain = [];
      is = none;
      first = ap (option_map (cursor_at root)) (sym (find-next (is_meant means span root) p [] h));
      visits = omega (arith, v, w, ap length is);
      most = omega (arith, c, most, ap (digits_at root) is);
      least = omega (arith, c, least, ap length is);
    }

token-not_meant : (means : ℕ → Bool) (t : Option Term) → is_node t ≡ false
    → is_node_of means t ≡ false
token-not_meant means None e = refl
token-not_meant means (Some (Node n)) e = absurd cc
token-not_meant means (Some (Token t)) e = refl

and-false : (a : Bool) → (a && false) ≡ false
and-false true = refl
and-false false = refl

-- no token is meant
pub not_meant : (means : ℕ → Bool) (span : Span) (root : NodeTerm) (q : Path)
    → is_node_at root q ≡ false → is_meant means span root q ≡ false
not_meant means span root q e =
    let r = range (Node root) q in
    let a = nat_eq r.start span.start && nat_eq r.end span.end in
    ap (λ b. a && b) (token-not_meant means (subterm (Node root) q) e) ∙ and-false a

-- nor where that child is a token
pub search-token : (means : ℕ → Bool) (span : Span) (root : NodeTerm) (p q : Path)
    (old middle new : Tally) → is_node_at root p ≡ true → is_meant means span root p ≡ false
    → IsRangeChild root span p q → is_node_at root q ≡ false → middle.visits ≡ one_more old.visits
    → middle.comparisons ≡ old.comparisons
    → new.visits ≡ middle.visits
    → new.comparisons ≤ middle.comparisons + digits (child_count root p)
    → middle.comparisons ≤ new.comparisons → Search means span root p None old new
search-token means span root p q old middle new n h child token v c w most least =
    let holds = is_meant means span root in
    let no_node = not_meant means span root q token in
    let is = visited-next holds root p (q ∷ []) n h
    ∙ ap (λ qs. p ∷ qs) (visited-token holds root q token no_node) in
    record {
      chain = q ∷ [];
      is = (child, λ r. token-ends root span q r token);
      first = ap (option_map (cursor_at root)) (sym (find-next holds p (q ∷ []) h
          ∙ find-next holds q [] no_node));
      visits = omega (arith, v, w, ap length is);
      most = omega (arith, c, most, ap (digits_at root) is);
      least = omega (arith, c, least, ap length is);
    }

-- from a node that is not meant the search goes on from its child at the range
pub search-next : (means : ℕ → Bool) (span : Span) (root : NodeTerm) (p q : Path)
    (found : Option Cursor) (old middle new last : Tally) → is_node_at root p ≡ true
    → is_meant means span root p ≡ false → IsRangeChild root span p q → is_node_at root q ≡ true
    → middle.visits ≡ one_more old.visits → middle.comparisons ≡ old.comparisons
    → new.visits ≡ middle.visits
    → new.comparisons ≤ middle.comparisons + digits (child_count root p)
    → middle.comparisons ≤ new.comparisons
    → (middle.comparisons < count_limit → middle.comparisons < new.comparisons)
    → Search means span root q found new last → Search means span root p found old last
search-next means span root p q found old middle new last n h child node v c w most least rises s =
    let holds = is_meant means span root in
    let is = visited-next holds root p (q ∷ s.chain) n h in
    let some = visited-some holds root q s.chain node in
    record {
      chain = q ∷ s.chain;
      is = (child, s.is);
      first = s.first ∙ ap (option_map (cursor_at root)) (sym (find-next holds p (q ∷ s.chain) h));
      visits = omega (arith, v, w, s.visits, ap length is);
      most = omega (arith, c, most, s.most, ap (digits_at root) is);
      least = elim (cases_lt middle.comparisons count_limit) [
        | inl l ↦ omega (arith, c, rises l, s.least, some, ap length is)
        | inr full ↦ omega (arith, c, full, least, s.least, some, ap length is)
      ];
    }

pub search-first : (means : ℕ → Bool) (span : Span) (root : NodeTerm) (found : Option Cursor)
    (old new : Tally) → Search means span root [] found old new → IsFirstMeant means span root found
search-first means span root found old new s = record {
  chain = s.chain;
  is = s.is;
  first = s.first;
}

pub search-counts : (means : ℕ → Bool) (span : Span) (root : NodeTerm) (found : Option Cursor)
    (old new : Tally) → Search means span root [] found old new
    → CountsVisits means span root old new
search-counts means span root found old new s = record {
  chain = s.chain;
  is = s.is;
  visits = s.visits;
  most = s.most;
  least = s.least;
}

-- ---- one node

-- a node has a meant kind where the kind that its raw kind means is equal
pub kind-meant : {K : Type 0} (meaning : ℕ → K) (same : K → K → Bool) (k found : K)
    (t : Option Term) → is_node t ≡ true → option_map meaning (option_map term_kind t) ≡ Some found
    → is_node_of (means_kind meaning same k) t ≡ same found k
kind-meant meaning same k found None n e = absurd cc
kind-meant meaning same k found (Some (Token t)) n e = absurd cc
kind-meant meaning same k found (Some (Node m)) n e = let is : meaning (node_kind m) ≡ found =
    cc in ap (λ x. same x k) is

-- a node with the range is meant where its kind is
pub range-meant : (means : ℕ → Bool) (span : Span) (root : NodeTerm) (q : Path)
    → (range (Node root) q).start ≡ span.start → (range (Node root) q).end ≡ span.end
    → is_meant means span root q ≡ is_node_of means (subterm (Node root) q)
range-meant means span root q start end =
    let r = range (Node root) q in
    ap (λ b. b && nat_eq r.end span.end && is_node_of means (subterm (Node root) q))
    (eq-eqb r.start span.start start)
    ∙ ap (λ b. b && is_node_of means (subterm (Node root) q)) (eq-eqb r.end span.end end)

-- ---- the element that is found at the range

pub in-view : {K : Type 0} (p q : Pointer K) (c : Cursor) (found : Option Element) → p ≡ q
    → FindsChild p.range c found → FindsChild q.range c found
in-view p q c found e h = subst (λ x. FindsChild x.range c found) e h

-- a node that is found at the range
pub record FindsNode (span : Span) (c d : Cursor) : Type 0 where
  pub child : IsRangeChild c.root span c.path d.path
  pub node : is_node_at c.root d.path ≡ true
  pub root : d.root ≡ c.root

node-is : (b : Bool) (x d : Cursor) → Node d ≡ element_if b x → (b ≡ true) × (d ≡ x)
node-is true x d e = (refl, cc)
node-is false x d e = absurd cc

pub finds-node : (span : Span) (c d : Cursor) (found : Option Element) → FindsChild span c found
    → found ≡ Some (Node d) → FindsNode span c d
finds-node span c d found h e =
    let s : StandsWhere c.root (IsRangeChild c.root span c.path) (Node d) =
    subst (FindsChild span c) e h in
    let is = node-is (is_node_at c.root s.path) (cursor_at c.root s.path) d s.is in
    let path : d.path ≡ s.path = ap (λ x. x.path) is.1 in
    record {
      child = subst (IsRangeChild c.root span c.path) (sym path) s.true;
      node = ap (is_node_at c.root) path ∙ is.0;
      root = ap (λ x. x.root) is.1;
    }

-- a token that is found at the range
pub record FindsToken (span : Span) (c : Cursor) : Type 0 where
  pub path : Path
  pub child : IsRangeChild c.root span c.path path
  pub token : is_node_at c.root path ≡ false

token-is : (b : Bool) (x d : Cursor) → Token d ≡ element_if b x → b ≡ false
token-is true x d e = absurd cc
token-is false x d e = refl

pub finds-token : (span : Span) (c d : Cursor) (found : Option Element) → FindsChild span c found
    → found ≡ Some (Token d) → FindsToken span c
finds-token span c d found h e =
    let s : StandsWhere c.root (IsRangeChild c.root span c.path) (Token d) =
    subst (FindsChild span c) e h in
    record {
      path = s.path;
      child = s.true;
      token = token-is (is_node_at c.root s.path) (cursor_at c.root s.path) d s.is;
    }

pub finds-none : (span : Span) (c : Cursor) (found : Option Element) → FindsChild span c found
    → found ≡ None → (q : Path) → ¬ IsRangeChild c.root span c.path q
finds-none span c found h e = subst (FindsChild span c) e h

-- the next node on the chain is smaller
pub finds-smaller : (span : Span) (c d : Cursor) → FindsNode span c d
    → size_at d.root d.path < size_at c.root c.path
finds-smaller span c d f = omega (
  arith,
  range_child-smaller c.root span c.path d.path f.child,
  ap (λ r. size_at r d.path) f.root,
)

pub finds-standing : (span : Span) (c d : Cursor) → FindsNode span c d
    → is_node_at d.root d.path ≡ true
finds-standing span c d f = ap (λ r. is_node_at r d.path) f.root ∙ f.node

-- the search from there, as one from the node before
pub search-from : (means : ℕ → Bool) (span : Span) (c d : Cursor) (found : Option Cursor)
    (new last : Tally) → FindsNode span c d → Search means span d.root d.path found new last
    → Search means span c.root d.path found new last
search-from means span c d found new last f s = subst (λ r. Search means span r d.path found new
    last) f.root s

-- ---- where the search begins

-- a cursor without a parent is at a root
pub root-path : (c : Cursor) → parent c ≡ None → c.path ≡ []
root-path c e = elim (last-split c.path) [
  | inl h ↦ h
  | inr s ↦ absurd (none-some (cursor_at c.root s.0) (sym e ∙ ap (option_map (cursor_at c.root))
      (ap parent_path s.2 ∙ parent_path-child s.0 s.1)))
]

pub parent-none : (c : Cursor) (found : Option Cursor) → found ≡ parent c → is_some found ≡ false
    → parent c ≡ None
parent-none c None e n = sym e
parent-none c (Some d) e n = absurd (true≢false n)

pub none-mapped : {A B : Type 0} (f : A → B) (found : Option A) → is_some found ≡ false
    → is_some (option_map f found) ≡ false
none-mapped f None n = n
none-mapped f (Some x) n = n

pub rises-some : {A : Type 0} {P : Type 0} (found : Option A) (x : A) → found ≡ Some x
    → (IsSome found → P) → P
rises-some found x e h = h (subst (λ o. IsSome o) (sym e) refl)

pub top-resolves : (means : ℕ → Bool) (span : Span) (c : Cursor) (found : Option Cursor)
    (old new : Tally) → c.path ≡ [] → Search means span c.root c.path found old new
    → Resolves means span c found
top-resolves means span c found old new top s =
    subst (λ p. resolves_from p means span c.root found) (sym top) (search-first means span c.root
    found old new (subst (λ p. Search means span c.root p found old new) top s))

pub top-counts : (means : ℕ → Bool) (span : Span) (c : Cursor) (found : Option Cursor)
    (old new : Tally) → c.path ≡ [] → Search means span c.root c.path found old new
    → CountsResolving means span c old new
top-counts means span c found old new top s =
    subst (λ p. counts_from p means span c.root old new) (sym top) (search-counts means span c.root
    found old new (subst (λ p. Search means span c.root p found old new) top s))

-- where a cursor has a parent nothing is found, without a step
pub inside-resolves : (means : ℕ → Bool) (span : Span) (c d : Cursor) → parent c ≡ Some d
    → Resolves means span c None
inside-resolves means span c d e = by c.path e
  where
    by : (p : Path) → option_map (cursor_at c.root) (parent_path p) ≡ Some d
        → resolves_from p means span c.root None
    by [] e = absurd (none-some d e)
    by (i ∷ p) e = refl

pub inside-counts : (means : ℕ → Bool) (span : Span) (c d : Cursor) (old new : Tally)
    → parent c ≡ Some d → new ≡ old → CountsResolving means span c old new
inside-counts means span c d old new e same = by c.path e
  where
    by : (p : Path) → option_map (cursor_at c.root) (parent_path p) ≡ Some d
        → counts_from p means span c.root old new
    by [] e = absurd (none-some d e)
    by (i ∷ p) e = same

-- ---- depth

filter-shorter : (root : NodeTerm) (q : Path) (qs : List Path)
    → length (nodes_at root (q ∷ qs)) ≤ suc (length (nodes_at root qs))
filter-shorter root q qs = by (is_node_at root q)
  where
    by : (b : Bool)
        → length (cond b (q ∷ nodes_at root qs) (nodes_at root qs)) ≤ suc
        (length (nodes_at root qs))
    by true = omega arith
    by false = omega arith

chain-stands : (root : NodeTerm) (span : Span) (p q : Path) → IsRangeChild root span p q
    → (t : Term) × (subterm (Node root) q ≡ Some t) × (length q ≡ suc (length p))
chain-stands root span p q c =
    let t = slice_get-some (children_of (subterm (Node root) p)) c.place (range_child-place root
    span p q c) in (
      t.0,
      ap (subterm (Node root)) c.path ∙ subterm-child (Some (Node root)) p c.place ∙ t.1,
      omega (arith, ap length c.path, length-append p (c.place ∷ [])),
    )

visited-deep : (holds : Path → Bool) (root : NodeTerm) (span : Span) (d : ℕ)
    → ((q : Path) (t : Term) → subterm (Node root) q ≡ Some t → length q ≤ d)
    → (chain : List Path) (p : Path) (t : Term) → subterm (Node root) p ≡ Some t
    → IsChain root span p chain
    → length (nodes_at root (up_to holds (p ∷ chain))) + length p ≤ suc d
visited-deep holds root span d deep [] p t there c = by (holds p)
  where
    by : (b : Bool) → length (nodes_at root (if b then p ∷ [] else p ∷ [])) + length p ≤ suc d
    by true = omega (arith, filter-shorter root p [], deep p t there)
    by false = omega (arith, filter-shorter root p [], deep p t there)
visited-deep holds root span d deep (q ∷ qs) p t there c =
    let s = chain-stands root span p q c.0 in
    by (holds p) s.2 (visited-deep holds root span d deep qs q s.0 s.1 c.1)
  where
    by : (b : Bool) → length q ≡ suc (length p)
        → length (nodes_at root (up_to holds (q ∷ qs))) + length q ≤ suc d
        → length (nodes_at root (if b then p ∷ [] else p ∷ up_to holds (q ∷ qs))) + length p ≤ suc d
    by true next rest = omega (arith, filter-shorter root p [], deep p t there)
    by false next rest = omega (arith, filter-shorter root p (up_to holds (q ∷ qs)), next, rest)

-- a search visits at most one node more than the longest path has places
pub visited-depth : (holds : Path → Bool) (root : NodeTerm) (span : Span) (chain : List Path)
    (d : ℕ) → IsChain root span [] chain
    → ((q : Path) (t : Term) → subterm (Node root) q ≡ Some t → length q ≤ d)
    → length (nodes_at root (up_to holds ([] ∷ chain))) ≤ d + 1
visited-depth holds root span chain d c deep = omega (
  arith,
  visited-deep holds root span d deep chain [] (Node root) refl c,
)
