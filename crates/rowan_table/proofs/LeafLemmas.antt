-- Laws of passes over the elements of a tree: how what is left goes on from an element to the next,
-- and what it has to do with the moves to tokens.
use Rattle.std.proofs.Common.{◌≡◌, ℕ, zero, suc, ◌+◌, ◌<◌, ◌≤◌, Bool, true, false, cond, inl, inr}
use Rattle.std.proofs.Common.{List, [], ◌∷◌, ◌++◌, map, length, filter, Option, Some, None, take}
use Rattle.std.proofs.Common.{drop, reverse, refl, sym, ◌∙◌, ap, arith, append_assoc, drop-cons}
use Rattle.std.specs.Prelude.{slice_get}
use Rattle.std.specs.List.{find}
use Rattle.std.proofs.lemmas.Bool.{cond-true, cond-false}
use Rattle.std.proofs.lemmas.List.{append-nil, map-append, map-id, drop_all, take_all}
use Rattle.std.proofs.lemmas.List.{reverse-append}
use Rattle.std.proofs.lemmas.List.Elements.{filter-append}
use Rattle.std.proofs.lemmas.Option.{slice_get_within, get_or_from_slice_get}
use Rattle.std.proofs.lemmas.Simd.{map-map}
use Rattle.rowan_green.specs.declared.utility_types.NodeOrToken.TheVariants.{Node, Token}
use Rattle.rowan_green.specs.Term.{NodeTerm, node, Forest, empty, node_then, token_then, Term}
use Rattle.rowan_green.specs.Term.{terms, node_children}
use Rattle.rowan_terms.specs.Path.{Path, term_children, subterm_of, subterm, below_place}
use Rattle.rowan_terms.specs.Path.{node_leaves, leaves_from, stands_before, begins}
use Rattle.rowan_table.specs.Moves.{children_of, leaf_paths, first_at, first_leaf_path}
use Rattle.rowan_table.specs.Moves.{last_leaf_path, next_leaf_path, prev_leaf_path}
use Rattle.rowan_table.specs.Pass.{Lists, below_children, of_some, after, before, since}
use Rattle.rowan_table.specs.Pass.{since_child, until, until_child, leaf_list, elements_from}
use Rattle.rowan_table.specs.Pass.{node_elements, element_list}
use Rattle.rowan_terms.proofs.OffsetLemmas.{before_at_less, before_at_same, before_at_greater}
use Rattle.rowan_table.proofs.PathLemmas.{begins-same, not-begins, subterm-child}

-- Steps.
pub map_below : (p : Path) (i : ℕ) (qs : List Path)
    → map (λ q. p ++ q) (map (λ q. i ∷ q) qs) ≡ map (λ q. (p ++ i ∷ []) ++ q) qs
map_below p i [] = refl
map_below p i (q ∷ qs) = ap (λ u. u ∷ map (λ q. p ++ q) (map (λ q. i ∷ q) qs))
    (sym (append_assoc p (i ∷ []) q)) ∙ ap (λ us. ((p ++ i ∷ []) ++ q) ∷ us) (map_below p i qs)

after-here : (g : Lists) (t : Option Term) → after g t [] ≡ []
after-here g None = refl
after-here g (Some t) = refl

-- behind a child stand the later children, and then what stands behind its node
pub after-child : (g : Lists) (t : Option Term) (p : Path) (i : ℕ)
    → after g t (p ++ i ∷ []) ≡ since_child g t p (suc i)
after-child g None [] i = refl
after-child g None (j ∷ p) i = refl
after-child g (Some t) [] i =
    let ls = below_children g (suc i) (drop (suc i) (term_children t)) in
    ap (λ us. map (λ q. i ∷ q) us ++ ls) (after-here g (slice_get (term_children t) i))
    ∙ sym (append-nil (map (λ q. q) ls) ∙ map-id ls)
after-child g (Some t) (j ∷ p) i =
    let u = slice_get (term_children t) j in
    let own = below_children g (suc i) (drop (suc i) (children_of (subterm_of u p))) in
    let ls = below_children g (suc j) (drop (suc j) (term_children t)) in
    ap (λ us. map (λ q. j ∷ q) us ++ ls) (after-child g u p i)
    ∙ ap (λ us. us ++ ls) (map-append (λ q. j ∷ q) (map (λ q. p ++ q) own) (after g u p)
    ∙ ap (λ us. us ++ map (λ q. j ∷ q) (after g u p)) (map-map (λ q. j ∷ q) (λ q. p ++ q) own))
    ∙ append_assoc (map (λ q. (j ∷ p) ++ q) own) (map (λ q. j ∷ q) (after g u p)) ls

-- from the child at a place on is from that child on
pub since_child-child : (g : Lists) (t : Option Term) (p : Path) (i : ℕ) (c : Term)
    → slice_get (children_of (subterm_of t p)) i ≡ Some c
    → since_child g t p i ≡ since g t (p ++ i ∷ [])
since_child-child g t p i c e =
    let ts = children_of (subterm_of t p) in
    let own = map (λ q. i ∷ q) (g c) in
    let ls = below_children g (suc i) (drop (suc i) ts) in
    let there : subterm_of t (p ++ i ∷ []) ≡ Some c = subterm-child t p i ∙ e in
    let here : drop i ts ≡ c ∷ drop (suc i) ts = drop-cons ts i c (slice_get_within ts i c e)
    ∙ ap (λ u. u ∷ drop (suc i) ts) (get_or_from_slice_get ts i c c e) in
    ap (λ us. map (λ q. p ++ q) (below_children g i us) ++ after g t p) here
    ∙ ap (λ us. us ++ after g t p) (map-append (λ q. p ++ q) own ls)
    ∙ append_assoc (map (λ q. p ++ q) own) (map (λ q. p ++ q) ls) (after g t p)
    ∙ ap (λ us. map (λ q. p ++ q) own ++ us) (sym (after-child g t p i))
    ∙ ap (λ us. us ++ after g t (p ++ i ∷ [])) (map_below p i (g c))
    ∙ ap (λ u. map (λ q. (p ++ i ∷ []) ++ q) (of_some g u) ++ after g t (p ++ i ∷ [])) (sym there)

-- where no child is at the place or later, only what stands behind the node is left
pub since_child-none : (g : Lists) (t : Option Term) (p : Path) (i : ℕ)
    → length (children_of (subterm_of t p)) ≤ i → since_child g t p i ≡ after g t p
since_child-none g t p i h = ap (λ us. map (λ q. p ++ q) (below_children g i us) ++ after g t p)
    (drop_all i (children_of (subterm_of t p)) h)

before-here : (g : Lists) (t : Option Term) → before g t [] ≡ []
before-here g None = refl
before-here g (Some t) = refl

-- before a child stand what stands before its node, and then the earlier children
pub before-child : (g : Lists) (t : Option Term) (p : Path) (i : ℕ)
    → before g t (p ++ i ∷ []) ≡ until_child g t p i
before-child g None [] zero = refl
before-child g None [] (suc i) = refl
before-child g None (j ∷ p) zero = refl
before-child g None (j ∷ p) (suc i) = refl
before-child g (Some t) [] i =
    let ls = below_children g 0 (take i (term_children t)) in
    ap (λ us. ls ++ map (λ q. i ∷ q) us) (before-here g (slice_get (term_children t) i))
    ∙ append-nil ls ∙ sym (map-id ls)
before-child g (Some t) (j ∷ p) i =
    let u = slice_get (term_children t) j in
    let own = below_children g 0 (take i (children_of (subterm_of u p))) in
    let ls = below_children g 0 (take j (term_children t)) in
    ap (λ us. ls ++ map (λ q. j ∷ q) us) (before-child g u p i)
    ∙ ap (λ us. ls ++ us) (map-append (λ q. j ∷ q) (before g u p) (map (λ q. p ++ q) own)
    ∙ ap (λ us. map (λ q. j ∷ q) (before g u p) ++ us) (map-map (λ q. j ∷ q) (λ q. p ++ q) own))
    ∙ sym (append_assoc ls (map (λ q. j ∷ q) (before g u p)) (map (λ q. (j ∷ p) ++ q) own))

below_children-take : (g : Lists) (m i : ℕ) (ts : List Term) (c : Term) → slice_get ts i ≡ Some c
    → below_children g m (take (suc i) ts) ≡ below_children g m (take i ts)
    ++ map (λ q. (m + i) ∷ q) (g c)
below_children-take g m i [] c e = absurd cc
below_children-take g m zero (t ∷ ts) c e =
    let same : t ≡ c = cc in
    let place : m ≡ m + 0 = omega arith in
    append-nil (map (λ q. m ∷ q) (g t)) ∙ ap (λ u. map (λ q. m ∷ q) (g u)) same
    ∙ ap (λ k. map (λ q. k ∷ q) (g c)) place
below_children-take g m (suc i) (t ∷ ts) c e =
    let place : suc m + i ≡ m + suc i = omega arith in
    ap (λ us. map (λ q. m ∷ q) (g t) ++ us) (below_children-take g (suc m) i ts c e
    ∙ ap (λ k. below_children g (suc m) (take i ts) ++ map (λ q. k ∷ q) (g c)) place)
    ∙ sym (append_assoc (map (λ q. m ∷ q) (g t)) (below_children g (suc m) (take i ts))
    (map (λ q. (m + suc i) ∷ q) (g c)))

-- up to behind the child at a place is up to that child, itself included
pub until_child-child : (g : Lists) (t : Option Term) (p : Path) (i : ℕ) (c : Term)
    → slice_get (children_of (subterm_of t p)) i ≡ Some c
    → until_child g t p (suc i) ≡ until g t (p ++ i ∷ [])
until_child-child g t p i c e =
    let ts = children_of (subterm_of t p) in
    let ls = below_children g 0 (take i ts) in
    let place : 0 + i ≡ i = omega arith in
    let there : subterm_of t (p ++ i ∷ []) ≡ Some c = subterm-child t p i ∙ e in
    ap (λ us. before g t p ++ map (λ q. p ++ q) us)
    (below_children-take g 0 i ts c e ∙ ap (λ k. ls ++ map (λ q. k ∷ q) (g c)) place)
    ∙ ap (λ us. before g t p ++ us) (map-append (λ q. p ++ q) ls (map (λ q. i ∷ q) (g c))
    ∙ ap (λ us. map (λ q. p ++ q) ls ++ us) (map_below p i (g c)))
    ∙ sym (append_assoc (before g t p) (map (λ q. p ++ q) ls) (map (λ q. (p ++ i ∷ []) ++ q) (g c)))
    ∙ ap (λ us. us ++ map (λ q. (p ++ i ∷ []) ++ q) (g c)) (sym (before-child g t p i))
    ∙ ap (λ u. before g t (p ++ i ∷ []) ++ map (λ q. (p ++ i ∷ []) ++ q) (of_some g u)) (sym there)

pub until_child-none : (g : Lists) (t : Option Term) (p : Path) → until_child g t p 0 ≡ before g t p
until_child-none g t p = append-nil (before g t p)

-- up to behind the last child is up to the node's end
pub until_child-all : (g : Lists) (t : Option Term) (p : Path) (i : ℕ)
    → length (children_of (subterm_of t p)) ≤ i
    → until_child g t p i ≡ before g t p ++ map (λ q. p ++ q)
    (below_children g 0 (children_of (subterm_of t p)))
until_child-all g t p i h = ap (λ us. before g t p ++ map (λ q. p ++ q) (below_children g 0 us))
    (take_all i (children_of (subterm_of t p)) h)

-- The leaves of a node are those of its children, and so with its elements.
leaves_from-list : (m : ℕ) (f : Forest) → map (λ l. l.0) (leaves_from m f)
    ≡ below_children leaf_list m (terms f)
leaves_from-list m empty = refl
leaves_from-list m (node_then n f) =
    let place : m + 1 ≡ suc m = omega arith in
    map-append (λ l. l.0) (map (below_place m) (node_leaves n)) (leaves_from (m + 1) f)
    ∙ ap (λ us. us ++ map (λ l. l.0) (leaves_from (m + 1) f))
    (map-map (λ l. l.0) (below_place m) (node_leaves n)
    ∙ sym (map-map (λ q. m ∷ q) (λ l. l.0) (node_leaves n)))
    ∙ ap (λ us. map (λ q. m ∷ q) (leaf_list (Node n)) ++ us)
    (ap (λ k. map (λ l. l.0) (leaves_from k f)) place ∙ leaves_from-list (suc m) f)
leaves_from-list m (token_then t f) =
    let place : m + 1 ≡ suc m = omega arith in
    ap (λ us. (m ∷ []) ∷ us) (ap (λ k. map (λ l. l.0) (leaves_from k f)) place
    ∙ leaves_from-list (suc m) f)

elements_from-list : (m : ℕ) (f : Forest) → elements_from m f
    ≡ below_children element_list m (terms f)
elements_from-list m empty = refl
elements_from-list m (node_then n f) = ap (λ us. map (λ q. m ∷ q) (node_elements n) ++ us)
    (elements_from-list (suc m) f)
elements_from-list m (token_then t f) = ap (λ us. (m ∷ []) ∷ us) (elements_from-list (suc m) f)

pub leaf_list-node : (n : NodeTerm) → leaf_list (Node n)
    ≡ below_children leaf_list 0 (node_children n)
leaf_list-node (node k f) = leaves_from-list 0 f

-- the elements of a term are itself and those of its children
pub element_list-term : (t : Term) → element_list t
    ≡ [] ∷ below_children element_list 0 (term_children t)
element_list-term (Node (node k f)) = ap (λ us. [] ∷ us) (elements_from-list 0 f)
element_list-term (Token t) = refl

-- What a test keeps of a row: it says one thing of each place before one place, another of each
-- behind it.
pub filter_same : (P Q : Path → Bool) (i : ℕ) (qs : List Path) → ((q : Path) → P (i ∷ q) ≡ Q q)
    → filter P (map (λ q. i ∷ q) qs) ≡ map (λ q. i ∷ q) (filter Q qs)
filter_same P Q i [] h = refl
filter_same P Q i (q ∷ qs) h = ap (λ b. cond b ((i ∷ q) ∷ filter P (map (λ q. i ∷ q) qs))
    (filter P (map (λ q. i ∷ q) qs))) (h q) ∙ by (Q q) (filter_same P Q i qs h)
  where
    by : (b : Bool) → filter P (map (λ q. i ∷ q) qs) ≡ map (λ q. i ∷ q) (filter Q qs)
        → cond b ((i ∷ q) ∷ filter P (map (λ q. i ∷ q) qs)) (filter P (map (λ q. i ∷ q) qs))
        ≡ map (λ q. i ∷ q) (cond b (q ∷ filter Q qs) (filter Q qs))
    by true e = ap (λ us. (i ∷ q) ∷ us) e
    by false e = e

filter_const : (P : Path → Bool) (b : Bool) (i : ℕ) (qs : List Path) → ((q : Path) → P (i ∷ q) ≡ b)
    → filter P (map (λ q. i ∷ q) qs) ≡ cond b (map (λ q. i ∷ q) qs) []
filter_const P true i [] h = refl
filter_const P false i [] h = refl
filter_const P true i (q ∷ qs) h = cond-true (P (i ∷ q)) ((i ∷ q) ∷ filter P (map (λ q. i ∷ q) qs))
    (filter P (map (λ q. i ∷ q) qs)) (h q) ∙ ap (λ us. (i ∷ q) ∷ us) (filter_const P true i qs h)
filter_const P false i (q ∷ qs) h = cond-false (P (i ∷ q))
    ((i ∷ q) ∷ filter P (map (λ q. i ∷ q) qs)) (filter P (map (λ q. i ∷ q) qs)) (h q)
    ∙ filter_const P false i qs h

joined : (b : Bool) (xs ys : List Path) → cond b xs [] ++ cond b ys [] ≡ cond b (xs ++ ys) []
joined true xs ys = refl
joined false xs ys = refl

pub filter_row-const : (g : Lists) (P : Path → Bool) (b : Bool) (m : ℕ) (ts : List Term)
    → ((j : ℕ) (q : Path) → m ≤ j → P (j ∷ q) ≡ b)
    → filter P (below_children g m ts) ≡ cond b (below_children g m ts) []
filter_row-const g P true m [] h = refl
filter_row-const g P false m [] h = refl
filter_row-const g P b m (t ∷ ts) h =
    let own = map (λ q. m ∷ q) (g t) in
    filter-append P own (below_children g (suc m) ts)
    ∙ ap (λ us. us ++ filter P (below_children g (suc m) ts))
    (filter_const P b m (g t) (λ q. h m q (omega arith)))
    ∙ ap (λ us. cond b own [] ++ us) (filter_row-const g P b (suc m) ts
    (λ j q l. h j q (omega arith))) ∙ joined b own (below_children g (suc m) ts)

none_of : (b : Bool) → ◌≡◌ {A = List Path} [] (cond b [] [])
none_of true = refl
none_of false = refl

pub filter-below_children : (g : Lists) (P Q : Path → Bool) (b c : Bool) (m d i : ℕ)
    (ts : List Term) → i ≡ m + d → ((j : ℕ) (q : Path) → j < i → P (j ∷ q) ≡ b)
    → ((q : Path) → P (i ∷ q) ≡ Q q) → ((j : ℕ) (q : Path) → i < j → P (j ∷ q) ≡ c)
    → filter P (below_children g m ts) ≡ cond b (below_children g m (take d ts)) []
    ++ (map (λ q. i ∷ q) (filter Q (of_some g (slice_get ts d)))
    ++ cond c (below_children g (suc i) (drop (suc d) ts)) [])
filter-below_children g P Q b c m zero i [] e less same more = none_of c
    ∙ ap (λ us. us ++ cond c [] []) (none_of b)
filter-below_children g P Q b c m (suc d) i [] e less same more = none_of c
    ∙ ap (λ us. us ++ cond c [] []) (none_of b)
filter-below_children g P Q b c m zero i (t ∷ ts) e less same more =
    let place : m ≡ i = omega arith in
    ap (λ k. filter P (below_children g k (t ∷ ts))) place
    ∙ filter-append P (map (λ q. i ∷ q) (g t)) (below_children g (suc i) ts)
    ∙ ap (λ us. us ++ filter P (below_children g (suc i) ts)) (filter_same P Q i (g t) same)
    ∙ ap (λ us. map (λ q. i ∷ q) (filter Q (g t)) ++ us)
    (filter_row-const g P c (suc i) ts (λ j q l. more j q (omega arith)))
    ∙ ap (λ us. us ++ (map (λ q. i ∷ q) (filter Q (g t))
    ++ cond c (below_children g (suc i) ts) [])) (none_of b)
filter-below_children g P Q b c m (suc d) i (t ∷ ts) e less same more =
    let own = map (λ q. m ∷ q) (g t) in
    let ls = below_children g (suc m) (take d ts) in
    let us = map (λ q. i ∷ q) (filter Q (of_some g (slice_get ts d)))
    ++ cond c (below_children g (suc i) (drop (suc d) ts)) [] in
    filter-append P own (below_children g (suc m) ts)
    ∙ ap (λ vs. vs ++ filter P (below_children g (suc m) ts))
    (filter_const P b m (g t) (λ q. less m q (omega arith)))
    ∙ ap (λ vs. cond b own [] ++ vs) (filter-below_children g P Q b c (suc m) d i ts (omega arith)
    less same more) ∙ sym (append_assoc (cond b own []) (cond b ls []) us)
    ∙ ap (λ vs. vs ++ us) (joined b own ls)

-- The leaves that a path begins, those that it stands before, and those that stand before it.
pub filter_all : (P : Path → Bool) (qs : List Path) → ((q : Path) → P q ≡ true) → filter P qs ≡ qs
filter_all P [] h = refl
filter_all P (q ∷ qs) h = cond-true (P q) (q ∷ filter P qs) (filter P qs) (h q)
    ∙ ap (λ us. q ∷ us) (filter_all P qs h)

filter_none : (P : Path → Bool) (qs : List Path) → ((q : Path) → P q ≡ false) → filter P qs ≡ []
filter_none P [] h = refl
filter_none P (q ∷ qs) h = cond-false (P q) (q ∷ filter P qs) (filter P qs) (h q)
    ∙ filter_none P qs h

pub leaves-below : (t : Option Term) (p : Path)
    → filter (begins p) (of_some leaf_list t)
    ≡ map (λ q. p ++ q) (of_some leaf_list (subterm_of t p))
leaves-below None p = refl
leaves-below (Some t) [] = filter_all (begins []) (leaf_list t) (λ q. refl)
    ∙ sym (map-id (leaf_list t))
leaves-below (Some (Token t)) (i ∷ p) = refl
leaves-below (Some (Node n)) (i ∷ p) =
    let u = slice_get (node_children n) i in
    ap (filter (begins (i ∷ p))) (leaf_list-node n)
    ∙ filter-below_children leaf_list (begins (i ∷ p)) (begins p) false false 0 i i
    (node_children n) (omega arith) (λ j q l. not-begins i j p q (inr l)) (λ q. begins-same i p q)
    (λ j q l. not-begins i j p q (inl l)) ∙ append-nil
    (map (λ q. i ∷ q) (filter (begins p) (of_some leaf_list u)))
    ∙ ap (map (λ q. i ∷ q)) (leaves-below u p)
    ∙ map-map (λ q. i ∷ q) (λ q. p ++ q) (of_some leaf_list (subterm_of u p))

pub leaves-behind : (t : Option Term) (p : Path)
    → filter (λ q. stands_before p q) (of_some leaf_list t) ≡ since_child leaf_list t p 0
leaves-behind None p = refl
leaves-behind (Some (Token t)) [] = refl
leaves-behind (Some (Token t)) (i ∷ p) = refl
leaves-behind (Some (Node n)) [] =
    let ls = below_children leaf_list 0 (node_children n) in
    ap (filter (λ q. stands_before [] q)) (leaf_list-node n)
    ∙ filter_row-const leaf_list (λ q. stands_before [] q) true 0 (node_children n) (λ j q l. refl)
    ∙ sym (append-nil (map (λ q. q) ls) ∙ map-id ls)
leaves-behind (Some (Node n)) (i ∷ p) =
    let u = slice_get (node_children n) i in
    let own = below_children leaf_list 0 (children_of (subterm_of u p)) in
    let ls = below_children leaf_list (suc i) (drop (suc i) (node_children n)) in
    ap (filter (λ q. stands_before (i ∷ p) q)) (leaf_list-node n)
    ∙ filter-below_children leaf_list (λ q. stands_before (i ∷ p) q) (λ q. stands_before p q) false
    true 0 i i (node_children n) (omega arith) (λ j q l. before_at_greater i j p q l)
    (λ q. before_at_same i p q) (λ j q l. before_at_less i j p q l)
    ∙ ap (λ us. map (λ q. i ∷ q) us ++ ls) (leaves-behind u p)
    ∙ ap (λ us. us ++ ls) (map-append (λ q. i ∷ q) (map (λ q. p ++ q) own) (after leaf_list u p)
    ∙ ap (λ us. us ++ map (λ q. i ∷ q) (after leaf_list u p))
    (map-map (λ q. i ∷ q) (λ q. p ++ q) own))
    ∙ append_assoc (map (λ q. (i ∷ p) ++ q) own) (map (λ q. i ∷ q) (after leaf_list u p)) ls

pub leaves-before : (t : Option Term) (p : Path) (c : Term) → subterm_of t p ≡ Some c
    → filter (λ q. stands_before q p) (of_some leaf_list t) ≡ before leaf_list t p
leaves-before None p c e = absurd cc
leaves-before (Some t) [] c e = filter_none (λ q. stands_before q []) (leaf_list t) (λ q. none q)
  where
    none : (q : Path) → stands_before q [] ≡ false
    none [] = refl
    none (i ∷ q) = refl
leaves-before (Some (Token t)) (i ∷ p) c e = absurd cc
leaves-before (Some (Node n)) (i ∷ p) c e =
    let u = slice_get (node_children n) i in
    let ls = below_children leaf_list 0 (take i (node_children n)) in
    ap (filter (λ q. stands_before q (i ∷ p))) (leaf_list-node n)
    ∙ filter-below_children leaf_list (λ q. stands_before q (i ∷ p)) (λ q. stands_before q p) true
    false 0 i i (node_children n) (omega arith) (λ j q l. before_at_less j i q p l)
    (λ q. before_at_same i q p) (λ j q l. before_at_greater j i q p l)
    ∙ ap (λ us. ls ++ us) (append-nil (map (λ q. i ∷ q)
    (filter (λ q. stands_before q p) (of_some leaf_list u)))
    ∙ ap (map (λ q. i ∷ q)) (leaves-before u p c e))

-- The first that passes is the first of those that pass, from either end.
pub find-first : (P : Path → Bool) (qs : List Path) → find P qs ≡ first_at (filter P qs)
find-first P [] = refl
find-first P (q ∷ qs) = by (P q) (find-first P qs)
  where
    by : (b : Bool) → find P qs ≡ first_at (filter P qs)
        → cond b (Some q) (find P qs) ≡ first_at (cond b (q ∷ filter P qs) (filter P qs))
    by true e = refl
    by false e = e

filter-reverse : (P : Path → Bool) (qs : List Path) → filter P (reverse qs) ≡ reverse (filter P qs)
filter-reverse P [] = refl
filter-reverse P (q ∷ qs) =
    ap (filter P) (reverse-append (q ∷ []) qs) ∙ filter-append P (reverse qs) (q ∷ [])
    ∙ ap (λ us. us ++ filter P (q ∷ [])) (filter-reverse P qs) ∙ by (P q)
  where
    by : (b : Bool) → reverse (filter P qs) ++ cond b (q ∷ []) []
        ≡ reverse (cond b (q ∷ filter P qs) (filter P qs))
    by true = sym (reverse-append (q ∷ []) (filter P qs))
    by false = append-nil (reverse (filter P qs))

abbrev pub last_at : List Path → Option Path
last_at qs = first_at (reverse qs)

pub find-last : (P : Path → Bool) (qs : List Path) → find P (reverse qs) ≡ last_at (filter P qs)
find-last P qs = find-first P (reverse qs) ∙ ap first_at (filter-reverse P qs)

pub first_leaf-below : (root : NodeTerm) (p : Path)
    → first_leaf_path root p ≡ first_at (map (λ q. p ++ q)
    (of_some leaf_list (subterm (Node root) p)))
first_leaf-below root p = find-first (begins p) (leaf_paths (Node root))
    ∙ ap first_at (leaves-below (Some (Node root)) p)

pub last_leaf-below : (root : NodeTerm) (p : Path)
    → last_leaf_path root p ≡ last_at (map (λ q. p ++ q)
    (of_some leaf_list (subterm (Node root) p)))
last_leaf-below root p = find-last (begins p) (leaf_paths (Node root))
    ∙ ap last_at (leaves-below (Some (Node root)) p)

pub next_leaf-since_child : (root : NodeTerm) (p : Path)
    → next_leaf_path root p ≡ first_at (since_child leaf_list (Some (Node root)) p 0)
next_leaf-since_child root p = find-first (λ q. stands_before p q) (leaf_paths (Node root))
    ∙ ap first_at (leaves-behind (Some (Node root)) p)

pub prev_leaf-before : (root : NodeTerm) (p : Path) (c : Term) → subterm (Node root) p ≡ Some c
    → prev_leaf_path root p ≡ last_at (before leaf_list (Some (Node root)) p)
prev_leaf-before root p c e = find-last (λ q. stands_before q p) (leaf_paths (Node root))
    ∙ ap last_at (leaves-before (Some (Node root)) p c e)
