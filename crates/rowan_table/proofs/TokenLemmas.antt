-- From an element to the next one: what the answers of single moves mean for a pass over the
-- elements.
use Rattle.std.proofs.Common.{◌≡◌, ◌≢◌, ℕ, zero, suc, ◌+◌, ◌-◌, ◌<◌, true, false, List, [], ◌∷◌}
use Rattle.std.proofs.Common.{◌++◌, map, length, filter, Option, Some, None, take, drop, reverse}
use Rattle.std.proofs.Common.{inl, inr, refl, sym, ◌∙◌, ap, arith, length-append, append_assoc}
use Rattle.std.specs.Prelude.{slice_get}
use Rattle.std.proofs.lemmas.Bool.{cases_lt, true≢false, cond-true, cond-false}
use Rattle.std.proofs.lemmas.List.{append-nil, length-take, reverse-append, same_from_push}
use Rattle.std.proofs.lemmas.List.Elements.{filter-append}
use Rattle.std.proofs.lemmas.Option.{none-some, same_Some, slice_get_past}
use Rattle.rowan_green.specs.declared.utility_types.NodeOrToken.TheVariants.{Node, Token}
use Rattle.rowan_green.specs.Term.{NodeTerm, Term}
use Rattle.rowan_terms.specs.Path.{Path, term_children, subterm, begins}
use Rattle.rowan_table.specs.Moves.{parent_path, children_of, numbers, below, child_count}
use Rattle.rowan_table.specs.Moves.{child_paths, following, preceding, is_node, is_node_at}
use Rattle.rowan_table.specs.Moves.{first_at, first_leaf_path, last_leaf_path, next_leaf_path}
use Rattle.rowan_table.specs.Moves.{prev_leaf_path, first_node_at}
use Rattle.rowan_table.specs.Pass.{Lists, below_children, of_some, after, before, since}
use Rattle.rowan_table.specs.Pass.{since_child, until, until_child, leaf_list, element_list}
use Rattle.rowan_table.specs.Pass.{ComesBehind, ComesNext, ComesBefore, ComesBack, first_inside}
use Rattle.rowan_table.specs.Pass.{last_inside}
use Rattle.rowan_table.specs.Table.{IsTable, green_of, entry_index, root_node, entry_path, Facts}
use Rattle.rowan_table.proofs.PathLemmas.{last-split, parent_path-child, following-child}
use Rattle.rowan_table.proofs.PathLemmas.{preceding-child, begins-rest, begins-own, begins-same}
use Rattle.rowan_table.proofs.PathLemmas.{not-begins, subterm-child, below-first, below-none}
use Rattle.rowan_table.proofs.LeafLemmas.{after-child, since_child-child, since_child-none}
use Rattle.rowan_table.proofs.LeafLemmas.{before-child, until_child-child, until_child-none}
use Rattle.rowan_table.proofs.LeafLemmas.{until_child-all, leaf_list-node, element_list-term}
use Rattle.rowan_table.proofs.LeafLemmas.{filter_same, filter_row-const, filter-below_children}
use Rattle.rowan_table.proofs.LeafLemmas.{find-first, find-last, last_at, first_leaf-below}
use Rattle.rowan_table.proofs.LeafLemmas.{last_leaf-below, next_leaf-since_child, prev_leaf-before}
use Rattle.rowan_table.proofs.RowLemmas.{map-reverse, row-last}
use Rattle.rowan_table.proofs.TableLemmas.{slice_get-some, index_above, entry_path-child, is_entry}
use Rattle.rowan_table.proofs.TableLemmas.{content-some}

-- The last of a list of children.
below-back : (p : Path) (n : ℕ) → reverse (below p (numbers 0 (suc n)))
    ≡ (p ++ n ∷ []) ∷ reverse (below p (numbers 0 n))
below-back p n =
    let e : 0 + n ≡ n = omega arith in
    row-last (λ i. p ++ i ∷ []) 0 n ∙ ap (λ k. (p ++ k ∷ []) ∷ reverse (below p (numbers 0 n))) e

below-last : (p : Path) (n : ℕ) (s : Path) → Some s ≡ first_at (reverse (below p (numbers 0 n)))
    → (j : ℕ) × (n ≡ suc j) × (s ≡ p ++ j ∷ [])
below-last p zero s h = absurd cc
below-last p (suc j) s h = (j, refl, same_Some s (p ++ j ∷ []) (h ∙ ap first_at (below-back p j)))

below-last_none : (p : Path) (n : ℕ) → ◌≡◌ {A = Option Path} None
    (first_at (reverse (below p (numbers 0 n)))) → n ≡ 0
below-last_none p zero h = refl
below-last_none p (suc j) h =
    absurd (none-some (p ++ j ∷ []) (h ∙ ap first_at (below-back p j)))

nearest : (p : Path) (n : ℕ) → first_at (below p (reverse (numbers 0 n)))
    ≡ first_at (reverse (below p (numbers 0 n)))
nearest p n = ap first_at (map-reverse (λ i. p ++ i ∷ []) (numbers 0 n))

-- Inside an element.
pub begins-longer : (top p q : Path) → begins top p ≡ true → begins top (p ++ q) ≡ true
begins-longer top p q h =
    let r = begins-rest top p h in
    ap (λ u. begins top (u ++ q)) r.1 ∙ ap (begins top) (append_assoc top r.0 q)
    ∙ begins-own top (r.0 ++ q)

pub inside-child : (top p s : Path) (i : ℕ) → begins top p ≡ true → s ≡ p ++ i ∷ []
    → begins top s ≡ true
inside-child top p s i h e = ap (begins top) e ∙ begins-longer top p (i ∷ []) h

pub inside-parent : (top p q : Path) (i : ℕ) → begins top p ≡ true → p ≢ top → p ≡ q ++ i ∷ []
    → begins top q ≡ true
inside-parent top p q i h apart e =
    let r = begins-rest top p h in
    elim (last-split r.0) [
      | inl x ↦ absurd (apart (r.1 ∙ ap (λ u. top ++ u) x ∙ append-nil top))
      | inr x ↦ ap (begins top) (same_from_push q (top ++ x.0) i x.1
          (sym e ∙ r.1 ∙ ap (λ u. top ++ u) x.2 ∙ sym (append_assoc top x.0 (x.1 ∷ [])))).0
          ∙ begins-own top x.0
    ]

-- Where a path has a sibling behind it, or before it.
pub record HasBehind (root : NodeTerm) (p s : Path) : Type 0 where
  pub parent : Path
  pub place : ℕ
  pub here : p ≡ parent ++ place ∷ []
  pub there : s ≡ parent ++ suc place ∷ []
  pub count : suc place < child_count root parent

pub has_behind : (root : NodeTerm) (p s : Path) → Some s ≡ first_at (following root p)
    → HasBehind root p s
has_behind root p s h = elim (last-split p) [
  | inl e ↦ absurd (none-some s (sym (h ∙ ap (λ u. first_at (following root u)) e)))
  | inr t ↦ (
      let f = below-first t.0 (t.1 + 1) (child_count root t.0 - (t.1 + 1)) s
      (h ∙ ap (λ u. first_at (following root u)) t.2
      ∙ ap first_at (following-child root t.0 t.1)) in
      let e : t.1 + 1 ≡ suc t.1 = omega arith in
      record {
        parent = t.0;
        place = t.1;
        here = t.2;
        there = f.0 ∙ ap (λ k. t.0 ++ k ∷ []) e;
        count = omega (arith, f.1);
      })
]

pub record HasBefore (root : NodeTerm) (p s : Path) : Type 0 where
  pub parent : Path
  pub place : ℕ
  pub here : p ≡ parent ++ suc place ∷ []
  pub there : s ≡ parent ++ place ∷ []

pub has_before : (root : NodeTerm) (p s : Path) → Some s ≡ first_at (preceding root p)
    → HasBefore root p s
has_before root p s h = elim (last-split p) [
  | inl e ↦ absurd (none-some s (sym (h ∙ ap (λ u. first_at (preceding root u)) e)))
  | inr t ↦ (
      let f = below-last t.0 t.1 s (h ∙ ap (λ u. first_at (preceding root u)) t.2
      ∙ ap first_at (preceding-child root t.0 t.1) ∙ nearest t.0 t.1) in
      record { parent = t.0; place = f.0; here = t.2 ∙ ap (λ k. t.0 ++ k ∷ []) f.1; there = f.2 })
]

-- What stands behind a path is its next sibling, and then what stands behind that one. It is the
-- same of what stands before.
pub following-next : (root : NodeTerm) (p s : Path) → Some s ≡ first_at (following root p)
    → following root p ≡ s ∷ following root s
following-next root p s h =
    let t = has_behind root p s h in
    let q = t.parent in
    let i = t.place in
    let rest = child_count root q - (suc i + 1) in
    let left : child_count root q - (i + 1) ≡ suc rest = omega (arith, t.count) in
    let place : i + 1 ≡ suc i = omega arith in
    ap (following root) t.here ∙ following-child root q i
    ∙ ap (λ n. below q (numbers (i + 1) n)) left
    ∙ ap (λ k. below q (numbers k (suc rest))) place
    ∙ ap (λ u. u ∷ below q (numbers (suc i + 1) rest)) (sym t.there)
    ∙ ap (λ us. s ∷ us) (sym (ap (following root) t.there ∙ following-child root q (suc i)))

pub preceding-next : (root : NodeTerm) (p s : Path) → Some s ≡ first_at (preceding root p)
    → preceding root p ≡ s ∷ preceding root s
preceding-next root p s h =
    let t = has_before root p s h in
    let q = t.parent in
    let i = t.place in
    ap (preceding root) t.here ∙ preceding-child root q (suc i)
    ∙ map-reverse (λ k. q ++ k ∷ []) (numbers 0 (suc i)) ∙ below-back q i
    ∙ ap (λ us. (q ++ i ∷ []) ∷ us) (sym (map-reverse (λ k. q ++ k ∷ []) (numbers 0 i)))
    ∙ ap (λ u. u ∷ below q (reverse (numbers 0 i))) (sym t.there)
    ∙ ap (λ us. s ∷ us) (sym (ap (preceding root) t.there ∙ preceding-child root q i))

-- the first node of some paths is the first of them, or else the first node of the others
pub node_first : (root : NodeTerm) (s : Path) (ps qs : List Path) → ps ≡ s ∷ qs
    → is_node_at root s ≡ true → first_node_at root ps ≡ Some s
node_first root s ps qs e is =
    ap (first_node_at root) e
    ∙ cond-true (is_node_at root s) (Some s) (first_node_at root qs) is

pub node_later : (root : NodeTerm) (s : Path) (ps qs : List Path) → ps ≡ s ∷ qs
    → is_node_at root s ≡ false → first_node_at root ps ≡ first_node_at root qs
node_later root s ps qs e is =
    ap (first_node_at root) e
    ∙ cond-false (is_node_at root s) (Some s) (first_node_at root qs) is

pub no_node : (root : NodeTerm) (ps : List Path) → ◌≡◌ {A = Option Path} None (first_at ps)
    → None ≡ first_node_at root ps
no_node root [] h = refl
no_node root (p ∷ ps) h = absurd cc

-- a sibling is as much inside as its neighbour
pub behind-inside : (root : NodeTerm) (top p s : Path) → begins top p ≡ true → p ≢ top
    → Some s ≡ first_at (following root p) → begins top s ≡ true
behind-inside root top p s h apart e =
    let t = has_behind root p s e in
    inside-child top t.parent s (suc t.place) (inside-parent top p t.parent t.place h apart t.here)
    t.there

pub before-inside : (root : NodeTerm) (top p s : Path) → begins top p ≡ true → p ≢ top
    → Some s ≡ first_at (preceding root p) → begins top s ≡ true
before-inside root top p s h apart e =
    let t = has_before root p s e in
    inside-child top t.parent s t.place (inside-parent top p t.parent (suc t.place) h apart t.here)
    t.there

-- the parent of what is inside, and not the element itself
pub split-parent : (p q : Path) → Some q ≡ parent_path p → (i : ℕ) × (p ≡ q ++ i ∷ [])
split-parent p q h = elim (last-split p) [
  | inl e ↦ absurd (none-some q (sym (h ∙ ap parent_path e)))
  | inr t ↦ (
      let e : q ≡ t.0 = same_Some q t.0 (h ∙ ap parent_path t.2 ∙ parent_path-child t.0 t.1) in
      (t.1, t.2 ∙ ap (λ u. u ++ t.1 ∷ []) (sym e)))
]

pub parent-inside : (top p q : Path) → begins top p ≡ true → p ≢ top → Some q ≡ parent_path p
    → begins top q ≡ true
parent-inside top p q h apart e = let t = split-parent p q e in
    inside-parent top p q t.0 h apart t.1

pub no_parent : (p : Path) → ◌≡◌ {A = Option Path} None (parent_path p) → p ≡ []
no_parent p h = elim (last-split p) [
  | inl e ↦ e
  | inr t ↦ absurd (none-some t.0 (h ∙ ap parent_path t.2 ∙ parent_path-child t.0 t.1))
]

-- Steps of a pass.
pub next_behind : (root : NodeTerm) (p s : Path) → Some s ≡ first_at (following root p)
    → ComesBehind root p s
next_behind root p s h =
    let t = has_behind root p s h in
    let c = slice_get-some (children_of (subterm (Node root) t.parent)) (suc t.place) t.count in
    record {
      same = λ g. ap (since g (Some (Node root))) t.there
          ∙ sym (since_child-child g (Some (Node root)) t.parent (suc t.place) c.0 c.1)
          ∙ sym (after-child g (Some (Node root)) t.parent t.place)
          ∙ ap (after g (Some (Node root))) (sym t.here);
    }

pub next_before : (root : NodeTerm) (p s : Path) (u : Term) → subterm (Node root) s ≡ Some u
    → Some s ≡ first_at (preceding root p) → ComesBefore root p s
next_before root p s u there h =
    let t = has_before root p s h in
    let child : slice_get (children_of (subterm (Node root) t.parent)) t.place ≡ Some u =
    sym (subterm-child (Some (Node root)) t.parent t.place) ∙ ap (subterm (Node root)) (sym t.there)
    ∙ there in
    record {
      same = λ g. ap (until g (Some (Node root))) t.there
          ∙ sym (until_child-child g (Some (Node root)) t.parent t.place u child)
          ∙ sym (before-child g (Some (Node root)) t.parent (suc t.place))
          ∙ ap (before g (Some (Node root))) (sym t.here);
    }

pub climb_behind : (root : NodeTerm) (p q : Path)
    → ◌≡◌ {A = Option Path} None (first_at (following root p)) → Some q ≡ parent_path p
    → (g : Lists) → after g (Some (Node root)) p ≡ after g (Some (Node root)) q
climb_behind root p q h e g =
    let t = split-parent p q e in
    let none = below-none q (t.0 + 1) (child_count root q - (t.0 + 1))
    (h ∙ ap (λ u. first_at (following root u)) t.1 ∙ ap first_at (following-child root q t.0)) in
    ap (after g (Some (Node root))) t.1 ∙ after-child g (Some (Node root)) q t.0
    ∙ since_child-none g (Some (Node root)) q (suc t.0) (omega (arith, none))

pub climb_before : (root : NodeTerm) (p q : Path)
    → ◌≡◌ {A = Option Path} None (first_at (preceding root p)) → Some q ≡ parent_path p
    → (g : Lists) → before g (Some (Node root)) p ≡ before g (Some (Node root)) q
climb_before root p q h e g =
    let t = split-parent p q e in
    let none = below-last_none q t.0 (h ∙ ap (λ u. first_at (preceding root u)) t.1
    ∙ ap first_at (preceding-child root q t.0) ∙ nearest q t.0) in
    ap (before g (Some (Node root))) t.1 ∙ before-child g (Some (Node root)) q t.0
    ∙ ap (until_child g (Some (Node root)) q) none ∙ until_child-none g (Some (Node root)) q

pub first_child-inside : (root : NodeTerm) (top p s : Path) → begins top p ≡ true
    → Some s ≡ first_at (child_paths root p) → begins top s ≡ true
first_child-inside root top p s h e = inside-child top p s 0 h
    (below-first p 0 (child_count root p) s e).0

pub last_child-inside : (root : NodeTerm) (top p s : Path) → begins top p ≡ true
    → Some s ≡ first_at (reverse (child_paths root p)) → begins top s ≡ true
last_child-inside root top p s h e = let t = below-last p (child_count root p) s e in
    inside-child top p s t.0 h t.2

pub next_child : (root : NodeTerm) (p s : Path) → Some s ≡ first_at (child_paths root p)
    → ComesNext root p s
next_child root p s h =
    let f = below-first p 0 (child_count root p) s h in
    let c = slice_get-some (children_of (subterm (Node root) p)) 0 f.1 in
    record {
      same = λ g. ap (since g (Some (Node root))) f.0
          ∙ sym (since_child-child g (Some (Node root)) p 0 c.0 c.1);
    }

pub no_child-since_child : (root : NodeTerm) (p : Path)
    → ◌≡◌ {A = Option Path} None (first_at (child_paths root p)) → (g : Lists)
    → since_child g (Some (Node root)) p 0 ≡ after g (Some (Node root)) p
no_child-since_child root p h g = since_child-none g (Some (Node root)) p 0
    (omega (arith, below-none p 0 (child_count root p) h))

pub next_no_child : (root : NodeTerm) (p s : Path)
    → ◌≡◌ {A = Option Path} None (first_at (child_paths root p)) → ComesBehind root p s
    → ComesNext root p s
next_no_child root p s h b = record { same = λ g. b.same g ∙ sym (no_child-since_child root p h g) }

pub back_child : (root : NodeTerm) (p s : Path) → Some s ≡ first_at (reverse (child_paths root p))
    → ComesBack root p s
back_child root p s h =
    let t = below-last p (child_count root p) s h in
    let c = slice_get-some (children_of (subterm (Node root) p)) t.0 (omega (arith, t.1)) in
    record {
      same = λ g. ap (until g (Some (Node root))) t.2
          ∙ sym (until_child-child g (Some (Node root)) p t.0 c.0 c.1)
          ∙ ap (until_child g (Some (Node root)) p) (sym t.1);
    }

pub no_child-until_child : (root : NodeTerm) (p : Path)
    → ◌≡◌ {A = Option Path} None (first_at (reverse (child_paths root p))) → (g : Lists)
    → until_child g (Some (Node root)) p (child_count root p) ≡ before g (Some (Node root)) p
no_child-until_child root p h g = ap (until_child g (Some (Node root)) p)
    (below-last_none p (child_count root p) h) ∙ until_child-none g (Some (Node root)) p

pub back_no_child : (root : NodeTerm) (p s : Path)
    → ◌≡◌ {A = Option Path} None (first_at (reverse (child_paths root p))) → ComesBefore root p s
    → ComesBack root p s
back_no_child root p s h b = record { same = λ g. b.same g ∙ sym (no_child-until_child root p h g) }

-- Nothing behind an element is below it, nor before it.
pub after-outside : (g : Lists) (t : Option Term) (p : Path) → filter (begins p) (after g t p) ≡ []
after-outside g None p = refl
after-outside g (Some t) [] = refl
after-outside g (Some t) (i ∷ p) =
    let own = after g (slice_get (term_children t) i) p in
    let ls = below_children g (suc i) (drop (suc i) (term_children t)) in
    filter-append (begins (i ∷ p)) (map (λ q. i ∷ q) own) ls
    ∙ ap (λ us. us ++ filter (begins (i ∷ p)) ls)
    (filter_same (begins (i ∷ p)) (begins p) i own (λ q. begins-same i p q)
    ∙ ap (map (λ q. i ∷ q)) (after-outside g (slice_get (term_children t) i) p))
    ∙ filter_row-const g (begins (i ∷ p)) false (suc i) (drop (suc i) (term_children t))
    (λ j q l. not-begins i j p q (inl (omega arith)))

before-outside : (g : Lists) (t : Option Term) (p : Path) → filter (begins p) (before g t p) ≡ []
before-outside g None p = refl
before-outside g (Some t) [] = refl
before-outside g (Some t) (i ∷ p) =
    let own = before g (slice_get (term_children t) i) p in
    let ts = take i (term_children t) in
    let past : slice_get ts i ≡ None = slice_get_past ts i
    (omega (arith, length-take i (term_children t))) in
    filter-append (begins (i ∷ p)) (below_children g 0 ts) (map (λ q. i ∷ q) own)
    ∙ ap (λ us. us ++ filter (begins (i ∷ p)) (map (λ q. i ∷ q) own))
    (filter-below_children g (begins (i ∷ p)) (begins p) false false 0 i i ts (omega arith)
    (λ j q l. not-begins i j p q (inr l)) (λ q. begins-same i p q)
    (λ j q l. not-begins i j p q (inl l)) ∙ ap (λ o. map (λ q. i ∷ q)
    (filter (begins p) (of_some g o)) ++ []) past)
    ∙ filter_same (begins (i ∷ p)) (begins p) i own (λ q. begins-same i p q)
    ∙ ap (map (λ q. i ∷ q)) (before-outside g (slice_get (term_children t) i) p)

pub first_inside-after : (g : Lists) (t : Option Term) (p : Path)
    → first_inside p (after g t p) ≡ None
first_inside-after g t p = find-first (begins p) (after g t p) ∙ ap first_at (after-outside g t p)

pub last_inside-before : (g : Lists) (t : Option Term) (p : Path)
    → last_inside p (before g t p) ≡ None
last_inside-before g t p = find-last (begins p) (before g t p) ∙ ap last_at (before-outside g t p)

pub all_below : (p : Path) (qs : List Path) → filter (begins p) (map (λ q. p ++ q) qs)
    ≡ map (λ q. p ++ q) qs
all_below p [] = refl
all_below p (q ∷ qs) = cond-true (begins p (p ++ q))
    ((p ++ q) ∷ filter (begins p) (map (λ q. p ++ q) qs)) (filter (begins p) (map (λ q. p ++ q) qs))
    (begins-own p q) ∙ ap (λ us. (p ++ q) ∷ us) (all_below p qs)

-- The moves to tokens, as what a pass finds.
pub first_leaf-pass : (root : NodeTerm) (p : Path)
    → first_inside p (since leaf_list (Some (Node root)) p) ≡ first_leaf_path root p
first_leaf-pass root p =
    let own = map (λ q. p ++ q) (of_some leaf_list (subterm (Node root) p)) in
    let ls = after leaf_list (Some (Node root)) p in
    find-first (begins p) (own ++ ls) ∙ ap first_at
    (filter-append (begins p) own ls ∙ ap (λ us. us ++ filter (begins p) ls)
    (all_below p (of_some leaf_list (subterm (Node root) p)))
    ∙ ap (λ us. own ++ us) (after-outside leaf_list (Some (Node root)) p) ∙ append-nil own)
    ∙ sym (first_leaf-below root p)

pub last_leaf-pass : (root : NodeTerm) (p : Path)
    → last_inside p (until leaf_list (Some (Node root)) p) ≡ last_leaf_path root p
last_leaf-pass root p =
    let own = map (λ q. p ++ q) (of_some leaf_list (subterm (Node root) p)) in
    let ls = before leaf_list (Some (Node root)) p in
    find-last (begins p) (ls ++ own) ∙ ap last_at
    (filter-append (begins p) ls own ∙ ap (λ us. us ++ filter (begins p) own)
    (before-outside leaf_list (Some (Node root)) p)
    ∙ all_below p (of_some leaf_list (subterm (Node root) p))) ∙ sym (last_leaf-below root p)

first_inside-root : (qs : List Path) → first_inside [] qs ≡ first_at qs
first_inside-root [] = refl
first_inside-root (q ∷ qs) = refl

pub next_leaf-pass : (root : NodeTerm) (p : Path)
    → first_inside [] (since_child leaf_list (Some (Node root)) p 0) ≡ next_leaf_path root p
next_leaf-pass root p = first_inside-root (since_child leaf_list (Some (Node root)) p 0)
    ∙ sym (next_leaf-since_child root p)

pub prev_leaf-pass : (root : NodeTerm) (p : Path) (c : Term) → subterm (Node root) p ≡ Some c
    → last_inside [] (before leaf_list (Some (Node root)) p) ≡ prev_leaf_path root p
prev_leaf-pass root p c e = first_inside-root (reverse (before leaf_list (Some (Node root)) p))
    ∙ sym (prev_leaf-before root p c e)

-- At a node the pass goes on below it, and has one element less before it; at a token it has found
-- it.
entered_node : (t : Option Term) → is_node t ≡ true
    → of_some leaf_list t ≡ below_children leaf_list 0 (children_of t)
entered_node None h = absurd (true≢false (sym h))
entered_node (Some (Token t)) h = absurd (true≢false (sym h))
entered_node (Some (Node n)) h = leaf_list-node n

entered_elements : (t : Option Term) → is_node t ≡ true
    → of_some element_list t ≡ [] ∷ below_children element_list 0 (children_of t)
entered_elements None h = absurd (true≢false (sym h))
entered_elements (Some t) h = element_list-term t

pub found_token : (t : Option Term) (c : Term) → t ≡ Some c → is_node t ≡ false
    → of_some leaf_list t ≡ [] ∷ []
found_token None c e h = absurd cc
found_token (Some (Node n)) c e h = absurd (true≢false h)
found_token (Some (Token t)) c e h = refl

pub since-node : (root : NodeTerm) (p : Path) → is_node_at root p ≡ true
    → since leaf_list (Some (Node root)) p ≡ since_child leaf_list (Some (Node root)) p 0
since-node root p h = ap (λ us. map (λ q. p ++ q) us ++ after leaf_list (Some (Node root)) p)
    (entered_node (subterm (Node root) p) h)

pub since-fewer : (root : NodeTerm) (p : Path) → is_node_at root p ≡ true
    → length (since_child element_list (Some (Node root)) p 0)
    < length (since element_list (Some (Node root)) p)
since-fewer root p h =
    let e = ap (λ us. map (λ q. p ++ q) us ++ after element_list (Some (Node root)) p)
    (entered_elements (subterm (Node root) p) h) in
    omega (arith, ap length e)

pub until-node : (root : NodeTerm) (p : Path) → is_node_at root p ≡ true
    → until leaf_list (Some (Node root)) p ≡ until_child leaf_list (Some (Node root)) p
    (child_count root p)
until-node root p h = ap (λ us. before leaf_list (Some (Node root)) p ++ map (λ q. p ++ q) us)
    (entered_node (subterm (Node root) p) h) ∙ sym
    (until_child-all leaf_list (Some (Node root)) p (child_count root p) (omega arith))

pub until-fewer : (root : NodeTerm) (p : Path) → is_node_at root p ≡ true
    → length (until_child element_list (Some (Node root)) p (child_count root p))
    < length (until element_list (Some (Node root)) p)
until-fewer root p h =
    let ls = before element_list (Some (Node root)) p in
    let us = below_children element_list 0 (children_of (subterm (Node root) p)) in
    let e = ap (λ us. ls ++ map (λ q. p ++ q) us) (entered_elements (subterm (Node root) p) h) in
    omega (
      arith,
      ap length e,
      length-append ls (map (λ q. p ++ q) ([] ∷ us)),
      ap length (until_child-all element_list (Some (Node root)) p (child_count root p)
          (omega arith)),
      length-append ls (map (λ q. p ++ q) us),
    )

pub token-first : (root : NodeTerm) (top p : Path) (c : Term) → subterm (Node root) p ≡ Some c
    → is_node_at root p ≡ false → begins top p ≡ true
    → Some p ≡ first_inside top (since leaf_list (Some (Node root)) p)
token-first root top p c e h inside =
    let ls = after leaf_list (Some (Node root)) p in
    sym (ap (λ us. first_inside top (map (λ q. p ++ q) us ++ ls))
    (found_token (subterm (Node root) p) c e h) ∙ ap (λ q. first_inside top (q ∷ ls)) (append-nil p)
    ∙ cond-true (begins top p) (Some p) (first_inside top ls) inside)

pub token-last : (root : NodeTerm) (top p : Path) (c : Term) → subterm (Node root) p ≡ Some c
    → is_node_at root p ≡ false → begins top p ≡ true
    → Some p ≡ last_inside top (until leaf_list (Some (Node root)) p)
token-last root top p c e h inside =
    let ls = before leaf_list (Some (Node root)) p in
    sym (ap (λ us. last_inside top (ls ++ map (λ q. p ++ q) us))
    (found_token (subterm (Node root) p) c e h)
    ∙ ap (λ q. last_inside top (ls ++ q ∷ [])) (append-nil p)
    ∙ ap (first_inside top) (reverse-append ls (p ∷ []))
    ∙ cond-true (begins top p) (Some p) (first_inside top (reverse ls)) inside)

-- Entries with one path have one number.
ends_apart : (p : Path) (i : ℕ) → p ++ i ∷ [] ≡ [] → ⊥
ends_apart [] i e = cc
ends_apart (j ∷ p) i e = cc

same_number : (es : List Facts) → IsTable es → (k m n : ℕ) → m < k → m < length es → n < length es
    → entry_path es m ≡ entry_path es n → m ≡ n
same_number es f zero m n b i j h = absurd (omega arith)
same_number es f (suc k) m n b i j h =
    let d = slice_get-some es m i in
    let e = slice_get-some es n j in
    elim (cases_lt 0 m) [
      | inl x ↦ elim (cases_lt 0 n) [
        | inl y ↦ (
            let ends = same_from_push (entry_path es d.0.parent) (entry_path es e.0.parent)
            (entry_index es m d.0) (entry_index es n e.0)
            (sym (entry_path-child es f m d.0 d.1 x) ∙ h ∙ entry_path-child es f n e.0 e.1 y) in
            let less : d.0.parent < m = f.earlier m d.0 d.1 x in
            let lesser : e.0.parent < n = f.earlier n e.0 e.1 y in
            let parents : d.0.parent ≡ e.0.parent =
            same_number es f k d.0.parent e.0.parent (omega arith) (omega arith) (omega arith)
            ends.0 in
            let above = slice_get-some es d.0.parent (omega arith) in
            let one = f.parents m d.0 above.0 d.1 x above.1 in
            let other = f.parents n e.0 above.0 e.1 y (ap (slice_get es) (sym parents) ∙ above.1) in
            omega (
              arith,
              one.place,
              other.place,
              ends.1,
              index_above es m d.0 above.0 above.1,
              index_above es n e.0 above.0 (ap (slice_get es) (sym parents) ∙ above.1),
            ))
        | inr y ↦ (
            let zero_n : n ≡ 0 = omega arith in
            absurd (ends_apart (entry_path es d.0.parent) (entry_index es m d.0)
            (sym (entry_path-child es f m d.0 d.1 x) ∙ h ∙ ap (entry_path es) zero_n)))
      ]
      | inr x ↦ elim (cases_lt 0 n) [
        | inl y ↦ (
            let zero_m : m ≡ 0 = omega arith in
            absurd (ends_apart (entry_path es e.0.parent) (entry_index es n e.0)
            (sym (entry_path-child es f n e.0 e.1 y) ∙ sym h ∙ ap (entry_path es) zero_m)))
        | inr y ↦ omega arith
      ]
    ]

pub apart_paths : (es : List Facts) → IsTable es → (m n : ℕ) → m < length es → n < length es → m ≢ n
    → entry_path es m ≢ entry_path es n
apart_paths es t m n i j apart h = apart (same_number es t (suc m) m n (omega arith) i j h)

-- something stands at each path of a table
pub stands_at : (es : List Facts) → IsTable es → (n : ℕ) → n < length es
    → (u : Term) × (subterm (Node (root_node es)) (entry_path es n) ≡ Some u)
stands_at es t n i =
    let e = slice_get-some es n i in
    content-some (subterm (Node (root_node es)) (entry_path es n)) (green_of e.0)
    (is_entry es t n e.0 e.1).green
