-- Laws of tables: what the local facts say of the paths that are read off by going up.
use Rattle.std.proofs.Common.{◌≡◌, true, false, ℕ, zero, suc, ◌+◌, ◌-◌, ◌<◌, ◌≤◌, List, [], ◌∷◌}
use Rattle.std.proofs.Common.{◌++◌, map, reverse, length, Option, Some, None, refl, sym, ◌∙◌, ap}
use Rattle.std.proofs.Common.{subst, arith}
use Rattle.std.specs.Prelude.{slice_get}
use Rattle.std.specs.Option.{option_map, option_map_or}
use Rattle.std.proofs.lemmas.Option.{slice_get_within, none-some, same_Some}
use Rattle.rowan_green.specs.declared.utility_types.NodeOrToken.TheVariants.{Node, Token}
use Rattle.rowan_green.specs.Fits.{byte_limit}
use Rattle.rowan_green.specs.Lent.{into_node}
use Rattle.rowan_green.specs.Search.{child_start}
use Rattle.rowan_green.specs.Term.{NodeTerm, Term, term_len, sum_of_lens}
use Rattle.rowan_terms.specs.Path.{Path, subterm, offset, len_of, term_children}
use Rattle.rowan_terms.proofs.Paths.{offset-empty}
use Rattle.rowan_green.proofs.SearchLemmas.{child_start-le_all}
use Rattle.rowan_table.specs.Cursor.{last_index}
use Rattle.rowan_table.specs.Moves.{is_node_at, numbers, below, child_count, children_of, is_node}
use Rattle.rowan_table.specs.Moves.{child_paths, first_at, following, preceding}
use Rattle.rowan_table.specs.Table.{root_node, green_of, entry_index, children_in, len_in}
use Rattle.rowan_table.specs.Table.{path_within, entry_path, IsTop, IsChildOf, IsTable, IsRow}
use Rattle.rowan_table.specs.Table.{IsRowBack, Describes, Facts}
use Rattle.rowan_table.proofs.RowLemmas.{map-reverse, first_split, last_split, empty_row}
use Rattle.rowan_table.proofs.PathLemmas.{subterm-child, offset-child, last_index-child}
use Rattle.rowan_table.proofs.PathLemmas.{following-child, preceding-child, child_start-next}
use Rattle.rowan_table.proofs.PathLemmas.{node_len-children}

-- ---- lists

pub slice_get-some : {A : Type 0} (xs : List A) (i : ℕ) → i < length xs
    → (x : A) × (slice_get xs i ≡ Some x)
slice_get-some [] i h = absurd (omega arith)
slice_get-some (x ∷ xs) zero h = (x, refl)
slice_get-some (x ∷ xs) (suc i) h = slice_get-some xs i (omega arith)

-- ---- lengths

pub sum_of_lens-children : (t : Term) → sum_of_lens (term_children t) ≤ term_len t
sum_of_lens-children (Node n) = omega (arith, node_len-children n)
sum_of_lens-children (Token t) = omega arith

child_end-within : (ts : List Term) (i : ℕ) (t : Term) → slice_get ts i ≡ Some t
    → child_start ts i + term_len t ≤ sum_of_lens ts
child_end-within ts i t e =
    omega (
      arith,
      child_start-next ts i (slice_get_within ts i t e),
      ap len_of e,
      child_start-le_all ts (i + 1),
    )

-- where a child ends, its parent has not ended before
pub child_end : (u : Term) (i : ℕ) (t : Term) → slice_get (term_children u) i ≡ Some t
    → child_start (term_children u) i + term_len t ≤ term_len u
child_end u i t e =
    omega (arith, child_end-within (term_children u) i t e, sum_of_lens-children u)

-- ---- what an entry keeps

content-children : (o : Option Term) (g : Option NodeTerm) → option_map into_node o ≡ Some g
    → children_of o ≡ children_in g
content-children None g e = absurd cc
content-children (Some (Node n)) g e = ap children_in (same_Some (Some n) g e)
content-children (Some (Token t)) g e = ap children_in (same_Some None g e)

pub content-some : (o : Option Term) (g : Option NodeTerm) → option_map into_node o ≡ Some g
    → (u : Term) × (o ≡ Some u)
content-some None g e = absurd cc
content-some (Some u) g e = (u, refl)

pub content-none : (o : Option Term) → option_map into_node o ≡ Some None → is_node o ≡ false
content-none None e = absurd cc
content-none (Some (Node n)) e = absurd cc
content-none (Some (Token t)) e = refl

pub kept_within : (ts : List Term) (i : ℕ) (g : Option NodeTerm)
    → option_map into_node (slice_get ts i) ≡ Some g → i < length ts
kept_within [] i g e = absurd cc
kept_within (t ∷ ts) zero g e = omega arith
kept_within (t ∷ ts) (suc i) g e = omega (arith, kept_within ts i g e)

-- ---- paths

same_step : (es : List Facts) (f g : ℕ → Path) (n : ℕ) → IsTable es → ((m : ℕ) → m < n → f m ≡ g m)
    → 0 < n → (o : Option Facts) → slice_get es n ≡ o
    → option_map_or (λ e. f e.parent ++ entry_index es n e ∷ []) o []
    ≡ option_map_or (λ e. g e.parent ++ entry_index es n e ∷ []) o []
same_step es f g n t same h None e = refl
same_step es f g n t same h (Some x) e = ap (λ p. p ++ entry_index es n x ∷ [])
    (same x.parent (t.earlier n x e h))

-- going up any further than to the root changes nothing
path_within-enough : (es : List Facts) → IsTable es → (a b n : ℕ) → n ≤ a → n ≤ b
    → path_within a es n ≡ path_within b es n
path_within-enough es t zero zero n h k = refl
path_within-enough es t zero (suc b) zero h k = refl
path_within-enough es t zero (suc b) (suc n) h k = absurd (omega arith)
path_within-enough es t (suc a) zero zero h k = refl
path_within-enough es t (suc a) zero (suc n) h k = absurd (omega arith)
path_within-enough es t (suc a) (suc b) zero h k = refl
path_within-enough es t (suc a) (suc b) (suc n) h k =
    same_step es (path_within a es) (path_within b es) (suc n) t
    (λ m less. path_within-enough es t a b m (omega arith) (omega arith)) (omega arith)
    (slice_get es (suc n)) refl

-- the path of an entry is that of its parent, and its index
pub entry_path-child : (es : List Facts) → IsTable es → (n : ℕ) (e : Facts)
    → slice_get es n ≡ Some e → 0 < n → entry_path es n
    ≡ entry_path es e.parent ++ entry_index es n e ∷ []
entry_path-child es t zero e at h = absurd (omega arith)
entry_path-child es t (suc n) e at h =
    let less : e.parent < suc n = t.earlier (suc n) e at h in
    ap (λ o. option_map_or (λ d. path_within n es d.parent ++ entry_index es (suc n) d ∷ []) o [])
    at
    ∙ ap (λ p. p ++ entry_index es (suc n) e ∷ [])
    (path_within-enough es t n e.parent e.parent (omega arith) (omega arith))

pub index_above : (es : List Facts) (n : ℕ) (e p : Facts) → slice_get es e.parent ≡ Some p
    → entry_index es n e ≡ n - p.first_child
index_above es n e p above = ap (λ o. n - option_map_or (λ (q : Facts). q.first_child) o 0) above

-- the same by the parent's entry
entry_path-below : (es : List Facts) → IsTable es → (n : ℕ) (e p : Facts) → slice_get es n ≡ Some e
    → 0 < n → slice_get es e.parent ≡ Some p → entry_path es n
    ≡ entry_path es e.parent ++ (n - p.first_child) ∷ []
entry_path-below es t n e p at h above =
    entry_path-child es t n e at h ∙ ap (λ i. entry_path es e.parent ++ i ∷ [])
    (index_above es n e p above)

-- ---- what stands at the path of an entry

pub record Stands (es : List Facts) (n : ℕ) (e : Facts) : Type 0 where
  pub green : option_map into_node (subterm (Node (root_node es)) (entry_path es n))
      ≡ Some (green_of e)
  pub start : offset (Node (root_node es)) (entry_path es n) ≡ e.start

Stands-top : (es : List Facts) (e : Facts) → IsTop es e → Stands es 0 e
Stands-top es e top = record {
  green = ap (λ g. Some g) (sym top.green);
  start = offset-empty (Node (root_node es)) ∙ sym top.start;
}

Stands-child : (es : List Facts) → IsTable es → (n : ℕ) (e p : Facts) → slice_get es n ≡ Some e
    → 0 < n → slice_get es e.parent ≡ Some p
    → Stands es e.parent p → Stands es n e
Stands-child es t n e p at h above s =
    let c : IsChildOf p n e = t.parents n e p at h above in
    let root = root_node es in
    let q = entry_path es e.parent in
    let i = n - p.first_child in
    let path : entry_path es n ≡ q ++ i ∷ [] = entry_path-below es t n e p at h above in
    let terms : children_of (subterm (Node root) q) ≡ children_in (green_of p) =
    content-children (subterm (Node root) q) (green_of p) s.green in
    let inside : i < length (children_of (subterm (Node root) q)) =
    omega (arith, ap length terms, kept_within (children_in (green_of p)) i (green_of e) c.child) in
    record {
      green = ap (λ r. option_map into_node (subterm (Node root) r)) path
          ∙ ap (option_map into_node) (subterm-child (Some (Node root)) q i
          ∙ ap (λ ts. slice_get ts i) terms) ∙ c.child;
      start = ap (λ r. offset (Node root) r) path ∙ offset-child root q i inside
          ∙ ap (λ x. x + child_start (children_of (subterm (Node root) q)) i) s.start
          ∙ ap (λ ts. p.start + child_start ts i) terms ∙ sym c.start;
    }

Stands-within : (es : List Facts) → IsTable es → (steps n : ℕ) → n ≤ steps → (e : Facts)
    → slice_get es n ≡ Some e → Stands es n e
Stands-within es t steps zero h e at = Stands-top es e (t.top e at)
Stands-within es t zero (suc n) h e at = absurd (omega arith)
Stands-within es t (suc steps) (suc n) h e at =
    let less : e.parent < suc n = t.earlier (suc n) e at (omega arith) in
    let above = slice_get-some es e.parent (omega (arith, slice_get_within es (suc n) e at)) in
    Stands-child es t (suc n) e above.0 at (omega arith) above.1
    (Stands-within es t steps e.parent (omega arith) above.0 above.1)

pub stands : (es : List Facts) → IsTable es → (n : ℕ) (e : Facts) → slice_get es n ≡ Some e
    → Stands es n e
stands es t n e at = Stands-within es t n n (omega arith) e at

-- where the text of an entry ends: a node's is within the limit, and a token's in that of the node
-- above
end_of-token : (g : Option NodeTerm) (i : ℕ) (t : Term) → slice_get (children_in g) i ≡ Some t
    → child_start (children_in g) i + term_len t ≤ len_in g
end_of-token None i t e = absurd cc
end_of-token (Some n) i t e = child_end (Node n) i t e

ends_below : (es : List Facts) → IsTable es → (n : ℕ) (e p : Facts) → slice_get es n ≡ Some e
    → 0 < n → slice_get es e.parent ≡ Some p → (o : Option Term)
    → slice_get (children_in (green_of p)) (n - p.first_child) ≡ o → e.start + len_of o ≤ byte_limit
ends_below es t n e p at h above None f = omega (arith, t.ends n e at)
ends_below es t n e p at h above (Some u) f =
    omega (
      arith,
      (t.parents n e p at h above).start,
      end_of-token (green_of p) (n - p.first_child) u f,
      t.ends e.parent p above,
    )

-- an entry's term is that child of the node above
pub child_above : (es : List Facts) → IsTable es → (n : ℕ) (e p : Facts) → slice_get es n ≡ Some e
    → 0 < n → slice_get es e.parent ≡ Some p → subterm (Node (root_node es)) (entry_path es n)
    ≡ slice_get (children_in (green_of p)) (n - p.first_child)
child_above es t n e p at h above =
    let root = root_node es in
    let q = entry_path es e.parent in
    ap (λ r. subterm (Node root) r) (entry_path-below es t n e p at h above)
    ∙ subterm-child (Some (Node root)) q (n - p.first_child)
    ∙ ap (λ ts. slice_get ts (n - p.first_child))
    (content-children (subterm (Node root) q) (green_of p) (stands es t e.parent p above).green)

ends_within : (es : List Facts) → IsTable es → (n : ℕ) (e : Facts) → slice_get es n ≡ Some e
    → e.start + len_of (subterm (Node (root_node es)) (entry_path es n)) ≤ byte_limit
ends_within es t zero e at = omega (arith, t.ends 0 e at, ap len_in (t.top e at).green)
ends_within es t (suc n) e at =
    let less : e.parent < suc n = t.earlier (suc n) e at (omega arith) in
    let above = slice_get-some es e.parent (omega (arith, slice_get_within es (suc n) e at)) in
    let p = above.0 in
    omega (
      arith,
      ends_below es t (suc n) e p at (omega arith) above.1
          (slice_get (children_in (green_of p)) (suc n - p.first_child)) refl,
      ap len_of (child_above es t (suc n) e p at (omega arith) above.1),
    )

last_index-index : (es : List Facts) → IsTable es → (n : ℕ) (e : Facts) → slice_get es n ≡ Some e
    → last_index (entry_path es n) ≡ entry_index es n e
last_index-index es t zero e at = omega arith
last_index-index es t (suc n) e at =
    ap last_index (entry_path-child es t (suc n) e at (omega arith))
    ∙ last_index-child (entry_path es e.parent) (entry_index es (suc n) e)

-- ---- rows

-- the entry with the number of child j of entry n is that child
pub record HasChild (es : List Facts) (n : ℕ) (e : Facts) (j : ℕ) : Type 0 where
  pub child : Facts
  pub at : slice_get es (e.first_child + j) ≡ Some child
  pub behind : 0 < e.first_child + j
  pub parent : child.parent ≡ n
  pub index : entry_index es (e.first_child + j) child ≡ j

same_parent : (a b : ℕ) → (a < b → ⊥) → (b < a → ⊥) → a ≡ b
same_parent a b h k = omega arith

same_entry : (es : List Facts) (m n : ℕ) (d e : Facts) → slice_get es m ≡ Some d
    → slice_get es n ≡ Some e → m ≡ n → d ≡ e
same_entry es m n d e p q h = same_Some d e (sym p ∙ ap (λ k. slice_get es k) h ∙ q)

pub has_child : (es : List Facts) → IsTable es → (n : ℕ) (e : Facts) (j : ℕ)
    → slice_get es n ≡ Some e → j < length (children_in (green_of e)) → HasChild es n e j
has_child es t n e j at h =
    let m = e.first_child + j in
    let found = slice_get-some es m (omega (arith, t.rows n e at)) in
    let c = found.0 in
    let own = t.owned n m e c at found.1 record {
      from = omega arith;
      to = omega arith;
    } in
    record {
      child = c;
      at = found.1;
      behind = own.0;
      parent = own.1;
      index = index_above es m c e (ap (slice_get es) own.1 ∙ at) ∙ omega arith;
    }

pub entry_path-row : (es : List Facts) → IsTable es → (n : ℕ) (e : Facts) (j : ℕ)
    → slice_get es n ≡ Some e → j < length (children_in (green_of e))
    → entry_path es (e.first_child + j) ≡ entry_path es n ++ j ∷ []
entry_path-row es t n e j at h =
    let c : HasChild es n e j = has_child es t n e j at h in
    entry_path-child es t (e.first_child + j) c.child c.at c.behind
    ∙ ap (λ k. entry_path es k ++ entry_index es (e.first_child + j) c.child ∷ []) c.parent
    ∙ ap (λ i. entry_path es n ++ i ∷ []) c.index

-- a part of the children of an entry
pub row_below : (es : List Facts) → IsTable es → (n : ℕ) (e : Facts) → slice_get es n ≡ Some e
    → (c a : ℕ) → a + c ≤ length (children_in (green_of e))
    → map (entry_path es) (numbers (e.first_child + a) c) ≡ below (entry_path es n) (numbers a c)
row_below es t n e at zero a h = refl
row_below es t n e at (suc c) a h =
    let next : e.first_child + a + 1 ≡ e.first_child + (a + 1) = omega arith in
    let rest : map (entry_path es) (numbers (e.first_child + a + 1) c)
    ≡ below (entry_path es n) (numbers (a + 1) c) =
    ap (λ k. map (entry_path es) (numbers k c)) next
    ∙ row_below es t n e at c (a + 1) (omega arith) in
    ap (λ p. p ∷ map (entry_path es) (numbers (e.first_child + a + 1) c))
    (entry_path-row es t n e a at (omega arith))
    ∙ ap (λ ps. (entry_path es n ++ a ∷ []) ∷ ps) rest

child_count-entry : (es : List Facts) → IsTable es → (n : ℕ) (e : Facts) → slice_get es n ≡ Some e
    → child_count (root_node es) (entry_path es n) ≡ length (children_in (green_of e))
child_count-entry es t n e at =
    ap length (content-children (subterm (Node (root_node es)) (entry_path es n)) (green_of e)
    (stands es t n e at).green)

-- some of the children of an entry, where their numbers are known in another form
part : (es : List Facts) → IsTable es → (n : ℕ) (e : Facts) → slice_get es n ≡ Some e
    → (start a c : ℕ) → start ≡ e.first_child + a → a + c ≤ length (children_in (green_of e))
    → map (entry_path es) (numbers start c) ≡ below (entry_path es n) (numbers a c)
part es t n e at start a c from h =
    ap (λ k. map (entry_path es) (numbers k c)) from ∙ row_below es t n e at c a h

children_row : (es : List Facts) → IsTable es → (n : ℕ) (e : Facts) → slice_get es n ≡ Some e
    → IsRow es e.first_child (e.first_child + length (children_in (green_of e)))
    (child_paths (root_node es) (entry_path es n))
children_row es t n e at =
    let left : e.first_child + length (children_in (green_of e)) - e.first_child
    ≡ length (children_in (green_of e)) = omega arith in
    record {
      order = omega arith;
      within = t.rows n e at;
      row = ap (λ c. map (entry_path es) (numbers e.first_child c)) left
          ∙ part es t n e at e.first_child 0 (length (children_in (green_of e))) (omega arith)
          (omega arith) ∙ ap (λ c. below (entry_path es n) (numbers 0 c))
          (sym (child_count-entry es t n e at));
    }

-- all that stands at a number
pub is_entry : (es : List Facts) → IsTable es → (n : ℕ) (e : Facts) → slice_get es n ≡ Some e
    → Describes es n e
is_entry es t n e at =
    let s : Stands es n e = stands es t n e at in
    record {
      at = at;
      green = s.green;
      start = s.start;
      end = ends_within es t n e at;
      index = last_index-index es t n e at;
      below = λ h. record {
        earlier = t.earlier n e at h;
        path = entry_path-child es t n e at h;
      };
      children = children_row es t n e at;
    }

-- ---- siblings

pub record HasAbove (es : List Facts) (n : ℕ) (e p : Facts) : Type 0 where
  pub at : slice_get es n ≡ Some e
  pub behind : 0 < n
  pub above : slice_get es e.parent ≡ Some p

place : (es : List Facts) (n : ℕ) (e p : Facts) → IsTable es → HasAbove es n e p
    → n ≡ p.first_child + (n - p.first_child)
place es n e p t h = omega (arith, (t.parents n e p h.at h.behind h.above).place)

index_below : (es : List Facts) (n : ℕ) (e p : Facts) → IsTable es → HasAbove es n e p
    → n - p.first_child < length (children_in (green_of p))
index_below es n e p t h =
    kept_within (children_in (green_of p)) (n - p.first_child) (green_of e)
    (t.parents n e p h.at h.behind h.above).child

pub following_row : (es : List Facts) → IsTable es → (n : ℕ) (e p : Facts) → HasAbove es n e p
    → IsRow es (n + 1) (p.first_child + length (children_in (green_of p)))
    (following (root_node es) (entry_path es n))
following_row es t n e p h =
    let root = root_node es in
    let q = entry_path es e.parent in
    let at : n ≡ p.first_child + (n - p.first_child) = place es n e p t h in
    let less : n - p.first_child < length (children_in (green_of p)) = index_below es n e p t h in
    let left : p.first_child + length (children_in (green_of p)) - (n + 1)
    ≡ length (children_in (green_of p)) - (n - p.first_child + 1) = omega arith in
    let from : n + 1 ≡ p.first_child + (n - p.first_child + 1) = omega arith in
    record {
      order = omega arith;
      within = t.rows e.parent p h.above;
      row = ap (λ c. map (entry_path es) (numbers (n + 1) c)) left
          ∙ part es t e.parent p h.above (n + 1) (n - p.first_child + 1)
          (length (children_in (green_of p)) - (n - p.first_child + 1)) from (omega arith)
          ∙ ap (λ c. below q (numbers (n - p.first_child + 1) (c - (n - p.first_child + 1))))
          (sym (child_count-entry es t e.parent p h.above))
          ∙ sym (following-child root q (n - p.first_child))
          ∙ ap (following root) (sym (entry_path-below es t n e p h.at h.behind h.above));
    }

pub preceding_row : (es : List Facts) → IsTable es → (n : ℕ) (e p : Facts) → HasAbove es n e p
    → IsRowBack es p.first_child n (preceding (root_node es) (entry_path es n))
preceding_row es t n e p h =
    let root = root_node es in
    let q = entry_path es e.parent in
    let at : n ≡ p.first_child + (n - p.first_child) = place es n e p t h in
    let less : n - p.first_child < length (children_in (green_of p)) = index_below es n e p t h in
    record {
      order = omega arith;
      within = omega (arith, slice_get_within es n e h.at);
      row = ap reverse (part es t e.parent p h.above p.first_child 0 (n - p.first_child)
          (omega arith) (omega arith))
          ∙ sym (map-reverse (λ i. q ++ i ∷ []) (numbers 0 (n - p.first_child)))
          ∙ sym (preceding-child root q (n - p.first_child))
          ∙ ap (preceding root) (sym (entry_path-below es t n e p h.at h.behind h.above));
    }

pub above_of : (es : List Facts) → IsTable es → (n : ℕ) (e : Facts) → slice_get es n ≡ Some e
    → 0 < n → (p : Facts) × HasAbove es n e p
above_of es t n e at h =
    let less : e.parent < n = t.earlier n e at h in
    let above = slice_get-some es e.parent (omega (arith, slice_get_within es n e at)) in (
      above.0,
      record {
        at = at;
        behind = h;
        above = above.1;
      },
    )

-- the siblings behind an entry end where the children of its parent do
pub following_to : (es : List Facts) → IsTable es → (n : ℕ) (e : Facts) (end : ℕ)
    → slice_get es n ≡ Some e → 0 < n
    → ((p : Facts) → slice_get es e.parent ≡ Some p
    → end ≡ p.first_child + length (children_in (green_of p)))
    → IsRow es (n + 1) end (following (root_node es) (entry_path es n))
following_to es t n e end at h ends =
    let a = above_of es t n e at h in
    let row = following_row es t n e a.0 a.1 in
    subst (λ k. IsRow es (n + 1) k (following (root_node es) (entry_path es n)))
    (sym (ends a.0 a.1.above)) row

-- and those before it begin there
pub preceding_from : (es : List Facts) → IsTable es → (n : ℕ) (e : Facts) (start : ℕ)
    → slice_get es n ≡ Some e → 0 < n
    → ((p : Facts) → slice_get es e.parent ≡ Some p → start ≡ p.first_child)
    → IsRowBack es start n (preceding (root_node es) (entry_path es n))
preceding_from es t n e start at h starts =
    let a = above_of es t n e at h in
    let row = preceding_row es t n e a.0 a.1 in
    subst (λ k. IsRowBack es k n (preceding (root_node es) (entry_path es n)))
    (sym (starts a.0 a.1.above)) row

-- two entries with one number have one parent
parent_at : (es : List Facts) (m k : ℕ) (d c : Facts) (parent : ℕ) → slice_get es m ≡ Some d
    → slice_get es k ≡ Some c → m ≡ k → c.parent ≡ parent → d.parent ≡ parent
parent_at es m k d c parent at there same above =
    ap (λ (x : Facts). x.parent) (same_entry es m k d c at there same) ∙ above

-- the next sibling is the next entry, where that has the same parent
no_next : (es : List Facts) (a b : ℕ) (ps : List Path) → IsRow es a b ps → a ≡ b
    → None ≡ first_at ps
no_next es a b ps row h = ap first_at (sym (empty_row (entry_path es) a b h) ∙ row.row)

pub next_past : (es : List Facts) → IsTable es → (n : ℕ) (e : Facts) → slice_get es n ≡ Some e
    → 0 < n → n + 1 ≡ length es → None ≡ first_at (following (root_node es) (entry_path es n))
next_past es t n e at h last =
    let a = above_of es t n e at h in
    let row = following_row es t n e a.0 a.1 in
    no_next es (n + 1) (a.0.first_child + length (children_in (green_of a.0)))
    (following (root_node es) (entry_path es n)) row (omega (arith, row.order, row.within))

pub next_beside : (es : List Facts) → IsTable es → (n : ℕ) (e d : Facts) → slice_get es n ≡ Some e
    → 0 < n → slice_get es (n + 1) ≡ Some d → d.parent ≡ e.parent
    → Some (entry_path es (n + 1)) ≡ first_at (following (root_node es) (entry_path es n))
next_beside es t n e d at h next same =
    let a = above_of es t n e at h in
    let p = a.0 in
    let row = following_row es t n e p a.1 in
    let is : IsChildOf p (n + 1) d = t.parents (n + 1) d p next (omega arith)
    (ap (λ k. slice_get es k) same ∙ a.1.above) in
    let less : n + 1 < p.first_child + length (children_in (green_of p)) =
    omega (
      arith,
      is.place,
      kept_within (children_in (green_of p)) (n + 1 - p.first_child)
          (green_of d) is.child,
    ) in
    sym (ap first_at (first_split (entry_path es) (n + 1)
    (p.first_child + length (children_in (green_of p))) less)) ∙ ap first_at row.row

pub next_apart : (es : List Facts) → IsTable es → (n : ℕ) (e d : Facts) → slice_get es n ≡ Some e
    → 0 < n → slice_get es (n + 1) ≡ Some d → (d.parent ≡ e.parent → ⊥)
    → None ≡ first_at (following (root_node es) (entry_path es n))
next_apart es t n e d at h next apart =
    let a = above_of es t n e at h in
    let p = a.0 in
    let end = p.first_child + length (children_in (green_of p)) in
    let row = following_row es t n e p a.1 in
    let from : p.first_child ≤ n = (t.parents n e p at h a.1.above).place in
    let here : n + 1 ≡ p.first_child + (n + 1 - p.first_child) = omega arith in
    let inside : n + 1 < end → ⊥ = λ less. (
    let c = has_child es t e.parent p (n + 1 - p.first_child) a.1.above (omega arith) in
    apart (parent_at es (n + 1) (p.first_child + (n + 1 - p.first_child)) d c.child e.parent next
    c.at here c.parent)) in
    let past : end < n + 1 → ⊥ = λ more. omega (arith, row.order) in
    no_next es (n + 1) end (following (root_node es) (entry_path es n)) row
    (same_parent (n + 1) end inside past)

-- the sibling before is the entry before, where that has the same parent
no_prev : (es : List Facts) (a b : ℕ) (ps : List Path) → IsRowBack es a b ps → a ≡ b
    → None ≡ first_at ps
no_prev es a b ps row h = ap first_at (sym (ap reverse (empty_row (entry_path es) a b h)) ∙ row.row)

pub prev_beside : (es : List Facts) → IsTable es → (n : ℕ) (e d : Facts) → slice_get es n ≡ Some e
    → 1 < n → slice_get es (n - 1) ≡ Some d → d.parent ≡ e.parent
    → Some (entry_path es (n - 1)) ≡ first_at (preceding (root_node es) (entry_path es n))
prev_beside es t n e d at h before same =
    let a = above_of es t n e at (omega arith) in
    let p = a.0 in
    let row = preceding_row es t n e p a.1 in
    let is : IsChildOf p (n - 1) d = t.parents (n - 1) d p before (omega arith)
    (ap (λ k. slice_get es k) same ∙ a.1.above) in
    sym (ap first_at (last_split (entry_path es) p.first_child n (n - 1) (omega (arith, is.place))
    (omega arith))) ∙ ap first_at row.row

pub prev_apart : (es : List Facts) → IsTable es → (n : ℕ) (e d : Facts) → slice_get es n ≡ Some e
    → 1 < n → slice_get es (n - 1) ≡ Some d → (d.parent ≡ e.parent → ⊥)
    → None ≡ first_at (preceding (root_node es) (entry_path es n))
prev_apart es t n e d at h before apart =
    let a = above_of es t n e at (omega arith) in
    let p = a.0 in
    let row = preceding_row es t n e p a.1 in
    let inside : p.first_child < n → ⊥ = λ less. (
    let here : n - 1 ≡ p.first_child + (n - 1 - p.first_child) = omega arith in
    let c = has_child es t e.parent p (n - 1 - p.first_child) a.1.above
    (omega (arith, index_below es n e p t a.1)) in
    apart (parent_at es (n - 1) (p.first_child + (n - 1 - p.first_child)) d c.child e.parent before
    c.at here c.parent)) in
    let past : n < p.first_child → ⊥ = λ more. omega (arith, row.order) in
    no_prev es p.first_child n (preceding (root_node es) (entry_path es n)) row
    (same_parent p.first_child n inside past)

-- the root has no sibling, and its first child none before it
pub prev_first : (es : List Facts) → IsTable es → (n : ℕ) → n < length es → n ≤ 1
    → None ≡ first_at (preceding (root_node es) (entry_path es n))
prev_first es t zero within h = refl
prev_first es t (suc zero) within h =
    let found = slice_get-some es 1 within in
    let e = found.0 in
    let a = above_of es t 1 e found.1 (omega arith) in
    let p = a.0 in
    let top : e.parent ≡ 0 = omega (arith, t.earlier 1 e found.1 (omega arith)) in
    let at : slice_get es 0 ≡ Some p = ap (slice_get es) (sym top) ∙ a.1.above in
    let first : p.first_child ≡ 1 = omega (
      arith,
      (t.top p at).first,
      (t.parents 1 e p found.1 (omega arith) a.1.above).place,
    ) in
    no_prev es p.first_child 1 (preceding (root_node es) (entry_path es 1))
    (preceding_row es t 1 e p a.1) first
prev_first es t (suc (suc n)) within h = absurd (omega arith)

-- only a node has children
node_with_child : (o : Option Term) (g k : Option NodeTerm) (i : ℕ)
    → option_map into_node o ≡ Some g → option_map into_node (slice_get (children_in g) i) ≡ Some k
    → is_node o ≡ true
node_with_child None g k i e h = absurd cc
node_with_child (Some (Node n)) g k i e h = refl
node_with_child (Some (Token t)) g k i e h = absurd
    (omega (
      arith,
      kept_within (children_in g) i k h,
      ap (λ l. length (children_in l)) (same_Some None g e),
    ))

pub node_above : (es : List Facts) → IsTable es → (n : ℕ) (e : Facts) → slice_get es n ≡ Some e
    → 0 < n → is_node_at (root_node es) (entry_path es e.parent) ≡ true
node_above es t n e at h =
    let a = above_of es t n e at h in
    let p = a.0 in
    node_with_child (subterm (Node (root_node es)) (entry_path es e.parent)) (green_of p)
    (green_of e) (n - p.first_child) (stands es t e.parent p a.1.above).green
    (t.parents n e p at h a.1.above).child

-- what an entry without a node stands for is a child of the node above
pub child_of_above : (es : List Facts) → IsTable es → (n : ℕ) (e p : Facts)
    → slice_get es n ≡ Some e → green_of e ≡ None → slice_get es e.parent ≡ Some p
    → (subterm (Node (root_node es)) (entry_path es n)
    ≡ slice_get (children_in (green_of p)) (n - p.first_child))
    × (n - p.first_child < length (children_in (green_of p)))
child_of_above es t zero e p at bare above = absurd
    (none-some (root_node es) (sym bare ∙ (t.top e at).green))
child_of_above es t (suc n) e p at bare above = (
  child_above es t (suc n) e p at (omega arith) above,
  kept_within (children_in (green_of p)) (suc n - p.first_child) (green_of e)
      (t.parents (suc n) e p at (omega arith) above).child,
)
