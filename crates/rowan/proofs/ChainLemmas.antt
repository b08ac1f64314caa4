-- Chains of children at a range: each begins at every element, there is just one, and on the way to
-- a node with text it is that way.
use Rattle.std.proofs.Common.{◌≡◌, ℕ, zero, suc, ◌+◌, ◌-◌, ◌<◌, ◌≤◌, ◌⊎◌, inl, inr, List, [], ◌∷◌}
use Rattle.std.proofs.Common.{◌++◌, length, Option, Some, None, refl, sym, ◌∙◌, ap, subst, arith}
use Rattle.std.proofs.Common.{append_assoc, Bool, true, false, cond}
use Rattle.std.specs.Prelude.{slice_get}
use Rattle.std.specs.List.{find}
use Rattle.std.specs.Option.{option_map_or}
use Rattle.std.proofs.lemmas.Bool.{cases_lt, cases_order}
use Rattle.std.proofs.lemmas.List.{append-nil}
use Rattle.std.proofs.lemmas.Option.{slice_get_within}
use Rattle.rowan_green.specs.declared.utility_types.NodeOrToken.TheVariants.{Node, Token}
use Rattle.rowan_terms.specs.Path.{Path, term_children, subterm_of, subterm, offset, len_of, range}
use Rattle.rowan_green.specs.Search.{child_start, child_end, HasRange, IsChildAt, has_bytes}
use Rattle.rowan_green.specs.Sizes.{term_size}
use Rattle.rowan_green.specs.Span.{Span}
use Rattle.rowan_green.specs.Term.{NodeTerm, Term, term_len, sum_of_lens}
use Rattle.rowan_terms.proofs.OffsetLemmas.{offset-join, range-within}
use Rattle.rowan_green.proofs.SearchLemmas.{bounds, has-range, one_child-at, inside-node}
use Rattle.rowan_green.proofs.SearchLemmas.{child-at-place, child_start-le}
use Rattle.rowan_table.specs.Moves.{children_of, is_node, is_node_at}
use Rattle.rowan_table.specs.Search.{IsRangeChild, IsChain}
use Rattle.rowan_table.proofs.PathLemmas.{subterm-child, subterm_of-append, offset-child}
use Rattle.rowan_table.proofs.PathLemmas.{child_start-next}
use Rattle.rowan_cursor.proofs.SizeLemmas.{child-smaller}
use Rattle.rowan_table.proofs.TableLemmas.{slice_get-some}

-- ---- whether a child is at a range

abbrev ChildOrNot : (ℕ → Type 0) → Type 0
ChildOrNot P = ((k : ℕ) × P k) ⊎ ((k : ℕ) → ¬ P k)

end-next : (t : Term) (ts : List Term) (k : ℕ)
    → child_end (t ∷ ts) (suc k) ≡ term_len t + child_end ts k
end-next t ts k = let next : suc k + 1 ≡ suc (k + 1) = omega arith in ap (child_start (t ∷ ts)) next

has-range-first : (t : Term) (ts : List Term) (a b k : ℕ) → a < term_len t → term_len t < b
    → ¬ HasRange (t ∷ ts) a b k
has-range-first t ts a b zero h l r = omega (arith, r.to, l)
has-range-first t ts a b (suc k) h l r = omega (arith, r.from, h)

has-range-next : (t : Term) (ts : List Term) (a b k : ℕ) → term_len t ≤ a → a < b
    → HasRange ts (a - term_len t) (b - term_len t) k → HasRange (t ∷ ts) a b (suc k)
has-range-next t ts a b k h l r = record {
  place = omega (arith, r.place);
  from = omega (arith, r.from, h);
  to = omega (arith, r.to, h, l, end-next t ts k);
}

has-range-back : (t : Term) (ts : List Term) (a b k : ℕ) → term_len t ≤ a → a < b
    → ((j : ℕ) → ¬ HasRange ts (a - term_len t) (b - term_len t) j) → ¬ HasRange (t ∷ ts) a b k
has-range-back t ts a b zero h l none r = omega (arith, r.to, h, l)
has-range-back t ts a b (suc k) h l none r = none k record {
  place = omega (arith, r.place);
  from = omega (arith, r.from, h);
  to = omega (arith, r.to, h, l, end-next t ts k);
}

has-range_or : (ts : List Term) (a b : ℕ) → a < b → ChildOrNot (HasRange ts a b)
has-range_or [] a b h = inr (λ k r. omega (arith, r.place))
has-range_or (t ∷ ts) a b h = elim (cases_lt a (term_len t)) [
  | inl less ↦ elim (cases_lt (term_len t) b) [
    | inl over ↦ inr (λ k. has-range-first t ts a b k less over)
    | inr fits ↦ inl (
      0,
      record { place = omega arith; from = omega arith; to = omega (arith, fits) },
    )
  ]
  | inr more ↦ elim (has-range_or ts (a - term_len t) (b - term_len t) (omega (arith, more, h))) [
    | inl r ↦ inl (suc r.0, has-range-next t ts a b r.0 more h r.1)
    | inr none ↦ inr (λ k. has-range-back t ts a b k more h none)
  ]
]

child-place_or : (ts : List Term) (a : ℕ) → ChildOrNot (IsChildAt ts a a)
child-place_or ts a = elim (cases_lt 0 (length ts)) [
  | inr none ↦ inr (λ k c. omega (arith, (has-range ts a a k c).place, none))
  | inl some ↦ elim (cases_lt (sum_of_lens ts) a) [
    | inl past ↦ inr (λ k c. omega (arith, inside-node ts a a k c, past))
    | inr h ↦ inl (child-at-place ts a some h)
  ]
]

child_or : (ts : List Term) (a b : ℕ) → ChildOrNot (IsChildAt ts a b)
child_or ts a b = elim (cases_order a b) [
  | inl e ↦ subst (λ x. ChildOrNot (IsChildAt ts a x)) e (child-place_or ts a)
  | inr (inl l) ↦ elim (has-range_or ts a b l) [
    | inl r ↦ inl (r.0, has_bytes l r.1)
    | inr none ↦ inr (λ k c. none k (has-range ts a b k c))
  ]
  | inr (inr g) ↦ inr (λ k c. omega (arith, g, (bounds ts a b k c).order))
]

-- the child of an element at a range, or none
data RangeChild (root : NodeTerm) (span : Span) (p : Path) : Type 0 where
  one : (q : Path) → IsRangeChild root span p q → RangeChild root span p
  none : ((q : Path) → ¬ IsRangeChild root span p q) → RangeChild root span p

range_child-or : (root : NodeTerm) (span : Span) (p : Path) → RangeChild root span p
range_child-or root span p =
    let o = offset (Node root) p in
    let ts = children_of (subterm (Node root) p) in
    elim (cases_lt span.start o) [
      | inl before ↦ none (λ q c. omega (arith, c.from, before))
      | inr from ↦ elim (child_or ts (span.start - o) (span.end - o)) [
        | inl c ↦ one (p ++ c.0 ∷ []) record { place = c.0; path = refl; from = from; child = c.1 }
        | inr no_child ↦ none (λ q c. no_child c.place c.child)
      ]
    ]

-- at most one child is at a range
pub range_child-one : (root : NodeTerm) (span : Span) (p q r : Path) → IsRangeChild root span p q
    → IsRangeChild root span p r → q ≡ r
range_child-one root span p q r c d =
    let o = offset (Node root) p in
    let same : c.place ≡ d.place = one_child-at (children_of (subterm (Node root) p))
    (span.start - o) (span.end - o) c.place d.place c.child d.child in
    c.path ∙ ap (λ k. p ++ k ∷ []) same ∙ sym d.path

-- the place of a child at a range
pub range_child-place : (root : NodeTerm) (span : Span) (p q : Path) (c : IsRangeChild root span p
    q) → c.place < length (children_of (subterm (Node root) p))
range_child-place root span p q c =
    let o = offset (Node root) p in
    (has-range (children_of (subterm (Node root) p)) (span.start - o) (span.end - o) c.place
    c.child).place

-- ---- sizes

abbrev pub size_of : Option Term → ℕ
size_of t = option_map_or term_size t 0

abbrev pub size_at : NodeTerm → Path → ℕ
size_at root p = size_of (subterm (Node root) p)

size-child : (t : Option Term) (k : ℕ) → k < length (children_of t)
    → size_of (slice_get (children_of t) k) < size_of t
size-child None k h = absurd (omega arith)
size-child (Some t) k h =
    let v = slice_get-some (term_children t) k h in
    omega (arith, ap size_of v.1, child-smaller t k v.0 v.1)

-- a child at a range is smaller
pub range_child-smaller : (root : NodeTerm) (span : Span) (p q : Path) → IsRangeChild root span p q
    → size_at root q < size_at root p
range_child-smaller root span p q c =
    omega (
      arith,
      size-child (subterm (Node root) p) c.place (range_child-place root span p q c),
      ap (size_at root) c.path,
      ap size_of (subterm-child (Some (Node root)) p c.place),
    )

-- ---- chains

-- what follows an element in the chain of a range
abbrev pub Follows : NodeTerm → Span → Path → Type 0
Follows root span p = (qs : List Path) × IsChain root span p qs

follows-fuel : (fuel : ℕ) (root : NodeTerm) (span : Span) (p : Path) → size_at root p < fuel
    → Follows root span p
follows-fuel zero root span p h = absurd (omega arith)
follows-fuel (suc fuel) root span p h = elim (range_child-or root span p) [
  | none no_child ↦ ([], no_child)
  | one q c ↦ (
      let rest = follows-fuel fuel root span q (omega (
        arith,
        range_child-smaller root span p q c,
      )) in
      (q ∷ rest.0, (c, rest.1))
      )
]

pub follows : (root : NodeTerm) (span : Span) (p : Path) → Follows root span p
follows root span p = follows-fuel (suc (size_at root p)) root span p (omega arith)

pub chain-one : (root : NodeTerm) (span : Span) (p : Path) (xs ys : List Path)
    → IsChain root span p xs → IsChain root span p ys → xs ≡ ys
chain-one root span p [] [] c d = refl
chain-one root span p [] (y ∷ ys) c d = absurd (c y d.0)
chain-one root span p (x ∷ xs) [] c d = absurd (d x c.0)
chain-one root span p (x ∷ xs) (y ∷ ys) c d =
    let e : x ≡ y = range_child-one root span p x y c.0 d.0 in
    ap (λ q. q ∷ xs) e
    ∙ ap (λ qs. y ∷ qs) (chain-one root span y xs ys (subst (λ q. IsChain root span q xs) e c.1)
    d.1)

-- a token has no child
token-children : (t : Option Term) (k : ℕ) → is_node t ≡ false → ¬ (k < length (children_of t))
token-children None k e h = omega arith
token-children (Some (Node n)) k e h = absurd cc
token-children (Some (Token t)) k e h = omega arith

pub token-ends : (root : NodeTerm) (span : Span) (p q : Path) → is_node_at root p ≡ false
    → ¬ IsRangeChild root span p q
token-ends root span p q e c = token-children (subterm (Node root) p) c.place e
    (range_child-place root span p q c)

-- ---- the way to a node

pub none-some : {A : Type 0} (x : A) → ◌≡◌ {A = Option A} None (Some x) → ⊥
none-some x e = cc

-- the next element on the way to one with text is the child at the range of that text
way-child : (root : NodeTerm) (p : Path) (i : ℕ) (r q : Path) (t : Term) → q ≡ (p ++ i ∷ []) ++ r
    → subterm (Node root) q ≡ Some t → 0 < term_len t
    → IsRangeChild root (range (Node root) q) p (p ++ i ∷ [])
way-child root p i r q t path there some = at (subterm (Node root) (p ++ i ∷ [])) refl
  where
    at : (o : Option Term) → subterm (Node root) (p ++ i ∷ []) ≡ o
        → IsRangeChild root (range (Node root) q) p (p ++ i ∷ [])
    at None e = absurd (none-some t (ap (λ o. subterm_of o r) (sym e)
        ∙ sym (subterm_of-append (Some (Node root)) (p ++ i ∷ []) r)
        ∙ ap (subterm (Node root)) (sym path) ∙ there))
    at (Some c) e =
        let ts = children_of (subterm (Node root) p) in
        let inner : subterm c r ≡ Some t = ap (λ o. subterm_of o r) (sym e)
        ∙ sym (subterm_of-append (Some (Node root)) (p ++ i ∷ []) r)
        ∙ ap (subterm (Node root)) (sym path) ∙ there in
        let child : slice_get ts i ≡ Some c = sym (subterm-child (Some (Node root)) p i) ∙ e in
        let place : i < length ts = slice_get_within ts i c child in
        let own : offset (Node root) (p ++ i ∷ []) ≡ offset (Node root) p + child_start ts i =
        offset-child root p i place in
        let begin : offset (Node root) q ≡ offset (Node root) (p ++ i ∷ []) + offset c r =
        ap (offset (Node root)) path ∙ offset-join (Node root) (p ++ i ∷ []) r c e in
        let size : len_of (subterm (Node root) q) ≡ term_len t = ap len_of there in
        let end : child_end ts i ≡ child_start ts i + term_len c = child_start-next ts i place
        ∙ ap (λ o. child_start ts i + len_of o) child in
        record {
          place = i;
          path = refl;
          from = omega (arith, own, begin);
          child = has_bytes (omega (arith, own, begin, size, some)) record {
            place = place;
            from = omega (arith, own, begin);
            to = omega (arith, own, begin, size, end, range-within c r t inner, ap len_of inner);
          };
        }

-- an element that is found at or above another one
pub record FoundAbove (holds : Path → Bool) (q : Path) (found : Option Path) : Type 0 where
  pub path : Path
  pub is : found ≡ Some path
  pub rest : Path
  pub above : q ≡ path ++ rest
  pub true : holds path ≡ true

-- on the chain of its range, a node with text is found, or one above it
pub find-way : (rest : Path) (holds : Path → Bool) (root : NodeTerm) (q p : Path)
    (chain : List Path) (t : Term) → q ≡ p ++ rest → subterm (Node root) q ≡ Some t → 0 < term_len t
    → holds q ≡ true → IsChain root (range (Node root) q) p chain
    → FoundAbove holds q (find holds (p ∷ chain))
find-way [] holds root q p chain t path there some h c =
    let same : q ≡ p = path ∙ append-nil p in
    let here : holds p ≡ true = ap holds (sym same) ∙ h in
    record {
      path = p;
      is = ap (λ b. cond b (Some p) (find holds chain)) here;
      rest = [];
      above = path;
      true = here;
    }
find-way (i ∷ r) holds root q p chain t path there some h c =
    at (λ x xs same c. find-way r holds root q x xs t (longer ∙ ap (λ y. y ++ r) (sym same)) there
    some h c) (holds p) refl chain c
  where
    longer : q ≡ (p ++ i ∷ []) ++ r
    longer = path ∙ sym (append_assoc p (i ∷ []) r)

    child : IsRangeChild root (range (Node root) q) p (p ++ i ∷ [])
    child = way-child root p i r q t longer there some

    at : ((x : Path) (xs : List Path) → x ≡ p ++ i ∷ [] → IsChain root (range (Node root) q) x xs
        → FoundAbove holds q (find holds (x ∷ xs))) → (b : Bool) → holds p ≡ b → (chain : List Path)
        → IsChain root (range (Node root) q) p chain → FoundAbove holds q (find holds (p ∷ chain))
    at go true e chain c = record {
      path = p;
      is = ap (λ b. cond b (Some p) (find holds chain)) e;
      rest = i ∷ r;
      above = path;
      true = e;
    }
    at go false e [] c = absurd (c (p ++ i ∷ []) child)
    at go false e (x ∷ xs) c =
        let same : x ≡ p ++ i ∷ [] = range_child-one root (range (Node root) q) p x (p ++ i ∷ [])
        c.0 child in
        subst (FoundAbove holds q) (sym (ap (λ b. cond b (Some p) (find holds (x ∷ xs))) e))
        (go x xs same c.1)
