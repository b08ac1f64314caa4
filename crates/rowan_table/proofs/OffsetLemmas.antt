-- Laws of offsets and leaves: offsets in a subterm are counted on from where it starts, and its
-- leaves fill its range side by side.
use Rattle.std.proofs.Common.{◌≡◌, ℕ, zero, suc, ◌+◌, ◌<◌, ◌≤◌, List, [], ◌∷◌, ◌++◌, map, length}
use Rattle.std.proofs.Common.{filter, drop, Option, Some, None, ◌⊎◌, inl, inr, refl, sym, ◌∙◌, ap}
use Rattle.std.proofs.Common.{subst, arith}
use Rattle.std.specs.Prelude.{slice_get}
use Rattle.std.proofs.lemmas.List.{take_all}
use Rattle.rowan_green.specs.declared.utility_types.NodeOrToken.TheVariants.{Node, Token}
use Rattle.rowan_green.specs.Term.{TokenTerm, NodeTerm, node, Forest, empty, node_then, token_then}
use Rattle.rowan_green.specs.Term.{Term, terms, node_children, term_len, node_len, token_len}
use Rattle.rowan_green.specs.Term.{sum_of_lens}
use Rattle.rowan_terms.specs.Path.{Path, subterm_of, subterm, begins, offset, len_of}
use Rattle.rowan_green.specs.Search.{child_start}
use Rattle.rowan_terms.proofs.Paths.{offset-empty}
use Rattle.rowan_table.specs.Moves.{leaf_paths}
use Rattle.rowan_table.specs.Pass.{Lists, below_children, leaf_list}
use Rattle.rowan_table.proofs.LeafLemmas.{leaf_list-node, leaves-below}
use Rattle.rowan_terms.proofs.OffsetLemmas.{offset-join}
use Rattle.rowan_table.proofs.PathLemmas.{offset-node_child, subterm_of-append, subterm_of-here}
use Rattle.rowan_table.proofs.PathLemmas.{child_start-next, node_len-children}

-- the elements at these paths lie side by side, from one offset up to another
abbrev pub Fill : Term → ℕ → List Path → ℕ → Type 0
Fill t start [] end = start ≡ end
Fill t start (q ∷ qs) end = (offset t q ≡ start) × Fill t (start + len_of (subterm t q)) qs end

fill-from : (t : Term) (a b : ℕ) (qs : List Path) (end : ℕ) → a ≡ b → Fill t a qs end
    → Fill t b qs end
fill-from t a b qs end e h = subst (λ n. Fill t n qs end) e h

fill-to : (t : Term) (start : ℕ) (qs : List Path) (a b : ℕ) → a ≡ b → Fill t start qs a
    → Fill t start qs b
fill-to t start qs a b e h = subst (Fill t start qs) e h

fill-append : (t : Term) (a : ℕ) (ps : List Path) (b : ℕ) (qs : List Path) (c : ℕ) → Fill t a ps b
    → Fill t b qs c → Fill t a (ps ++ qs) c
fill-append t a [] b qs c h k = fill-from t b a qs c (sym h) k
fill-append t a (p ∷ ps) b qs c h k = (
  h.0,
  fill-append t (a + len_of (subterm t p)) ps b qs c h.1
      k,
)

-- what fills a part of a subterm fills that part of the whole
pub fill-join : (t : Term) (p : Path) (u : Term) → subterm t p ≡ Some u
    → (start : ℕ) (qs : List Path) (end : ℕ) → Fill u start qs end
    → Fill t (offset t p + start) (map (λ q. p ++ q) qs) (offset t p + end)
fill-join t p u there start [] end h = ap (λ n. offset t p + n) h
fill-join t p u there start (q ∷ qs) end h =
    let same : subterm t (p ++ q) ≡ subterm u q = subterm_of-append (Some t) p q
    ∙ ap (λ o. subterm_of o q) there in
    let next : offset t p + (start + len_of (subterm u q))
    ≡ offset t p + start + len_of (subterm t (p ++ q)) = omega (arith, ap len_of same) in (
      omega (arith, offset-join t p q u there, h.0),
      fill-from t (offset t p + (start + len_of (subterm u q)))
          (offset t p + start + len_of (subterm t (p ++ q))) (map (λ q. p ++ q) qs)
          (offset t p + end)
          next (fill-join t p u there (start + len_of (subterm u q)) qs end h.1),
    )

-- ---- the leaves of a term

pub drop-first : (m : ℕ) (ts : List Term) (t : Term) (us : List Term) → drop m ts ≡ t ∷ us
    → (slice_get ts m ≡ Some t) × (drop (suc m) ts ≡ us)
drop-first zero [] t us h = absurd cc
drop-first zero (s ∷ ts) t us h = (cc, cc)
drop-first (suc m) [] t us h = absurd cc
drop-first (suc m) (s ∷ ts) t us h = drop-first m ts t us h

drop-none : (m : ℕ) (ts : List Term) → drop m ts ≡ [] → length ts ≤ m
drop-none zero [] h = omega arith
drop-none zero (s ∷ ts) h = absurd cc
drop-none (suc m) [] h = omega arith
drop-none (suc m) (s ∷ ts) h = omega (arith, drop-none m ts h)

within : (ts : List Term) (m : ℕ) (c : Term) → slice_get ts m ≡ Some c → m < length ts
within [] m c h = absurd cc
within (t ∷ ts) zero c h = omega arith
within (t ∷ ts) (suc m) c h = omega (arith, within ts m c h)

-- the leaves of one child, where they lie in the node
child-fills : (n : NodeTerm) (m : ℕ) (c : Term) → slice_get (node_children n) m ≡ Some c
    → Fill c 0 (leaf_list c) (term_len c)
    → Fill (Node n) (child_start (node_children n) m) (map (λ q. m ∷ q) (leaf_list c))
    (child_start (node_children n) (suc m))
child-fills n m c at h =
    let ts = node_children n in
    let there : subterm (Node n) (m ∷ []) ≡ Some c = subterm_of-here (slice_get ts m) ∙ at in
    let from : offset (Node n) (m ∷ []) ≡ child_start ts m =
    omega (arith, offset-node_child (Node n) [] m n refl, offset-empty (Node n)) in
    let next : m + 1 ≡ suc m = omega arith in
    let begin : offset (Node n) (m ∷ []) + 0 ≡ child_start ts m = omega arith in
    let to : offset (Node n) (m ∷ []) + term_len c ≡ child_start ts (suc m) =
    omega (
      arith,
      child_start-next ts m (within ts m c at),
      ap len_of at,
      ap (child_start ts) next,
    ) in
    fill-from (Node n) (offset (Node n) (m ∷ []) + 0) (child_start ts m)
    (map (λ q. m ∷ q) (leaf_list c)) (child_start ts (suc m)) begin
    (fill-to (Node n) (offset (Node n) (m ∷ []) + 0) (map (λ q. m ∷ q) (leaf_list c))
    (offset (Node n) (m ∷ []) + term_len c) (child_start ts (suc m)) to
    (fill-join (Node n) (m ∷ []) c there 0 (leaf_list c) (term_len c) h))

token-fills : (t : TokenTerm) → Fill (Token t) 0 (leaf_list (Token t)) (token_len t)
token-fills t = (offset-empty (Token t), omega arith)

mutual
  node-fills : (n : NodeTerm) → Fill (Node n) 0 (leaf_list (Node n)) (node_len n)
  node-fills (node k f) =
      let n = node k f in
      fill-to (Node n) 0 (leaf_list (Node n)) (sum_of_lens (node_children n)) (node_len n)
      (sym (node_len-children n))
      (subst (λ qs. Fill (Node n) 0 qs (sum_of_lens (node_children n))) (sym (leaf_list-node n))
      (row-fills n 0 f refl))

  pub row-fills : (n : NodeTerm) (m : ℕ) (f : Forest) → drop m (node_children n) ≡ terms f
      → Fill (Node n) (child_start (node_children n) m) (below_children leaf_list m (terms f))
      (sum_of_lens (node_children n))
  row-fills n m empty h = ap sum_of_lens (take_all m (node_children n)
      (drop-none m (node_children n) h))
  row-fills n m (node_then c f) h =
      let ts = node_children n in
      let at = drop-first m ts (Node c) (terms f) h in
      fill-append (Node n) (child_start ts m) (map (λ q. m ∷ q) (leaf_list (Node c)))
      (child_start ts (suc m)) (below_children leaf_list (suc m) (terms f)) (sum_of_lens ts)
      (child-fills n m (Node c) at.0 (node-fills c)) (row-fills n (suc m) f at.1)
  row-fills n m (token_then t f) h =
      let ts = node_children n in
      let at = drop-first m ts (Token t) (terms f) h in
      fill-append (Node n) (child_start ts m) (map (λ q. m ∷ q) (leaf_list (Token t)))
      (child_start ts (suc m)) (below_children leaf_list (suc m) (terms f)) (sum_of_lens ts)
      (child-fills n m (Token t) at.0 (token-fills t)) (row-fills n (suc m) f at.1)

-- the leaves of a term fill its text
pub leaves-fill : (t : Term) → Fill t 0 (leaf_paths t) (term_len t)
leaves-fill (Node n) = node-fills n
leaves-fill (Token t) = token-fills t

-- the leaves below a path fill its range
pub leaves_below : (t : Term) (p : Path) (u : Term) → subterm t p ≡ Some u
    → filter (begins p) (leaf_paths t) ≡ map (λ q. p ++ q) (leaf_paths u)
leaves_below t p u there = leaves-below (Some t) p ∙ ap (λ o. map (λ q. p ++ q) (of_leaves o)) there
  where
    of_leaves : Option Term → List Path
    of_leaves None = []
    of_leaves (Some v) = leaf_paths v

pub leaves_below-fill : (t : Term) (p : Path) (u : Term) → subterm t p ≡ Some u
    → Fill t (offset t p) (filter (begins p) (leaf_paths t)) (offset t p + len_of (subterm t p))
leaves_below-fill t p u there =
    let from : offset t p + 0 ≡ offset t p = omega arith in
    let to : offset t p + term_len u ≡ offset t p + len_of (subterm t p) =
    omega (arith, ap len_of there) in
    let qs = map (λ q. p ++ q) (leaf_paths u) in
    subst (λ qs. Fill t (offset t p) qs (offset t p + len_of (subterm t p)))
    (sym (leaves_below t p u there))
    (fill-from t (offset t p + 0) (offset t p) qs (offset t p + len_of (subterm t p)) from
    (fill-to t (offset t p + 0) qs (offset t p + term_len u) (offset t p + len_of (subterm t p)) to
    (fill-join t p u there 0 (leaf_paths u) (term_len u) (leaves-fill u))))

-- ---- one of the leaves

abbrev pub IsAmong : Path → List Path → Type 0
IsAmong q [] = ⊥
IsAmong q (r ∷ rs) = (q ≡ r) ⊎ IsAmong q rs

among-map : (f : Path → Path) (q : Path) (rs : List Path) → IsAmong q rs → IsAmong (f q) (map f rs)
among-map f q [] h = h
among-map f q (r ∷ rs) h = elim h [ inl e ↦ inl (ap f e) | inr m ↦ inr (among-map f q rs m) ]

among-left : (q : Path) (rs ss : List Path) → IsAmong q rs → IsAmong q (rs ++ ss)
among-left q [] ss h = absurd h
among-left q (r ∷ rs) ss h = elim h [ inl e ↦ inl e | inr m ↦ inr (among-left q rs ss m) ]

among-right : (q : Path) (rs ss : List Path) → IsAmong q ss → IsAmong q (rs ++ ss)
among-right q [] ss h = h
among-right q (r ∷ rs) ss h = inr (among-right q rs ss h)

among-row : (g : Lists) (m i : ℕ) (ts : List Term) (c : Term) (q : Path) → slice_get ts i ≡ Some c
    → IsAmong q (g c) → IsAmong ((m + i) ∷ q) (below_children g m ts)
among-row g m i [] c q at h = absurd cc
among-row g m zero (t ∷ ts) c q at h =
    let e : m ≡ m + 0 = omega arith in
    let same : c ≡ t = cc in
    subst (λ j. IsAmong (j ∷ q) (map (λ q. m ∷ q) (g t) ++ below_children g (suc m) ts)) e
    (among-left (m ∷ q) (map (λ q. m ∷ q) (g t)) (below_children g (suc m) ts)
    (among-map (λ q. m ∷ q) q (g t) (subst (λ u. IsAmong q (g u)) same h)))
among-row g m (suc i) (t ∷ ts) c q at h =
    let e : suc m + i ≡ m + suc i = omega arith in
    subst (λ j. IsAmong (j ∷ q) (map (λ q. m ∷ q) (g t) ++ below_children g (suc m) ts)) e
    (among-right ((suc m + i) ∷ q) (map (λ q. m ∷ q) (g t)) (below_children g (suc m) ts)
    (among-row g (suc m) i ts c q at h))

-- a token's path is that of a leaf
some-token : (o : Option Term) (q : Path) (t : TokenTerm) → subterm_of o q ≡ Some (Token t)
    → (c : Term) × (o ≡ Some c)
some-token None q t h = absurd cc
some-token (Some c) q t h = (c, refl)

pub among-leaves : (u : Term) (q : Path) (t : TokenTerm) → subterm u q ≡ Some (Token t)
    → IsAmong q (leaf_paths u)
among-leaves (Token s) [] t h = inl refl
among-leaves (Token s) (i ∷ q) t h = absurd cc
among-leaves (Node n) [] t h = absurd cc
among-leaves (Node n) (i ∷ q) t h =
    let c = some-token (slice_get (node_children n) i) q t h in
    let e : 0 + i ≡ i = omega arith in
    let own = among-leaves c.0 q t (ap (λ o. subterm_of o q) (sym c.1) ∙ h) in
    subst (IsAmong (i ∷ q)) (sym (leaf_list-node n))
    (subst (λ j. IsAmong (j ∷ q) (below_children leaf_list 0 (node_children n))) e
    (among-row leaf_list 0 i (node_children n) c.0 q c.1 own))

pub among-leaves_below : (t : Term) (p q : Path) (u : Term) (k : TokenTerm) → subterm t p ≡ Some u
    → subterm t (p ++ q) ≡ Some (Token k) → IsAmong (p ++ q) (filter (begins p) (leaf_paths t))
among-leaves_below t p q u k there h =
    let below : subterm u q ≡ Some (Token k) = ap (λ o. subterm_of o q) (sym there)
    ∙ sym (subterm_of-append (Some t) p q) ∙ h in
    subst (IsAmong (p ++ q)) (sym (leaves_below t p u there))
    (among-map (λ q. p ++ q) q (leaf_paths u) (among-leaves u q k below))
