-- Offsets by the lengths of the leaves before a path, and the texts of subterms where their ranges
-- lie.
use Rattle.std.proofs.Common.{◌≡◌, ℕ, zero, suc, ◌+◌, ◌-◌, ◌<◌, ◌≤◌, Bool, true, false, cond, ◌&&◌}
use Rattle.std.proofs.Common.{◌||◌, List, [], ◌∷◌, ◌++◌, map, length, take, drop, filter, sum_by}
use Rattle.std.proofs.Common.{Option, Some, None, refl, sym, ◌∙◌, ap, arith, length-append}
use Rattle.std.proofs.Common.{append_assoc}
use Rattle.std.specs.Prelude.{slice_get, slice_range, nat_eq}
use Rattle.std.proofs.Math.Seq.{drop-append_seam, take-append_seam}
use Rattle.std.proofs.lemmas.Bool.{lt-ltb, le-ltb, eq-eqb, ne_eqb}
use Rattle.std.proofs.lemmas.List.{append-nil}
use Rattle.std.proofs.lemmas.List.Sums.{sum_by-cons}
use Rattle.rowan_green.specs.declared.utility_types.NodeOrToken.TheVariants.{Node, Token}
use Rattle.rowan_green.specs.Term.{NodeTerm, node, Forest, empty, node_then, token_then, Term}
use Rattle.rowan_green.specs.Term.{terms, node_children, node_text, forest_text, term_text}
use Rattle.rowan_green.specs.Term.{term_len, token_len, joined_text}
use Rattle.rowan_terms.specs.Path.{Path, subterm_of, subterm, LeafAt, below_place, node_leaves}
use Rattle.rowan_terms.specs.Path.{leaves_from, leaves, stands_before, offset, len_of, text_of}
use Rattle.rowan_terms.specs.Path.{range}
use Rattle.rowan_green.specs.Search.{child_start}
use Rattle.rowan_terms.proofs.Paths.{offset-empty}
use Rattle.rowan_green.proofs.Terms.{length-joined_text}

-- Tests of the first place.
pub before_at_less : (j i : ℕ) (q p : Path) → j < i → stands_before (j ∷ q) (i ∷ p) ≡ true
before_at_less j i q p h = ap (λ b. b || (nat_eq j i && stands_before q p)) (lt-ltb j i h)

pub before_at_same : (i : ℕ) (q p : Path) → stands_before (i ∷ q) (i ∷ p) ≡ stands_before q p
before_at_same i q p =
    ap (λ b. b || (nat_eq i i && stands_before q p)) (le-ltb i i (omega arith))
    ∙ ap (λ b. b && stands_before q p) (eq-eqb i i refl)

pub before_at_greater : (j i : ℕ) (q p : Path) → i < j → stands_before (j ∷ q) (i ∷ p) ≡ false
before_at_greater j i q p h =
    ap (λ b. b || (nat_eq j i && stands_before q p)) (le-ltb j i (omega arith))
    ∙ ap (λ b. b && stands_before q p) (ne_eqb j i (λ e. omega (arith, h, e)))

-- The lengths of the leaves before a path, added up.
abbrev pub lens_before : Path → List LeafAt → ℕ
lens_before p [] = 0
lens_before p (l ∷ ls) = cond (stands_before l.0 p) (token_len l.1) 0 + lens_before p ls

abbrev lens : List LeafAt → ℕ
lens [] = 0
lens (l ∷ ls) = token_len l.1 + lens ls

sum-lens_before : (p : Path) (ls : List LeafAt)
    → sum_by (λ l. token_len l.1) (filter (λ l. stands_before l.0 p) ls) ≡ lens_before p ls
sum-lens_before p [] = refl
sum-lens_before p (l ∷ ls) = by (stands_before l.0 p) (sum-lens_before p ls)
  where
    by : (b : Bool) → sum_by (λ l. token_len l.1) (filter (λ l. stands_before l.0 p) ls)
        ≡ lens_before p ls → sum_by (λ l. token_len l.1)
        (cond b (l ∷ filter (λ l. stands_before l.0 p) ls)
        (filter (λ l. stands_before l.0 p) ls)) ≡ cond b (token_len l.1) 0
        + lens_before p ls
    by true rest = sum_by-cons (λ l. token_len l.1) l (filter (λ l. stands_before l.0 p) ls)
        ∙ ap (λ n. token_len l.1 + n) rest
    by false rest = rest ∙ omega arith

lens_before-append : (p : Path) (ks ls : List LeafAt)
    → lens_before p (ks ++ ls) ≡ lens_before p ks + lens_before p ls
lens_before-append p [] ls = omega arith
lens_before-append p (k ∷ ks) ls = omega (arith, lens_before-append p ks ls)

lens_before-less : (j i : ℕ) (p : Path) (ls : List LeafAt) → j < i
    → lens_before (i ∷ p) (map (below_place j) ls) ≡ lens ls
lens_before-less j i p [] h = refl
lens_before-less j i p (l ∷ ls) h =
    ap (λ b. cond b (token_len l.1) 0 + lens_before (i ∷ p) (map (below_place j) ls))
    (before_at_less j i l.0 p h) ∙ ap (λ n. token_len l.1 + n) (lens_before-less j i p ls h)

lens_before-same : (i : ℕ) (p : Path) (ls : List LeafAt)
    → lens_before (i ∷ p) (map (below_place i) ls) ≡ lens_before p ls
lens_before-same i p [] = refl
lens_before-same i p (l ∷ ls) =
    ap (λ b. cond b (token_len l.1) 0 + lens_before (i ∷ p) (map (below_place i) ls))
    (before_at_same i l.0 p) ∙ ap (λ n. cond (stands_before l.0 p) (token_len l.1) 0 + n)
    (lens_before-same i p ls)

lens_before-greater : (j i : ℕ) (p : Path) (ls : List LeafAt) → i < j
    → lens_before (i ∷ p) (map (below_place j) ls) ≡ 0
lens_before-greater j i p [] h = refl
lens_before-greater j i p (l ∷ ls) h =
    ap (λ b. cond b (token_len l.1) 0 + lens_before (i ∷ p) (map (below_place j) ls))
    (before_at_greater j i l.0 p h) ∙ ap (λ n. 0 + n) (lens_before-greater j i p ls h)

lens-append : (ks ls : List LeafAt) → lens (ks ++ ls) ≡ lens ks + lens ls
lens-append [] ls = omega arith
lens-append (k ∷ ks) ls = omega (arith, lens-append ks ls)

lens-below : (m : ℕ) (ls : List LeafAt) → lens (map (below_place m) ls) ≡ lens ls
lens-below m [] = refl
lens-below m (l ∷ ls) = ap (λ n. token_len l.1 + n) (lens-below m ls)

-- the lengths of all leaves add up to the length of the text
mutual
  lens-node : (n : NodeTerm) → lens (node_leaves n) ≡ length (node_text n)
  lens-node (node k f) = lens-forest 0 f

  lens-forest : (m : ℕ) (f : Forest) → lens (leaves_from m f) ≡ length (forest_text f)
  lens-forest m empty = refl
  lens-forest m (node_then n f) =
      lens-append (map (below_place m) (node_leaves n)) (leaves_from (m + 1) f)
      ∙ omega (
        arith,
        lens-below m (node_leaves n),
        lens-node n,
        lens-forest (m + 1) f,
        length-append (node_text n) (forest_text f),
      )
  lens-forest m (token_then t f) =
      omega (arith, lens-forest (m + 1) f, length-append t.text (forest_text f))

-- no leaf of the children from a later place on is before the path
none-before : (m i : ℕ) (p : Path) (f : Forest) → i < m → lens_before (i ∷ p) (leaves_from m f) ≡ 0
none-before m i p empty h = refl
none-before m i p (node_then n f) h =
    lens_before-append (i ∷ p) (map (below_place m) (node_leaves n)) (leaves_from (m + 1) f)
    ∙ omega (
      arith,
      lens_before-greater m i p (node_leaves n) h,
      none-before (m + 1) i p f (omega arith),
    )
none-before m i p (token_then t f) h =
    ap (λ b. cond b (token_len t) 0 + lens_before (i ∷ p) (leaves_from (m + 1) f))
    (before_at_greater m i [] p h) ∙ omega (arith, none-before (m + 1) i p f (omega arith))

-- the bytes before a path below one child, as an offset in that child
abbrev pub offset_of : Option Term → Path → ℕ
offset_of None p = 0
offset_of (Some t) p = lens_before p (leaves t)

lens_before-forest : (m d : ℕ) (p : Path) (f : Forest)
    → lens_before ((m + d) ∷ p) (leaves_from m f) ≡ child_start (terms f) d
    + offset_of (slice_get (terms f) d) p
lens_before-forest m zero p empty = omega arith
lens_before-forest m (suc d) p empty = omega arith
lens_before-forest m zero p (node_then n f) =
    let e : m + 0 ≡ m = omega arith in
    ap (λ i. lens_before (i ∷ p) (leaves_from m (node_then n f))) e
    ∙ lens_before-append (m ∷ p) (map (below_place m) (node_leaves n)) (leaves_from (m + 1) f)
    ∙ omega (
      arith,
      lens_before-same m p (node_leaves n),
      none-before (m + 1) m p f (omega arith),
    )
lens_before-forest m zero p (token_then t f) =
    let e : m + 0 ≡ m = omega arith in
    ap (λ i. lens_before (i ∷ p) (leaves_from m (token_then t f))) e
    ∙ ap (λ b. cond b (token_len t) 0 + lens_before (m ∷ p) (leaves_from (m + 1) f))
    (before_at_same m [] p) ∙ omega (arith, none-before (m + 1) m p f (omega arith))
lens_before-forest m (suc d) p (node_then n f) =
    let e : m + suc d ≡ (m + 1) + d = omega arith in
    ap (λ i. lens_before (i ∷ p) (leaves_from m (node_then n f))) e
    ∙ lens_before-append (((m + 1) + d) ∷ p) (map (below_place m) (node_leaves n))
    (leaves_from (m + 1) f) ∙
    omega (
      arith,
      lens_before-less m ((m + 1) + d) p (node_leaves n) (omega arith),
      lens-node n,
      lens_before-forest (m + 1) d p f,
    )
lens_before-forest m (suc d) p (token_then t f) =
    let e : m + suc d ≡ (m + 1) + d = omega arith in
    ap (λ i. lens_before (i ∷ p) (leaves_from m (token_then t f))) e
    ∙ ap (λ b. cond b (token_len t) 0 + lens_before (((m + 1) + d) ∷ p) (leaves_from (m + 1) f))
    (before_at_less m ((m + 1) + d) [] p (omega arith))
    ∙ omega (arith, lens_before-forest (m + 1) d p f)

pub lens_before-node : (n : NodeTerm) (i : ℕ) (p : Path)
    → lens_before (i ∷ p) (node_leaves n) ≡ child_start (node_children n) i
    + offset_of (slice_get (node_children n) i) p
lens_before-node (node k f) i p = let e : i ≡ 0 + i = omega arith in
    ap (λ j. lens_before (j ∷ p) (leaves_from 0 f)) e ∙ lens_before-forest 0 i p f

pub offset-lens : (t : Term) (p : Path) → offset t p ≡ lens_before p (leaves t)
offset-lens t p = sum-lens_before p (leaves t)

pub offset_of-join : (t : Option Term) (p q : Path) (u : Term) → subterm_of t p ≡ Some u
    → offset_of t (p ++ q) ≡ offset_of t p + lens_before q (leaves u)
offset_of-join None p q u h = absurd cc
offset_of-join (Some t) [] q u h =
    let e : t ≡ u = cc in
    let none : lens_before [] (leaves t) ≡ 0 = sym (offset-lens t []) ∙ offset-empty t in
    ap (λ v. lens_before q (leaves v)) e ∙ omega (arith, none)
offset_of-join (Some (Token t)) (i ∷ p) q u h = absurd cc
offset_of-join (Some (Node n)) (i ∷ p) q u h =
    omega (
      arith,
      lens_before-node n i (p ++ q),
      lens_before-node n i p,
      offset_of-join (slice_get (node_children n) i) p q u h,
    )

-- the offset of a path is that of its beginning, and then that in the subterm there
pub offset-join : (t : Term) (p q : Path) (u : Term) → subterm t p ≡ Some u
    → offset t (p ++ q) ≡ offset t p + offset u q
offset-join t p q u h = omega (
  arith,
  offset-lens t (p ++ q),
  offset-lens t p,
  offset-lens u q,
  offset_of-join (Some t) p q u h,
)

-- ---- the text at a path

-- the text of the forest's children, one after the other
pub joined-terms : (f : Forest) → forest_text f ≡ joined_text (terms f)
joined-terms empty = refl
joined-terms (node_then n f) = ap (λ bs. node_text n ++ bs) (joined-terms f)
joined-terms (token_then t f) = ap (λ bs. t.text ++ bs) (joined-terms f)

-- the text of children before a place, of the child there, if there is one, and of those behind it
pub joined-around : (ts : List Term) (i : ℕ)
    → joined_text ts ≡ joined_text (take i ts)
    ++ (text_of (slice_get ts i) ++ joined_text (drop (suc i) ts))
joined-around [] zero = refl
joined-around [] (suc i) = refl
joined-around (t ∷ ts) zero = refl
joined-around (t ∷ ts) (suc i) =
    ap (λ bs. term_text t ++ bs) (joined-around ts i)
    ∙ sym (append_assoc (term_text t) (joined_text (take i ts))
    (text_of (slice_get ts i) ++ joined_text (drop (suc i) ts)))

-- the subterm's text lies in the text, behind as many bytes as the offset says
record Lies (t : Option Term) (p : Path) (u : Term) : Type 0 where
  before : List ℕ
  behind : List ℕ
  whole : text_of t ≡ before ++ (term_text u ++ behind)
  start : length before ≡ offset_of t p

lies : (t : Option Term) (p : Path) (u : Term) → subterm_of t p ≡ Some u → Lies t p u
lies None p u h = absurd cc
lies (Some t) [] u h =
    let e : t ≡ u = cc in
    record {
      before = [];
      behind = [];
      whole = ap term_text e ∙ sym (append-nil (term_text u));
      start = sym (sym (offset-lens t []) ∙ offset-empty t);
    }
lies (Some (Token t)) (i ∷ p) u h = absurd cc
lies (Some (Node (node k f))) (i ∷ p) u h =
    let cs = terms f in
    let r = lies (slice_get cs i) p u h in
    let first = joined_text (take i cs) in
    let last = joined_text (drop (suc i) cs) in
    record {
      before = first ++ r.before;
      behind = r.behind ++ last;
      whole =
          joined-terms f ∙ joined-around cs i ∙ ap (λ bs. first ++ (bs ++ last)) r.whole
          ∙ ap (λ bs. first ++ bs) (append_assoc r.before (term_text u ++ r.behind) last
          ∙ ap (λ bs. r.before ++ bs) (append_assoc (term_text u) r.behind last))
          ∙ sym (append_assoc first r.before (term_text u ++ (r.behind ++ last)));
      start = omega (
        arith,
        length-append first r.before,
        r.start,
        length-joined_text (take i cs),
        lens_before-node (node k f) i p,
      );
    }

lies-at : (t : Term) (p : Path) (u : Term) → subterm t p ≡ Some u → Lies (Some t) p u
lies-at t p u h = lies (Some t) p u h

-- the text at a path is the text cut at the range of the path
pub text-cut : (t : Term) (p : Path)
    → text_of (subterm t p) ≡ slice_range (term_text t) (range t p).start (range t p).end
text-cut t p = at (subterm t p) refl
  where
    at : (u : Option Term) → subterm t p ≡ u
        → text_of u ≡ slice_range (term_text t) (offset t p) (offset t p + len_of u)
    at None e =
        let none : 0 ≡ (offset t p + 0) - offset t p = omega arith in
        ap (λ n. take n (drop (offset t p) (term_text t))) none
    at (Some u) e =
        let r = lies (Some t) p u e in
        let o : length r.before ≡ offset t p = r.start ∙ sym (offset-lens t p) in
        let n : term_len u ≡ (offset t p + term_len u) - offset t p = omega arith in
        let rest = sym (drop-append_seam r.before (term_text u ++ r.behind))
        ∙ ap (λ bs. drop (length r.before) bs) (sym r.whole)
        ∙ ap (λ k. drop k (term_text t)) o in
        sym (take-append_seam (term_text u) r.behind) ∙ ap (λ bs. take (term_len u) bs) rest
        ∙ ap (λ k. take k (drop (offset t p) (term_text t))) n

-- the range of a subterm ends within the text
pub range-within : (t : Term) (p : Path) (u : Term) → subterm t p ≡ Some u
    → (range t p).end ≤ term_len t
range-within t p u h =
    let r = lies (Some t) p u h in
    omega (
      arith,
      ap len_of h,
      r.start,
      offset-lens t p,
      ap length r.whole,
      length-append r.before (term_text u ++ r.behind),
      length-append (term_text u) r.behind,
    )

-- the leaves before a path have no more bytes than all of them
lens_before-lens : (p : Path) (ls : List LeafAt) → lens_before p ls ≤ lens ls
lens_before-lens p [] = omega arith
lens_before-lens p (l ∷ ls) =
    omega (arith, part (stands_before l.0 p) (token_len l.1), lens_before-lens p ls)
  where
    part : (b : Bool) (n : ℕ) → cond b n 0 ≤ n
    part true n = omega arith
    part false n = omega arith

lens-term : (t : Term) → lens (leaves t) ≡ term_len t
lens-term (Node n) = lens-node n
lens-term (Token t) = omega arith

-- the range of each path ends within the text, also where nothing stands
pub offset_of-within : (t : Option Term) (p : Path)
    → offset_of t p + len_of (subterm_of t p) ≤ len_of t
offset_of-within None p = omega arith
offset_of-within (Some t) p = at (subterm t p) refl
  where
    at : (u : Option Term) → subterm t p ≡ u → lens_before p (leaves t) + len_of u ≤ term_len t
    at None e = omega (arith, lens_before-lens p (leaves t), lens-term t)
    at (Some u) e = omega (arith, range-within t p u e, offset-lens t p, ap len_of e)
