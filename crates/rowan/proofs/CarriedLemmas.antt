-- Pointers over replacements: where the range of a node goes that stands beside one, and to which
-- node its pointer leads.
use Rattle.std.proofs.Common.{◌≡◌, ℕ, suc, ◌+◌, ◌-◌, ◌<◌, ◌≤◌, List, [], ◌∷◌, ◌++◌, length, Option}
use Rattle.std.proofs.Common.{Some, None, inl, inr, refl, sym, ◌∙◌, ap, subst, arith, Bool, true}
use Rattle.std.proofs.Common.{false, cond, not, ◌&&◌, if◌then◌else◌}
use Rattle.std.specs.Prelude.{slice_get, nat_le, IsSomeAnd}
use Rattle.std.specs.List.{find}
use Rattle.std.specs.Option.{option_map, option_map_or, option_and_then}
use Rattle.std.proofs.lemmas.Bool.{cases_order, cases_lt, le-leb, lt-leb, true≢false}
use Rattle.std.proofs.lemmas.Option.{slice_get_within}
use Rattle.rowan_green.specs.declared.utility_types.NodeOrToken.TheVariants.{Node, Token}
use Rattle.rowan_green.specs.Fits.{byte_limit}
use Rattle.rowan_terms.specs.Path.{Path, subterm_of, subterm, begins, stands_before, offset, len_of}
use Rattle.rowan_terms.specs.Path.{range, put, separate, shifted, moved, moved_range}
use Rattle.rowan_green.specs.Search.{child_start}
use Rattle.rowan_green.specs.Span.{Span}
use Rattle.rowan_green.specs.Term.{NodeTerm, node_kind, node_children, node_len, Term, term_kind}
use Rattle.rowan_green.specs.Term.{term_len}
use Rattle.rowan_terms.proofs.OffsetLemmas.{before_at_same, before_at_greater, offset_of}
use Rattle.rowan_terms.proofs.OffsetLemmas.{offset-lens, lens_before-node, range-within}
use Rattle.rowan_terms.proofs.PutLemmas.{subterm-apart}
use Rattle.rowan_terms.proofs.PutRanges.{range-apart}
use Rattle.rowan_green.proofs.SearchLemmas.{child_start-le}
use Rattle.rowan_terms.proofs.SeparateLemmas.{Part, part-separate, before-separate, separate-sym}
use Rattle.rowan_table.specs.Cursor.{Cursor, kind}
use Rattle.rowan_table.specs.Moves.{cursor_at}
use Rattle.rowan_table.specs.Search.{IsChain}
use Rattle.rowan_table.proofs.PathLemmas.{child_start-next, begins-own}
use Rattle.rowan.specs.Ast.{casts_at, if_casts}
use Rattle.rowan.specs.Pointer.{Pointer, pointer_to, means_kind, is_node_of, is_meant, IsFirstMeant}
use Rattle.rowan.specs.Pointer.{resolves_from, Resolves, range_behind, range_after, carried}
use Rattle.rowan.specs.Pointer.{LeadsAbove}
use Rattle.rowan.proofs.ChainLemmas.{none-some, FoundAbove, find-way}
use Rattle.rowan.proofs.PointerLemmas.{range-meant}

-- ---- one text before another

-- a child and what is in it
data Child (t : Option Term) : Type 0 where
  child : (c : Term) → t ≡ Some c → Child t

child-of : (t : Option Term) (p : Path) (u : Term) → subterm_of t p ≡ Some u → Child t
child-of None p u h = absurd (none-some u h)
child-of (Some t) p u h = child t refl

ends-in : (t : Option Term) (p : Path) (u : Term) → subterm_of t p ≡ Some u
    → offset_of t p + term_len u ≤ len_of t
ends-in None p u h = absurd (none-some u h)
ends-in (Some t) p u h = omega (arith, range-within t p u h, offset-lens t p, ap len_of h)

child-before : (ts : List Term) (i j : ℕ) (c : Term) → slice_get ts i ≡ Some c → i < j
    → child_start ts i + term_len c ≤ child_start ts j
child-before ts i j c e h =
    omega (
      arith,
      child_start-next ts i (slice_get_within ts i c e),
      ap len_of e,
      child_start-le ts (i + 1) j (omega (arith, h)),
    )

token-inside : (i : ℕ) (p : Path) (u : Term) → subterm_of None p ≡ Some u → ⊥
token-inside i p u h = none-some u h

ends-before : (t : Option Term) (p q : Path) (u w : Term) → subterm_of t p ≡ Some u
    → subterm_of t q ≡ Some w → Part p q → stands_before p q ≡ true
    → offset_of t p + term_len u ≤ offset_of t q
ends-before None p q u w h k r b = absurd (none-some u h)
ends-before (Some t) [] q u w h k r b = absurd r
ends-before (Some t) (i ∷ p) [] u w h k r b = absurd r
ends-before (Some (Token t)) (i ∷ p) (j ∷ q) u w h k r b = absurd (none-some u h)
ends-before (Some (Node n)) (i ∷ p) (j ∷ q) u w h k r b =
    let cs = node_children n in
    let first = lens_before-node n i p in
    let second = lens_before-node n j q in
    elim (cases_order i j) [
      | inr (inl l) ↦ elim (child-of (slice_get cs i) p u h) [
        | child c e ↦ omega (
          arith,
          first,
          second,
          ends-in (slice_get cs i) p u h,
          ap len_of e,
          child-before cs i j c e l,
        )
      ]
      | inr (inr g) ↦ absurd (true≢false (sym b ∙ before_at_greater i j p q g))
      | inl e ↦ elim r [
        | inl other ↦ absurd (other e)
        | inr rest ↦ (
            let k' : subterm_of (slice_get cs i) q ≡ Some w = ap (λ m. subterm_of (slice_get cs m)
            q) e ∙ k in
            let b' : stands_before p q ≡ true = sym (before_at_same i p q)
            ∙ ap (λ m. stands_before (i ∷ p) (m ∷ q)) e ∙ b in
            let same : child_start cs j + offset_of (slice_get cs j) q ≡ child_start cs i
            + offset_of (slice_get cs i) q = ap (λ m. child_start cs m + offset_of
            (slice_get cs m) q) (sym e) in
            omega (arith, first, second, same, ends-before (slice_get cs i) p q u w h k' rest.1 b')
            )
      ]
    ]

ends-apart : (t : Term) (p q : Path) (u w : Term) → subterm t p ≡ Some u → subterm t q ≡ Some w
    → separate p q ≡ true → stands_before p q ≡ true → (range t p).end ≤ (range t q).start
ends-apart t p q u w h k r b =
    omega (
      arith,
      offset-lens t p,
      offset-lens t q,
      ap len_of h,
      ends-before (Some t) p q u w h k (part-separate p q r) b,
    )

-- ---- ranges carried over an edit

after-before : (edited r : Span) (new : ℕ) → r.end ≤ edited.start
    → range_after edited new r ≡ Some r
after-before edited r new h =
    ap (λ b. if b then Some r else (if nat_le edited.end r.start then range_behind edited new r
    else None)) (le-leb r.end edited.start h)

after-behind : (edited r : Span) (old new : ℕ) → edited.end ≡ edited.start + old
    → edited.end ≤ r.start → edited.start < r.end → (shifted old new r).end ≤ byte_limit
    → range_after edited new r ≡ Some (shifted old new r)
after-behind edited r old new e h some fits =
    let len : edited.end - edited.start ≡ old = omega (arith, e) in
    ap (λ b. if b then Some r else (if nat_le edited.end r.start then range_behind edited new r
    else None)) (lt-leb r.end edited.start some)
    ∙ ap (λ b. if b then range_behind edited new r else None) (le-leb edited.end r.start h)
    ∙ ap (λ n. let m = shifted n new r in if nat_le m.end byte_limit then Some m else None) len
    ∙ ap (λ b. if b then Some (shifted old new r) else None) (le-leb (shifted old new r).end
    byte_limit fits)

-- the range of a subterm with text beside a replacement goes where that subterm stands afterwards
pub range-carried : (t : Term) (p q : Path) (u v w : Term) → subterm t p ≡ Some w
    → subterm t q ≡ Some v → separate p q ≡ true → 0 < term_len v
    → term_len (put t p u) ≤ byte_limit
    → range_after (range t p) (term_len u) (range t q) ≡ Some (range (put t p u) q)
range-carried t p q u v w h k r some fits = by (stands_before q p) refl
  where
    goes : range (put t p u) q ≡ moved p (len_of (subterm t p)) (term_len u) q (range t q)
    goes = range-apart t p q u w h r

    stands : subterm (put t p u) q ≡ Some v
    stands = subterm-apart t p q u r ∙ k

    by : (b : Bool) → stands_before q p ≡ b
        → range_after (range t p) (term_len u) (range t q) ≡ Some (range (put t p u) q)
    by true e =
        after-before (range t p) (range t q) (term_len u) (ends-apart t q p v w k h
        (separate-sym q p ∙ r) e)
        ∙ ap Some (sym (goes ∙ ap (λ b. if b then range t q else shifted (len_of (subterm t p))
        (term_len u) (range t q)) e))
    by false e =
        let before : stands_before p q ≡ true = before-separate p q r ∙ ap not e in
        let shift : range (put t p u) q ≡ shifted (len_of (subterm t p)) (term_len u) (range t q) =
        goes ∙ ap (λ b. if b then range t q else shifted (len_of (subterm t p)) (term_len u)
        (range t q)) e in
        let end : (range (put t p u) q).end ≡ (shifted (len_of (subterm t p)) (term_len u)
        (range t q)).end = ap (λ s. s.end) shift in
        let apart = ends-apart t p q w v h k r before in
        after-behind (range t p) (range t q) (len_of (subterm t p)) (term_len u) refl apart
        (omega (arith, apart, ap len_of k, some)) (omega (
          arith,
          end,
          range-within (put t p u) q
              v stands,
          fits,
        ))
        ∙ ap Some (sym shift)

-- the pointer is carried to the pointer of the same node
pub pointer-carried : {K : Type 0} (meaning : ℕ → K) (root new : NodeTerm) (p q : Path) (u w : Term)
    (n : NodeTerm) → put (Node root) p u ≡ Node new → node_len new ≤ byte_limit
    → subterm (Node root) p ≡ Some w → subterm (Node root) q ≡ Some (Node n) → separate p q ≡ true
    → 0 < node_len n
    → option_and_then (carried (range (Node root) p) (term_len u)) (pointer_to meaning
    (cursor_at root q)) ≡ pointer_to meaning (cursor_at new q)
pointer-carried {K} meaning root new p q u w n is fits h k r some =
    let there : subterm (Node new) q ≡ Some (Node n) = ap (λ t. subterm t q) (sym is)
    ∙ subterm-apart (Node root) p q u r ∙ k in
    let goes : range_after (range (Node root) p) (term_len u) (range (Node root) q)
    ≡ Some (range (Node new) q) =
    range-carried (Node root) p q u (Node n) w h k r some (omega (arith, ap term_len is, fits))
    ∙ ap (λ t. Some (range t q)) is in
    let at : NodeTerm → Option Term → Option (Pointer K) = λ root o. option_map (λ raw. record {
      kind = meaning raw;
      range = range (Node root) q;
    }) (option_map term_kind o) in
    let with_range : Span → Pointer K = λ s. record { kind = meaning (node_kind n); range = s } in
    ap (λ o. option_and_then (carried {K = K} (range (Node root) p) (term_len u)) (at root o)) k
    ∙ ap (option_map with_range) goes
    ∙ sym (ap (at new) there)

-- ---- where a pointer leads

and-left : (a b : Bool) → (a && b) ≡ true → a ≡ true
and-left true b e = refl
and-left false b e = absurd (true≢false (sym e))

and-right : (a b : Bool) → (a && b) ≡ true → b ≡ true
and-right true b e = e
and-right false b e = absurd (true≢false (sym e))

kind-of : {K : Type 0} (meaning : ℕ → K) (r : Span) (root : NodeTerm) (q : Path) (n : NodeTerm)
    (k : Pointer K) → subterm (Node root) q ≡ Some (Node n)
    → pointer_to meaning (cursor_at root q) ≡ Some k → (k.range ≡ range (Node root) q)
    × (k.kind ≡ meaning (node_kind n))
kind-of meaning r root q n k there e =
    let is : ◌≡◌ {A = Option (Pointer _)} (Some (record {
      kind = meaning (node_kind n);
      range = range (Node root) q;
    })) (Some k) = sym (ap (λ o. option_map (λ raw. record {
      kind = meaning raw;
      range = range (Node root) q;
    }) (option_map term_kind o)) there) ∙ e in
    let same : record { kind = meaning (node_kind n); range = range (Node root) q } ≡ k = cc in
    (sym (ap (λ x. x.range) same), sym (ap (λ x. x.kind) same))

-- the pointer of a node with text leads to the node, or to one above it of the same range
pub leads-above : {K : Type 0} (meaning : ℕ → K) (same : K → K → Bool) (root : NodeTerm) (q : Path)
    (n : NodeTerm) (k : Pointer K) (found : Option Cursor) → ((x : K) → same x x ≡ true)
    → subterm (Node root) q ≡ Some (Node n) → 0 < node_len n
    → pointer_to meaning (cursor_at root q) ≡ Some k
    → Resolves (means_kind meaning same k.kind) k.range (cursor_at root []) found
    → LeadsAbove (means_kind meaning same k.kind) k.range root q found
leads-above meaning same root q n k found itself there some e f =
    let means = means_kind meaning same k.kind in
    let is = kind-of meaning k.range root q n k there e in
    let node : is_node_of means (subterm (Node root) q) ≡ true = ap (is_node_of means) there
    ∙ ap (λ x. same x k.kind) (sym is.1) ∙ itself k.kind in
    let own : is_meant means k.range root q ≡ true = range-meant means k.range root q
    (ap (λ s. s.start) (sym is.0)) (ap (λ s. s.end) (sym is.0)) ∙ node in
    let chain : IsChain root (range (Node root) q) [] f.chain =
    subst (λ s. IsChain root s [] f.chain) is.0 f.is in
    let way = find-way q (is_meant means k.range root) root q [] f.chain (Node n) refl there some
    own chain in
    record {
      path = way.path;
      is = f.first ∙ ap (option_map (cursor_at root)) way.is;
      above = ap (begins way.path) way.above ∙ begins-own way.path way.rest;
      meant = way.true;
    }

-- ---- what is found casts

find-holds : (holds : Path → Bool) (xs : List Path) (q : Path) → find holds xs ≡ Some q
    → holds q ≡ true
find-holds holds [] q e = absurd (none-some q e)
find-holds holds (x ∷ xs) q e = by (λ e. find-holds holds xs q e) (holds x) refl e
  where
    by : (find holds xs ≡ Some q → holds q ≡ true) → (b : Bool) → holds x ≡ b
        → cond b (Some x) (find holds xs) ≡ Some q → holds q ≡ true
    by rest true h e = let is : x ≡ q = cc in ap holds (sym is) ∙ h
    by rest false h e = rest e

found-at : (root : NodeTerm) (o : Option Path) (d : Cursor) → Some d ≡ option_map (cursor_at root) o
    → (q : Path) × (o ≡ Some q) × (d ≡ cursor_at root q)
found-at root None d e = absurd (none-some d (sym e))
found-at root (Some q) d e = (q, refl, cc)

meant-casts : {K : Type 0} (meaning : ℕ → K) (same : K → K → Bool) (casts : K → Bool) (k : K)
    (t : Option Term) → ((a b : K) → same a b ≡ true → casts a ≡ casts b) → casts k ≡ true
    → is_node_of (means_kind meaning same k) t ≡ true
    → option_map_or casts (option_map meaning (option_map term_kind t)) false ≡ true
meant-casts meaning same casts k None alike h e = absurd (true≢false (sym e))
meant-casts meaning same casts k (Some (Token t)) alike h e = absurd (true≢false (sym e))
meant-casts meaning same casts k (Some (Node n)) alike h e = alike (meaning (node_kind n)) k e ∙ h

-- where the kind of a pointer casts, so does the node that it leads to
pub resolved-casts : {K : Type 0} (meaning : ℕ → K) (same : K → K → Bool) (casts : K → Bool) (k : K)
    (span : Span) (c d : Cursor) → ((a b : K) → same a b ≡ true → casts a ≡ casts b)
    → casts k ≡ true → Resolves (means_kind meaning same k) span c (Some d)
    → if_casts (casts_at meaning casts) d ≡ Some d
resolved-casts meaning same casts k span c d alike h f = by c.path f
  where
    means : ℕ → Bool
    means = means_kind meaning same k

    by : (p : Path) → resolves_from p means span c.root (Some d)
        → if_casts (casts_at meaning casts) d ≡ Some d
    by (i ∷ p) f = absurd (none-some d (sym f))
    by [] f =
        let at = found-at c.root (find (is_meant means span c.root) ([] ∷ f.chain)) d f.first in
        let meant = find-holds (is_meant means span c.root) ([] ∷ f.chain) at.0 at.1 in
        let node = and-right _ _ meant in
        let there = meant-casts meaning same casts k (subterm (Node c.root) at.0) alike h node in
        ap (λ b. if b then Some d else None) (ap (casts_at meaning casts) at.2 ∙ there)

-- a pointer whose kind casts leads to a wrapper where it leads to a node
pub wrapper-found : {N K : Type 0} (meaning : ℕ → K) (same : K → K → Bool) (casts : K → Bool)
    (node_of : N → Cursor) (raw k : Pointer K) (c d : Cursor) (found : Option Cursor)
    (wrapper : Option N) → ((a b : K) → same a b ≡ true → casts a ≡ casts b) → casts raw.kind ≡ true
    → raw ≡ k → Resolves (means_kind meaning same raw.kind) raw.range c found → found ≡ Some d
    → option_map node_of wrapper ≡ if_casts (casts_at meaning casts) d
    → Resolves (means_kind meaning same k.kind) k.range c (option_map node_of wrapper)
wrapper-found meaning same casts node_of raw k c d found wrapper alike h e f is w =
    let leads : Resolves (means_kind meaning same raw.kind) raw.range c (Some d) =
    subst (λ o. Resolves (means_kind meaning same raw.kind) raw.range c o) is f in
    let cast : option_map node_of wrapper ≡ Some d = w
    ∙ resolved-casts meaning same casts raw.kind raw.range c d alike h leads in
    subst (λ x. Resolves (means_kind meaning same x.kind) x.range c (option_map node_of wrapper)) e
    (subst (λ o. Resolves (means_kind meaning same raw.kind) raw.range c o) (sym cast) leads)
