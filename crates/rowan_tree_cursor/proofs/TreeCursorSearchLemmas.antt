-- The way of a tree cursor down to what covers a range.
use Rattle.std.proofs.Common.{◌≡◌, ℕ, ◌+◌, ◌<◌, ◌≤◌, [], ◌∷◌, ◌++◌, length, take, Bool}
use Rattle.std.proofs.Common.{true, false, Option, Some, None, refl, sym, ◌∙◌, ap, subst, arith}
use Rattle.std.proofs.Common.{append_assoc, inl, inr}
use Rattle.std.proofs.lemmas.List.{length-append, take-append-le}
use Rattle.std.specs.Prelude.{slice_get}
use Rattle.std.specs.Option.{option_map_or}
use Rattle.std.proofs.Math.Seq.{take-append_seam}
use Rattle.rowan_green.specs.declared.utility_types.NodeOrToken.TheVariants.{Node, Token}
use Rattle.rowan_terms.specs.Path.{Path, subterm, subterm_of, begins, offset, len_of}
use Rattle.rowan_green.specs.Sizes.{term_size}
use Rattle.rowan_green.specs.Span.{Span}
use Rattle.rowan_green.specs.Term.{NodeTerm, Term}
use Rattle.rowan_terms.proofs.OffsetLemmas.{offset-join, range-within}
use Rattle.rowan_terms.proofs.Paths.{begins-own, begins-rest}
use Rattle.rowan_table.specs.Cursor.{Cursor, term_at, text_range}
use Rattle.rowan_table.specs.Moves.{Element, place_of, cursor_at, children_of}
use Rattle.rowan_table.specs.Moves.{parent}
use Rattle.rowan_table.specs.Search.{IsRangeChild, FindsChild, Covers, IsLeafOver}
use Rattle.rowan_table.proofs.CoverLemmas.{place_of-element, child-has_span, byte_at, covers-byte}
use Rattle.rowan_table.proofs.PathLemmas.{last-split, subterm-child, subterm_of-append}
use Rattle.rowan_table.proofs.SearchLemmas.{covers_child, covers_itself}
use Rattle.rowan_cursor.proofs.SizeLemmas.{child-smaller}
use Rattle.rowan_tree_cursor.specs.TreeCursorMoves.{Goes, GoesTo, GoesToChild, GoesToCovering, GoesToByte}
use Rattle.rowan_tree_cursor.proofs.TreeCursorMoveLemmas.{parent-some}

-- ---- one step down

-- the cursor has gone to the child at a range
pub record WentToChild (span : Span) (old new : Cursor) : Type 0 where
  pub root : new.root ≡ old.root
  pub child : IsRangeChild old.root span old.path new.path

pub went : (span : Span) (old new : Cursor) (moved : Bool) → moved ≡ true
    → GoesToChild span old moved new → WentToChild span old new
went span old new moved e h =
    by h.found h.is (subst (λ b. GoesTo h.found old b new) e h.goes)
  where
    by : (found : Option Element) → FindsChild span old found → GoesTo found old true new
        → WentToChild span old new
    by None is goes = absurd (cc goes.0)
    by (Some x) is goes =
        let to : new ≡ cursor_at old.root is.path =
        goes.1 ∙ ap place_of is.is ∙ place_of-element old.root is.path in
        record {
          root = ap (λ (c : Cursor). c.root) to;
          child = subst (IsRangeChild old.root span old.path) (sym (ap (λ (c : Cursor). c.path) to))
              is.true;
        }

pub stayed : (span : Span) (old new : Cursor) (moved : Bool) → moved ≡ false
    → GoesToChild span old moved new → (q : Path) → ¬ IsRangeChild old.root span old.path q
stayed span old new moved e h =
    by h.found h.is (subst (λ b. GoesTo h.found old b new) e h.goes)
  where
    by : (found : Option Element) → FindsChild span old found → GoesTo found old false new
        → (q : Path) → ¬ IsRangeChild old.root span old.path q
    by None is goes = is
    by (Some x) is goes = absurd (cc goes.0)

pub stays-there : (span : Span) (old new : Cursor) (moved : Bool) → moved ≡ false
    → GoesToChild span old moved new → new ≡ old
stays-there span old new moved e h =
    by h.found (subst (λ b. GoesTo h.found old b new) e h.goes)
  where
    by : (found : Option Element) → GoesTo found old false new → new ≡ old
    by None goes = goes.1
    by (Some x) goes = absurd (cc goes.0)

-- the way down ends at what covers the range
pub ended : (span : Span) (top old new : Cursor) (moved : Bool) → moved ≡ false
    → GoesToChild span old moved new → old.root ≡ top.root
    → ((q : Path) → Covers top.root span old.path q → Covers top.root span top.path q)
    → Covers top.root span top.path new.path
ended span top old new moved e h root on =
    let none : (q : Path) → ¬ IsRangeChild top.root span old.path q =
    subst (λ r. (q : Path) → ¬ IsRangeChild r span old.path q) root
    (stayed span old new moved e h) in
    let same = ap (λ (c : Cursor). c.path) (stays-there span old new moved e h) in
    subst (Covers top.root span top.path) (sym same)
    (on old.path (covers_itself top.root span old.path none))

-- one step more of the way down
pub covers-on : (span : Span) (top old new : Cursor) → WentToChild span old new
    → old.root ≡ top.root
    → ((q : Path) → Covers top.root span old.path q → Covers top.root span top.path q)
    → (q : Path) → Covers top.root span new.path q → Covers top.root span top.path q
covers-on span top old new w root on q h = on q (covers_child top.root span old.path new.path q
    (subst (λ r. IsRangeChild r span old.path new.path) root w.child) h)

-- how large what stands at a cursor is
abbrev pub size_at : Cursor → ℕ
size_at c = option_map_or term_size (term_at c) 0

pub went-smaller : (span : Span) (old new : Cursor) → WentToChild span old new
    → size_at new < size_at old
went-smaller span old new w =
    let r = w.child in
    let s = child-has_span old.root span old.path new.path r in
    let there : slice_get (children_of (term_at old)) r.place ≡ Some s.term =
    sym (subterm-child (Some (Node old.root)) old.path r.place)
    ∙ ap (subterm (Node old.root)) (sym r.path) ∙ s.stands in
    let here : size_at new ≡ term_size s.term =
    ap (λ n. option_map_or term_size (subterm (Node n) new.path) 0) w.root
    ∙ ap (λ o. option_map_or term_size o 0) s.stands in
    omega (arith, here, by (term_at old) r.place s.term there)
  where
    by : (o : Option Term) (i : ℕ) (v : Term) → slice_get (children_of o) i ≡ Some v
        → term_size v < option_map_or term_size o 0
    by None i v h = absurd cc
    by (Some t) i v h = child-smaller t i v h

pub went-below : (span : Span) (top old new : Cursor) → begins top.path old.path ≡ true
    → WentToChild span old new → begins top.path new.path ≡ true
went-below span top old new h w =
    let rest = begins-rest top.path old.path h in
    let path : new.path ≡ top.path ++ (rest.0 ++ w.child.place ∷ []) =
    w.child.path ∙ ap (λ q. q ++ w.child.place ∷ []) rest.1
    ∙ append_assoc top.path rest.0 (w.child.place ∷ []) in
    ap (begins top.path) path ∙ begins-own top.path (rest.0 ++ w.child.place ∷ [])

-- ---- and back

-- the cursor has gone up by one, and its way is the same up to a depth
pub record GoneUp (depth : ℕ) (old new : Cursor) : Type 0 where
  pub root : new.root ≡ old.root
  pub shorter : length new.path < length old.path
  pub same : take depth new.path ≡ take depth old.path

pub up-one : (depth k : ℕ) (old new : Cursor) (moved : Bool) → Goes (parent old) old moved new
    → k ≡ length old.path → depth < k → GoneUp depth old new
up-one depth k old new moved h is less = elim (last-split old.path) [
  | inl e ↦ absurd (omega (arith, is, less, ap length e))
  | inr s ↦ (
      let up : parent old ≡ Some (cursor_at old.root s.0) =
      parent-some old.root s.0 old.path s.1 s.2 in
      let to = subst (λ o. Goes o old moved new) up h in
      let path : new.path ≡ s.0 = ap (λ (c : Cursor). c.path) to.1 in
      let count = ap length s.2 ∙ length-append s.0 (s.1 ∷ []) in
      record {
        root = ap (λ (c : Cursor). c.root) to.1;
        shorter = omega (arith, ap length path, count);
        same = ap (take depth) path
            ∙ sym (take-append-le depth s.0 (s.1 ∷ []) (omega (arith, is, less, count)))
            ∙ ap (take depth) (sym s.2);
      })
]

pub back-up : (p q : Path) → begins p q ≡ true → take (length p) q ≡ p
back-up p q h =
    let rest = begins-rest p q h in
    ap (take (length p)) rest.1 ∙ take-append_seam p rest.0

pub same-cursor : (c d : Cursor) → c.root ≡ d.root → c.path ≡ d.path → c ≡ d
same-cursor c d e f = ap (λ r. cursor_at r c.path) e ∙ ap (cursor_at d.root) f

-- back to where the way down began
pub back : (old down new : Cursor) (k : ℕ) → down.root ≡ old.root
    → begins old.path down.path ≡ true → new.root ≡ down.root → k ≡ length old.path
    → new.path ≡ take k down.path → new ≡ old
back old down new k root below up is path = same-cursor new old (up ∙ root)
    (path ∙ ap (λ n. take n down.path) is ∙ back-up old.path down.path below)

-- ---- one byte

-- a token below an element has its bytes in those of the element
pub leaf-within : (root : NodeTerm) (x : ℕ) (p q : Path) (t : Term) → subterm (Node root) p ≡ Some t
    → IsLeafOver root x p q
    → (offset (Node root) p ≤ x) × (x < offset (Node root) p + len_of (subterm (Node root) p))
leaf-within root x p q t here h =
    let rest = begins-rest p q h.below in
    let there : subterm t rest.0 ≡ Some (Token h.token) =
    ap (λ o. subterm_of o rest.0) (sym here) ∙ sym (subterm_of-append (Some (Node root)) p rest.0)
    ∙ ap (subterm (Node root)) (sym rest.1) ∙ h.is in
    let begin : offset (Node root) q ≡ offset (Node root) p + offset t rest.0 =
    ap (offset (Node root)) rest.1 ∙ offset-join (Node root) p rest.0 t here in
    let end = range-within t rest.0 (Token h.token) there in (
      omega (arith, begin, h.from),
      omega (arith, begin, h.to, end, ap len_of there, ap len_of here),
    )

-- where no byte of the element is at an offset, no token below has it
pub byte-absent : (x : ℕ) (c : Cursor)
    → ((text_range c).start ≤ x → x < (text_range c).end → ⊥)
    → (q : Path) → ¬ IsLeafOver c.root x c.path q
byte-absent x c none q = λ h. at (term_at c) refl h
  where
    at : (o : Option Term) → term_at c ≡ o → IsLeafOver c.root x c.path q → ⊥
    at None e h =
        let rest = begins-rest c.path q h.below in
        let gone : Some (Token h.token) ≡ None =
        sym h.is ∙ ap (subterm (Node c.root)) rest.1
        ∙ subterm_of-append (Some (Node c.root)) c.path rest.0
        ∙ ap (λ o. subterm_of o rest.0) e in
        absurd cc
    at (Some t) e h =
        let w = leaf-within c.root x c.path q t e h in
        none w.0 w.1

-- what covers a byte of the element is the token that has it
pub byte-covered : (x : ℕ) (old new : Cursor) (span : Span) → span ≡ byte_at x
    → (text_range old).start ≤ x → x < (text_range old).end → GoesToCovering span old new
    → GoesToByte x old true new
byte-covered x old new span is from to h = at (term_at old) refl
  where
    at : (o : Option Term) → term_at old ≡ o → GoesToByte x old true new
    at None e = absurd (omega (arith, from, to, ap len_of e))
    at (Some t) e = (
      h.root,
      covers-byte old.root x old.path new.path t e (from, omega (arith, to))
          (subst (λ s. Covers old.root s old.path new.path) is h.covers),
    )
