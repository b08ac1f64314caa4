-- Laws of coverings: what covers a range has it, and what covers one byte is a token.
use Rattle.std.proofs.Common.{◌≡◌, ℕ, suc, ◌+◌, ◌-◌, ◌<◌, List, [], ◌∷◌, ◌++◌, Some, refl, sym, ◌∙◌}
use Rattle.std.proofs.Common.{ap, subst, arith, inl, inr, append_assoc, Bool, true, false}
use Rattle.std.proofs.lemmas.Bool.{cases_lt}
use Rattle.std.proofs.lemmas.List.{append-nil}
use Rattle.rowan_green.specs.declared.utility_types.NodeOrToken.TheVariants.{Node, Token}
use Rattle.rowan_green.specs.Search.{child_start, child_end, HasRange, IsChildAt, has_bytes}
use Rattle.rowan_green.specs.Span.{Span}
use Rattle.rowan_green.specs.Term.{NodeTerm, Term, node_children, term_len, sum_of_lens}
use Rattle.rowan_terms.specs.Path.{Path, subterm, begins, offset, len_of, range}
use Rattle.rowan_green.proofs.SearchLemmas.{has-range}
use Rattle.rowan_table.specs.Moves.{children_of, Element, is_node_at, element_if, element_at}
use Rattle.rowan_table.specs.Moves.{place_of, cursor_at}
use Rattle.rowan_table.specs.Search.{LiesIn, IsRangeChild, IsChain, chain_end, Covers, IsLeafOver}
use Rattle.rowan_table.specs.Search.{StandsWhere}
use Rattle.rowan_table.proofs.PathLemmas.{subterm-child, offset-child, child_start-next}
use Rattle.rowan_table.proofs.PathLemmas.{node_len-children, begins-own, begins-rest}
use Rattle.rowan_table.proofs.TableLemmas.{slice_get-some}

-- an element at or below another, where the range lies in both
pub record HasSpan (root : NodeTerm) (span : Span) (p q : Path) : Type 0 where
  pub rest : Path
  pub path : q ≡ p ++ rest
  pub term : Term
  pub stands : subterm (Node root) q ≡ Some term
  pub lies : LiesIn span (range (Node root) q)

-- the child at a range has it
pub child-has_span : (root : NodeTerm) (span : Span) (p q : Path) → IsRangeChild root span p q
    → HasSpan root span p q
child-has_span root span p q c =
    let ts = children_of (subterm (Node root) p) in
    let i = c.place in
    let own = p ++ i ∷ [] in
    let r : HasRange ts (span.start - offset (Node root) p) (span.end - offset (Node root) p) i =
    has-range ts (span.start - offset (Node root) p) (span.end - offset (Node root) p) i c.child in
    let t = slice_get-some ts i r.place in
    let there : subterm (Node root) own ≡ Some t.0 = subterm-child (Some (Node root)) p i ∙ t.1 in
    let from : offset (Node root) own ≡ offset (Node root) p + child_start ts i =
    offset-child root p i r.place in
    let to : child_end ts i ≡ child_start ts i + len_of (subterm (Node root) own) =
    omega (arith, child_start-next ts i r.place, ap len_of t.1, ap len_of there) in
    let at : q ≡ own = c.path in
    record {
      rest = i ∷ [];
      path = at;
      term = t.0;
      stands = ap (subterm (Node root)) at ∙ there;
      lies = subst (λ x. LiesIn span (range (Node root) x)) (sym at)
          (omega (arith, r.from, c.from), omega (arith, r.to));
    }

pub span-again : (root : NodeTerm) (span : Span) (p q r : Path) → HasSpan root span p q
    → HasSpan root span q r → HasSpan root span p r
span-again root span p q r a b = record {
  rest = a.rest ++ b.rest;
  path = b.path ∙ ap (λ x. x ++ b.rest) a.path ∙ append_assoc p a.rest b.rest;
  term = b.term;
  stands = b.stands;
  lies = b.lies;
}

pub span-here : (root : NodeTerm) (span : Span) (p : Path) (t : Term)
    → subterm (Node root) p ≡ Some t → LiesIn span (range (Node root) p) → HasSpan root span p p
span-here root span p t there h = record {
  rest = [];
  path = sym (append-nil p);
  term = t;
  stands = there;
  lies = h;
}

chain-has_span : (root : NodeTerm) (span : Span) (top p : Path) (qs : List Path)
    → HasSpan root span top p → IsChain root span p qs → HasSpan root span top (chain_end p qs)
chain-has_span root span top p [] h c = h
chain-has_span root span top p (q ∷ qs) h c =
    chain-has_span root span top q qs (span-again root span top p q h
    (child-has_span root span p q c.0)) c.1

chain-ends : (root : NodeTerm) (span : Span) (p : Path) (qs : List Path) → IsChain root span p qs
    → (q : Path) → ¬ IsRangeChild root span (chain_end p qs) q
chain-ends root span p [] c = c
chain-ends root span p (q ∷ qs) c = chain-ends root span q qs c.1

-- what covers a range has it, and has no child that does
pub covers-has_span : (root : NodeTerm) (span : Span) (p q : Path) (t : Term)
    → subterm (Node root) p ≡ Some t → LiesIn span (range (Node root) p) → Covers root span p q
    → HasSpan root span p q
covers-has_span root span p q t there h c = subst (HasSpan root span p) (sym c.last)
    (chain-has_span root span p p c.chain (span-here root span p t there h) c.is)

pub covers-ends : (root : NodeTerm) (span : Span) (p q : Path) → Covers root span p q → (r : Path)
    → ¬ IsRangeChild root span q r
covers-ends root span p q c = subst (λ x. (r : Path) → ¬ IsRangeChild root span x r) (sym c.last)
    (chain-ends root span p c.chain c.is)

-- ---- one byte

-- each byte of a node is one of a child
child-over : (ts : List Term) (x : ℕ) → x < sum_of_lens ts → (k : ℕ) × HasRange ts x (x + 1) k
child-over [] x h = absurd (omega arith)
child-over (t ∷ ts) x h = elim (cases_lt x (term_len t)) [
  | inl less ↦ (0, record { place = omega arith; from = omega arith; to = omega arith })
  | inr more ↦ (
      let r = child-over ts (x - term_len t) (omega arith) in
      let next : suc r.0 + 1 ≡ suc (r.0 + 1) = omega arith in
      let end : child_end (t ∷ ts) (suc r.0) ≡ term_len t + child_end ts r.0 =
      ap (child_start (t ∷ ts)) next in (
        suc r.0,
        record {
          place = omega (arith, r.1.place);
          from = omega (arith, r.1.from);
          to = omega (arith, r.1.to);
        },
      ))
]

abbrev pub byte_at : ℕ → Span
byte_at x = record { start = x; end = x + 1 }

node-goes_on : (root : NodeTerm) (x : ℕ) (p : Path) (n : NodeTerm)
    → subterm (Node root) p ≡ Some (Node n) → LiesIn (byte_at x) (range (Node root) p)
    → (q : Path) × IsRangeChild root (byte_at x) p q
node-goes_on root x p n there h =
    let ts = children_of (subterm (Node root) p) in
    let o = offset (Node root) p in
    let same : ts ≡ node_children n = ap children_of there in
    let r = child-over (node_children n) (x - o)
    (omega (arith, node_len-children n, ap len_of there, h.0, h.1)) in
    let next : x - o + 1 ≡ x + 1 - o = omega (arith, h.0) in
    let own : IsChildAt (node_children n) (x - o) (x + 1 - o) r.0 =
    has_bytes (omega (arith, h.0)) (subst (λ b. HasRange (node_children n) (x - o) b r.0) next
    r.1) in (
      p ++ r.0 ∷ [],
      record {
        place = r.0;
        path = refl;
        from = h.0;
        child = subst (λ us. IsChildAt us (x - o) (x + 1 - o) r.0) (sym same) own;
      },
    )

token-over : (root : NodeTerm) (x : ℕ) (p q : Path) (t : Term) → subterm (Node root) q ≡ Some t
    → HasSpan root (byte_at x) p q → ((r : Path) → ¬ IsRangeChild root (byte_at x) q r)
    → IsLeafOver root x p q
token-over root x p q (Node n) there h none = let c = node-goes_on root x q n there h.lies in
    absurd (none c.0 c.1)
token-over root x p q (Token t) there h none = record {
  token = t;
  is = there;
  below = ap (begins p) h.path ∙ begins-own p h.rest;
  from = h.lies.0;
  to = omega (arith, h.lies.1, ap len_of there);
}

-- what covers a byte is a token
pub covers-byte : (root : NodeTerm) (x : ℕ) (p q : Path) (t : Term) → subterm (Node root) p ≡ Some t
    → LiesIn (byte_at x) (range (Node root) p) → Covers root (byte_at x) p q → IsLeafOver root x p q
covers-byte root x p q t there h c =
    let s = covers-has_span root (byte_at x) p q t there h c in
    token-over root x p q s.term s.stands s (covers-ends root (byte_at x) p q c)

-- ---- two bytes

abbrev pub two_bytes_at : ℕ → Span
two_bytes_at x = record { start = x; end = x + 2 }

-- a token over a byte of what has a range, which is at or below another element, is at or below
-- that one
pub leaf-below : (root : NodeTerm) (span : Span) (x : ℕ) (p q r : Path) → HasSpan root span p q
    → IsLeafOver root x q r → IsLeafOver root x p r
leaf-below root span x p q r s h =
    let rest = begins-rest q r h.below in
    let path : r ≡ p ++ (s.rest ++ rest.0) = rest.1 ∙ ap (λ u. u ++ rest.0) s.path
    ∙ append_assoc p s.rest rest.0 in
    record {
      token = h.token;
      is = h.is;
      below = ap (begins p) path
          ∙ begins-own p (s.rest ++ rest.0);
      from = h.from;
      to = h.to;
    }

-- ---- elements

pub place_of-element : (root : NodeTerm) (q : Path)
    → place_of (element_at root q) ≡ cursor_at root q
place_of-element root q = by (is_node_at root q)
  where
    by : (b : Bool) → place_of (element_if b (cursor_at root q)) ≡ cursor_at root q
    by true = refl
    by false = refl

pub place_of-stands : (root : NodeTerm) (P : Path → Type 0) (e : Element) (s : StandsWhere root P e)
    → place_of e ≡ cursor_at root s.path
place_of-stands root P e s = ap place_of s.is ∙ place_of-element root s.path
