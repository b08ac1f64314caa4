-- Replacements and texts: the text before the range of what is replaced, that of what comes there,
-- and the text behind.
use Rattle.std.proofs.Common.{◌≡◌, ℕ, suc, ◌+◌, List, [], ◌∷◌, ◌++◌, length, take, drop, Option}
use Rattle.std.proofs.Common.{Some, None, sym, ◌∙◌, ap, arith, append_assoc, length-append}
use Rattle.std.specs.Prelude.{slice_get}
use Rattle.std.proofs.Math.Seq.{drop-append_seam, take-append_seam}
use Rattle.std.proofs.lemmas.List.{append-nil}
use Rattle.std.proofs.lemmas.Option.{slice_get_within}
use Rattle.rowan_green.specs.declared.utility_types.NodeOrToken.TheVariants.{Node, Token}
use Rattle.rowan_terms.specs.Path.{Path, subterm_of, subterm, len_of, text_of, offset, range}
use Rattle.rowan_terms.specs.Path.{put_of, put}
use Rattle.rowan_green.specs.Term.{node, Term, terms, term_text, joined_text}
use Rattle.rowan_terms.proofs.EditLaws.{text-replaced}
use Rattle.rowan_terms.proofs.OffsetLemmas.{offset_of, offset-lens, lens_before-node, joined-terms}
use Rattle.rowan_terms.proofs.OffsetLemmas.{joined-around}
use Rattle.rowan_terms.proofs.Paths.{offset-empty}
use Rattle.rowan_terms.proofs.PutLemmas.{child-of}
use Rattle.rowan_green.proofs.Terms.{length-joined_text}

-- the old text and the new one have the same before the range of what is replaced, and the same
-- behind
record Exchanges (t : Option Term) (p : Path) (u w : Term) : Type 0 where
  before : List ℕ
  behind : List ℕ
  old : text_of t ≡ before ++ (term_text w ++ behind)
  new : term_text (put_of t p u) ≡ before ++ (term_text u ++ behind)
  start : length before ≡ offset_of t p

-- more text on both sides
around : (first before middle behind last : List ℕ)
    → first ++ ((before ++ (middle ++ behind)) ++ last) ≡ (first ++ before)
    ++ (middle ++ (behind ++ last))
around first before middle behind last =
    ap (λ bs. first ++ bs) (append_assoc before (middle ++ behind) last
    ∙ ap (λ bs. before ++ bs) (append_assoc middle behind last))
    ∙ sym (append_assoc first before (middle ++ (behind ++ last)))

exchanges : (t : Option Term) (p : Path) (u w : Term) → subterm_of t p ≡ Some w → Exchanges t p u w
exchanges None p u w h = absurd cc
exchanges (Some t) [] u w h =
    let e : t ≡ w = cc in
    record {
      before = [];
      behind = [];
      old = ap term_text e ∙ sym (append-nil (term_text w));
      new = sym (append-nil (term_text u));
      start = sym (sym (offset-lens t []) ∙ offset-empty t);
    }
exchanges (Some (Token t)) (i ∷ p) u w h = absurd cc
exchanges (Some (Node (node k f))) (i ∷ p) u w h =
    let cs = terms f in
    let s = slice_get cs i in
    let r = exchanges s p u w h in
    let first = joined_text (take i cs) in
    let last = joined_text (drop (suc i) cs) in
    let next : i + 1 ≡ suc i = omega arith in
    let c = child-of s p w h in
    record {
      before = first ++ r.before;
      behind = r.behind ++ last;
      old = joined-terms f ∙ joined-around cs i ∙ ap (λ bs. first ++ (bs ++ last)) r.old
          ∙ around first r.before (term_text w) r.behind last;
      new =
          text-replaced k cs i (put_of s p u) (slice_get_within cs i c.0 c.1)
          ∙ ap (λ n. first ++ term_text (put_of s p u) ++ joined_text (drop n cs)) next
          ∙ append_assoc first (term_text (put_of s p u)) last
          ∙ ap (λ bs. first ++ (bs ++ last)) r.new
          ∙ around first r.before (term_text u) r.behind last;
      start = omega (
        arith,
        length-append first r.before,
        r.start,
        length-joined_text (take i cs),
        lens_before-node (node k f) i p,
      );
    }

-- the new text by the old one, cut at the range of what is replaced
pub put-text : (t : Term) (p : Path) (u w : Term) → subterm t p ≡ Some w
    → term_text (put t p u) ≡ take (range t p).start (term_text t) ++ term_text u
    ++ drop (range t p).end (term_text t)
put-text t p u w h =
    let r = exchanges (Some t) p u w h in
    let from : length r.before ≡ offset t p = r.start ∙ sym (offset-lens t p) in
    let to : length (r.before ++ term_text w) ≡ offset t p + len_of (subterm t p) =
    omega (arith, length-append r.before (term_text w), from, ap len_of h) in
    let first : take (offset t p) (term_text t) ≡ r.before =
    ap (λ n. take n (term_text t)) (sym from) ∙ ap (take (length r.before)) r.old
    ∙ take-append_seam r.before (term_text w ++ r.behind) in
    let last : drop (offset t p + len_of (subterm t p)) (term_text t) ≡ r.behind =
    ap (λ n. drop n (term_text t)) (sym to)
    ∙ ap (drop (length (r.before ++ term_text w)))
    (r.old ∙ sym (append_assoc r.before (term_text w) r.behind))
    ∙ drop-append_seam (r.before ++ term_text w) r.behind in
    r.new ∙ sym (append_assoc r.before (term_text u) r.behind)
    ∙ ap (λ bs. bs ++ term_text u ++ r.behind) (sym first)
    ∙ ap (λ bs. take (offset t p) (term_text t) ++ term_text u ++ bs) (sym last)
