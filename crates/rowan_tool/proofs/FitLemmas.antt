-- The tree of a text that is not too long is within the limits: no node has more children than its
-- text has bytes.
use Rattle.std.proofs.Common.{◌≡◌, ℕ, ◌<◌, ◌≤◌, Bool, true, false, ◌&&◌, List, [], ◌∷◌, ◌++◌}
use Rattle.std.proofs.Common.{length, inl, inr, refl, sym, ◌∙◌, ap, subst, arith, length-append}
use Rattle.rowan_green.specs.Fits.{byte_limit, FitsNode, FitForest}
use Rattle.rowan_green.specs.Term.{TokenTerm, NodeTerm, node, Forest, empty, node_then, token_then}
use Rattle.rowan_green.specs.Term.{terms, node_text, forest_text, node_len}
use Rattle.rowan_green.proofs.Terms.{node_len-children}
use Rattle.rowan_sexp.specs.Grammar.{is_empty, IsElement, AreElements, IsParse}
use Rattle.rowan_sexp.proofs.GrammarLemmas.{node_tokens, forest_tokens, tokens-node}
use Rattle.rowan_tool.proofs.ReparseLemmas.{AreSome, some-lexed, parse-text}

-- these children are not too many, and within the limits themselves
record AreFit (f : Forest) : Type 0 where
  few : length (terms f) ≤ length (forest_text f)
  fit : FitForest f

some-split : (ts us : List TokenTerm) → AreSome (ts ++ us) → AreSome ts × AreSome us
some-split [] us h = (tt, h)
some-split (t ∷ ts) us h = let rest = some-split ts us h.1 in ((h.0, rest.0), rest.1)

fit-empty : (f : Forest) → f ≡ empty → AreFit f
fit-empty f e = subst AreFit (sym e) (record { few = omega arith; fit = tt })

-- one more token in front
fit-token : (t : TokenTerm) (f : Forest) → 0 < length t.text
    → length (forest_text (token_then t f)) ≤ byte_limit → AreFit f → AreFit (token_then t f)
fit-token t f some limit h = record {
  few = omega (arith, length-append t.text (forest_text f), some, h.few);
  fit = (omega (arith, length-append t.text (forest_text f), limit), h.fit);
}

fit-node : (k : ℕ) (f : Forest) → length (forest_text f) ≤ byte_limit → AreFit f
    → FitsNode (node k f)
fit-node k f limit h = (
  record {
    count = omega (arith, h.few, limit);
    text = omega (arith, node_len-children (node k f), limit);
  },
  h.fit,
)

-- the node fits, and has some text
record IsFit (n : NodeTerm) : Type 0 where
  some : 0 < node_len n
  fit : FitsNode n

fit-begins : (k : ℕ) (t : TokenTerm) (f : Forest) → 0 < length t.text
    → length (forest_text (token_then t f)) ≤ byte_limit → AreFit f
    → IsFit (node k (token_then t f))
fit-begins k t f some limit h = record {
  some = omega (arith, length-append t.text (forest_text f), some);
  fit = fit-node k (token_then t f) limit (fit-token t f some limit h);
}

mutual
  fit-element : (inside last : Bool) (n : NodeTerm) → IsElement inside last n
      → AreSome (node_tokens n) → node_len n ≤ byte_limit → IsFit n
  fit-element inside last (node k empty) h some limit = absurd h
  fit-element inside last (node k (node_then m f)) h some limit = absurd h
  fit-element inside last (node k (token_then t f)) (inl a) some limit =
      fit-begins k t f some.0 limit (fit-empty f a.alone)
  fit-element inside last (node k (token_then t f)) (inr (inl e)) some limit =
      fit-begins k t f some.0 limit (fit-empty f e.1.alone)
  fit-element inside last (node k (token_then t f)) (inr (inr l)) some limit =
      fit-begins k t f some.0 limit (fit-elements true last f l.1 some.1
      (omega (arith, length-append t.text (forest_text f), limit)))

  fit-elements : (inside last : Bool) (f : Forest) → AreElements inside last f
      → AreSome (forest_tokens f) → length (forest_text f) ≤ byte_limit → AreFit f
  fit-elements inside last empty h some limit = fit-empty empty refl
  fit-elements inside last (node_then n f) h some limit =
      let all = length-append (node_text n) (forest_text f) in
      let parts = some-split (node_tokens n) (forest_tokens f) some in
      let first = fit-element inside (last && is_empty f) n h.0 parts.0
      (omega (arith, all, limit)) in
      let rest = fit-elements inside last f h.1 parts.1 (omega (arith, all, limit)) in
      record { few = omega (arith, all, first.some, rest.few); fit = (first.fit, rest.fit) }
  fit-elements inside last (token_then t f) (inl c) some limit =
      fit-token t f some.0 limit (fit-empty f c.1.last)
  fit-elements inside last (token_then t f) (inr w) some limit =
      fit-token t f some.0 limit (fit-elements inside last f w.1 some.1
      (omega (arith, length-append t.text (forest_text f), limit)))

pub parse-fits : (text : List ℕ) (tree : NodeTerm) → IsParse text tree → length text ≤ byte_limit
    → FitsNode tree
parse-fits text (node k f) h limit =
    let within : length (forest_text f) ≤ byte_limit =
    omega (arith, limit, ap length (parse-text text (node k f) h)) in
    let some = subst AreSome (sym h.sexp.tokens ∙ tokens-node (node k f))
    (some-lexed h.lexed h.cut.each) in
    fit-node k f within (fit-elements false true f h.sexp.root.1 some within)
