-- Tokens of a text: those of a closed list in place of some of them are tokens of a text again,
-- since parentheses stand apart from everything.
use Rattle.std.proofs.Common.{◌≡◌, true, false, List, [], ◌∷◌, ◌++◌, inl, inr, refl, sym, ◌∙◌, ap}
use Rattle.std.proofs.Common.{subst}
use Rattle.std.specs.List.{AllByRecursion}
use Rattle.rowan_green.specs.Term.{TokenTerm, token_of, NodeTerm, node, node_kind, Forest, empty}
use Rattle.rowan_green.specs.Term.{node_then, token_then}
use Rattle.rowan_sexp.specs.declared.sexp.lang.SyntaxKind.{SyntaxKind}
use Rattle.rowan_sexp.specs.declared.sexp.lang.SyntaxKind.TheVariants.{L_PAREN, R_PAREN, WORD, LIST}
use Rattle.rowan_sexp.specs.Sexp.{LexedToken, IsToken, AreApart, are_one, number_of}
use Rattle.rowan_sexp.specs.Grammar.{IsElement, AreElements, token_terms}
use Rattle.rowan_sexp.proofs.GrammarLemmas.{node_tokens, forest_tokens}

-- ---- where a closed list begins and ends

abbrev pub BeginsOpen : List TokenTerm → Type 0
BeginsOpen [] = ⊥
BeginsOpen (t ∷ ts) = t.kind ≡ number_of L_PAREN

abbrev pub EndsClosed : List TokenTerm → Type 0
EndsClosed [] = ⊥
EndsClosed (t ∷ []) = t.kind ≡ number_of R_PAREN
EndsClosed (t ∷ u ∷ ts) = EndsClosed (u ∷ ts)

ends-behind : (ts us : List TokenTerm) → EndsClosed us → EndsClosed (ts ++ us)
ends-behind [] us h = h
ends-behind (t ∷ []) [] h = absurd h
ends-behind (t ∷ []) (u ∷ us) h = h
ends-behind (t ∷ s ∷ ts) us h = ends-behind (s ∷ ts) us h

ends-elements : (f : Forest) → AreElements true false f → EndsClosed (forest_tokens f)
ends-elements empty h = absurd (let wrong : false ≡ true = h in cc)
ends-elements (node_then n f) h = ends-behind (node_tokens n) (forest_tokens f)
    (ends-elements f h.1)
ends-elements (token_then t f) (inl c) =
    subst (λ g. EndsClosed (t ∷ forest_tokens g)) (sym c.1.last) c.1.parenthesis
ends-elements (token_then t f) (inr w) =
    ends-behind (t ∷ []) (forest_tokens f) (ends-elements f w.1)

pub list-begins : (n : NodeTerm) → node_kind n ≡ number_of LIST → IsElement true false n
    → BeginsOpen (node_tokens n)
list-begins (node k empty) e h = absurd h
list-begins (node k (node_then m f)) e h = absurd h
list-begins (node k (token_then t f)) e (inl a) = absurd (let wrong : 6 ≡ 5 = sym a.atom ∙ e in cc)
list-begins (node k (token_then t f)) e (inr (inl r)) =
    absurd (let wrong : true ≡ false = r.0 in cc)
list-begins (node k (token_then t f)) e (inr (inr l)) = l.0.parenthesis

pub list-ends : (n : NodeTerm) → node_kind n ≡ number_of LIST → IsElement true false n
    → EndsClosed (node_tokens n)
list-ends (node k empty) e h = absurd h
list-ends (node k (node_then m f)) e h = absurd h
list-ends (node k (token_then t f)) e (inl a) = absurd (let wrong : 6 ≡ 5 = sym a.atom ∙ e in cc)
list-ends (node k (token_then t f)) e (inr (inl r)) = absurd (let wrong : true ≡ false = r.0 in cc)
list-ends (node k (token_then t f)) e (inr (inr l)) =
    ends-behind (t ∷ []) (forest_tokens f) (ends-elements f l.1)

-- ---- parentheses stand apart

apart_from_open : (k l : SyntaxKind) → number_of l ≡ 0 → are_one k l ≡ false
apart_from_open k L_PAREN e = by_kind k
  where
    by_kind : (j : SyntaxKind) → are_one j L_PAREN ≡ false
    by_kind WORD = refl
    by_kind _ = refl
apart_from_open k _ e = absurd cc

apart_from_closed : (k l : SyntaxKind) → number_of k ≡ 1 → are_one k l ≡ false
apart_from_closed R_PAREN l e = refl
apart_from_closed _ l e = absurd cc

apart-behind : (ms zs : List LexedToken) → AreApart ms → AreApart zs → EndsClosed (token_terms ms)
    → AreApart (ms ++ zs)
apart-behind [] zs a b h = b
apart-behind (m ∷ []) [] a b h = tt
apart-behind (m ∷ []) (z ∷ zs) a b h = (apart_from_closed m.0 z.0 h, b)
apart-behind (m ∷ n ∷ ms) zs a b h = (a.0, apart-behind (n ∷ ms) zs a.1 b h)

apart-before : (xs : List LexedToken) (m : LexedToken) (ms : List LexedToken) → AreApart xs
    → AreApart (m ∷ ms) → number_of m.0 ≡ 0 → AreApart (xs ++ m ∷ ms)
apart-before [] m ms a b h = b
apart-before (x ∷ []) m ms a b h = (apart_from_open x.0 m.0 h, b)
apart-before (x ∷ y ∷ xs) m ms a b h = (a.0, apart-before (y ∷ xs) m ms a.1 b h)

apart-split : (xs ys : List LexedToken) → AreApart (xs ++ ys) → AreApart xs × AreApart ys
apart-split [] ys a = (tt, a)
apart-split (x ∷ []) [] a = (tt, tt)
apart-split (x ∷ []) (y ∷ ys) a = (tt, a.1)
apart-split (x ∷ y ∷ xs) ys a = let r = apart-split (y ∷ xs) ys a.1 in ((a.0, r.0), r.1)

-- ---- tokens and others in their middle

-- tokens of a text, each of which may be one, and which stand apart
pub record AreTokens (ls : List LexedToken) : Type 0 where
  pub each : AllByRecursion IsToken ls
  pub apart : AreApart ls

each-split : (xs ys : List LexedToken) → AllByRecursion IsToken (xs ++ ys)
    → AllByRecursion IsToken xs × AllByRecursion IsToken ys
each-split [] ys h = (tt, h)
each-split (x ∷ xs) ys h = let r = each-split xs ys h.1 in ((h.0, r.0), r.1)

each-join : (xs ys : List LexedToken) → AllByRecursion IsToken xs → AllByRecursion IsToken ys
    → AllByRecursion IsToken (xs ++ ys)
each-join [] ys h g = g
each-join (x ∷ xs) ys h g = (h.0, each-join xs ys h.1 g)

-- the tokens, cut where their terms are cut
record IsSplit (ls : List LexedToken) (ts us : List TokenTerm) : Type 0 where
  first : List LexedToken
  rest : List LexedToken
  whole : ls ≡ first ++ rest
  before : token_terms first ≡ ts
  behind : token_terms rest ≡ us

split : (ls : List LexedToken) (ts us : List TokenTerm) → token_terms ls ≡ ts ++ us
    → IsSplit ls ts us
split ls [] us e = record { first = []; rest = ls; whole = refl; before = refl; behind = e }
split [] (t ∷ ts) us e = absurd cc
split (l ∷ ls) (t ∷ ts) us e =
    let head : token_of (number_of l.0) l.1.now ≡ t = cc in
    let tail : token_terms ls ≡ ts ++ us = cc in
    let r = split ls ts us tail in
    record {
      first = l ∷ r.first;
      rest = r.rest;
      whole = ap (λ ks. l ∷ ks) r.whole;
      before = ap (λ s. s ∷ token_terms r.first) head ∙ ap (λ ss. t ∷ ss) r.before;
      behind = r.behind;
    }

tokens-split : (xs ys : List LexedToken) → AreTokens (xs ++ ys) → AreTokens xs × AreTokens ys
tokens-split xs ys h =
    let each = each-split xs ys h.each in
    let apart = apart-split xs ys h.apart in
    (record { each = each.0; apart = apart.0 }, record { each = each.1; apart = apart.1 })

tokens-before : (xs ms : List LexedToken) → AreTokens xs → AreTokens ms
    → BeginsOpen (token_terms ms) → AreTokens (xs ++ ms)
tokens-before xs [] h g b = absurd b
tokens-before xs (m ∷ ms) h g b = record {
  each = each-join xs (m ∷ ms) h.each g.each;
  apart = apart-before xs m ms h.apart g.apart b;
}

tokens-behind : (ms zs : List LexedToken) → AreTokens ms → AreTokens zs
    → EndsClosed (token_terms ms) → AreTokens (ms ++ zs)
tokens-behind ms zs h g e = record {
  each = each-join ms zs h.each g.each;
  apart = apart-behind ms zs h.apart g.apart e;
}

begins-more : (ms zs : List LexedToken) → BeginsOpen (token_terms ms)
    → BeginsOpen (token_terms (ms ++ zs))
begins-more [] zs h = absurd h
begins-more (m ∷ ms) zs h = h

terms-append : (xs ys : List LexedToken) → token_terms (xs ++ ys) ≡ token_terms xs ++ token_terms ys
terms-append [] ys = refl
terms-append (x ∷ xs) ys = ap (λ ts. token_of (number_of x.0) x.1.now ∷ ts) (terms-append xs ys)

-- tokens of these terms
pub record HasTokens (ts : List TokenTerm) : Type 0 where
  pub lexed : List LexedToken
  pub are : AreTokens lexed
  pub terms : token_terms lexed ≡ ts

-- those of a closed list in place of some
pub tokens-exchanged : (ls ms : List LexedToken) (before old behind : List TokenTerm) → AreTokens ls
    → AreTokens ms → token_terms ls ≡ before ++ (old ++ behind) → BeginsOpen (token_terms ms)
    → EndsClosed (token_terms ms) → HasTokens (before ++ (token_terms ms ++ behind))
tokens-exchanged ls ms before old behind h g e begins ends =
    let s = split ls before (old ++ behind) e in
    let r = split s.rest old behind s.behind in
    let outer = tokens-split s.first s.rest (subst AreTokens s.whole h) in
    let inner = tokens-split r.first r.rest (subst AreTokens r.whole outer.1) in
    record {
      lexed = s.first ++ (ms ++ r.rest);
      are = tokens-before s.first (ms ++ r.rest) outer.0 (tokens-behind ms r.rest g inner.1 ends)
          (begins-more ms r.rest begins);
      terms =
          terms-append s.first (ms ++ r.rest) ∙ ap (λ ts. ts ++ token_terms (ms ++ r.rest)) s.before
          ∙ ap (λ ts. before ++ ts) (terms-append ms r.rest
          ∙ ap (λ ts. token_terms ms ++ ts) r.behind);
    }
