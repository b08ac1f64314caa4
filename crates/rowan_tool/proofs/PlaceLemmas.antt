-- A node below the root of a tree, and another one in its place: the tokens before it and behind it
-- stay, and where the other one is an element as the old one was, the tree keeps its shape.
use Rattle.std.proofs.Common.{◌≡◌, ℕ, zero, suc, Bool, true, false, ◌&&◌, List, [], ◌∷◌, ◌++◌, set}
use Rattle.std.proofs.Common.{Some, inl, inr, refl, sym, ◌∙◌, ap, subst, append_assoc}
use Rattle.std.specs.Prelude.{slice_get}
use Rattle.rowan_green.specs.declared.utility_types.NodeOrToken.TheVariants.{Node, Token}
use Rattle.rowan_terms.specs.Path.{Path, subterm_of, subterm, put_of, put}
use Rattle.rowan_green.specs.Term.{TokenTerm, NodeTerm, node, node_kind, node_of, Forest, empty}
use Rattle.rowan_green.specs.Term.{node_then, token_then, terms, forest, put_first}
use Rattle.rowan_terms.proofs.PutLemmas.{replaced-set}
use Rattle.rowan_green.proofs.Terms.{forest-terms}
use Rattle.rowan_sexp.specs.declared.sexp.lang.SyntaxKind.TheVariants.{LIST}
use Rattle.rowan_sexp.specs.Sexp.{number_of}
use Rattle.rowan_sexp.specs.Grammar.{is_empty, IsElement, AreElements}
use Rattle.rowan_sexp.proofs.GrammarLemmas.{node_tokens, forest_tokens}

-- the node `old` of a tree with the tokens `had`, and the node `u` in its place, which makes the
-- tokens `has`
pub record Exchange (old u : NodeTerm) (had has : List TokenTerm) (Are : Type 0) : Type 0 where
  pub before : List TokenTerm
  pub behind : List TokenTerm
  pub was : had ≡ before ++ (node_tokens old ++ behind)
  pub is : has ≡ before ++ (node_tokens u ++ behind)
  -- the old one was an element there, and where the new one is, the whole is what it was
  pub inside : Bool
  pub last : Bool
  pub stood : IsElement inside last old
  pub again : IsElement inside last u → Are

-- the children of a node, with another node in place of the one at a path
pub record InForest (inside last : Bool) (f : Forest) (i : ℕ) (p : Path)
    (old u : NodeTerm) : Type 0 where
  pub new : Forest
  pub made : forest (set (terms f) i (put_of (slice_get (terms f) i) p (Node u))) ≡ new
  pub as_empty : is_empty new ≡ is_empty f
  pub exchange : Exchange old u (forest_tokens f) (forest_tokens new) (AreElements inside last new)

-- a node, with another one in place of the one at a path below it
record InNode (inside last : Bool) (n : NodeTerm) (i : ℕ) (p : Path)
    (old u : NodeTerm) : Type 0 where
  new : NodeTerm
  made : put (Node n) (i ∷ p) (Node u) ≡ Node new
  exchange : Exchange old u (node_tokens n) (node_tokens new) (IsElement inside last new)

-- with these tokens in front, and with these behind
behind_tokens : {old u : NodeTerm} {had has : List TokenTerm} {Are All : Type 0}
    (ts : List TokenTerm) → (Are → All) → Exchange old u had has Are
    → Exchange old u (ts ++ had) (ts ++ has) All
behind_tokens {old = old} {u = u} ts all x = record {
  before = ts ++ x.before;
  behind = x.behind;
  was = ap (λ us. ts ++ us) x.was ∙ sym (append_assoc ts x.before (node_tokens old ++ x.behind));
  is = ap (λ us. ts ++ us) x.is ∙ sym (append_assoc ts x.before (node_tokens u ++ x.behind));
  inside = x.inside;
  last = x.last;
  stood = x.stood;
  again = λ e. all (x.again e);
}

before_tokens : {old u : NodeTerm} {had has : List TokenTerm} {Are All : Type 0}
    (ts : List TokenTerm) → (Are → All) → Exchange old u had has Are
    → Exchange old u (had ++ ts) (has ++ ts) All
before_tokens {old = old} {u = u} ts all x = record {
  before = x.before;
  behind = x.behind ++ ts;
  was = more old x.was;
  is = more u x.is;
  inside = x.inside;
  last = x.last;
  stood = x.stood;
  again = λ e. all (x.again e);
}
  where
    more : {us : List TokenTerm} (n : NodeTerm) → us ≡ x.before ++ (node_tokens n ++ x.behind)
        → us ++ ts ≡ x.before ++ (node_tokens n ++ (x.behind ++ ts))
    more n e =
        ap (λ vs. vs ++ ts) e ∙ append_assoc x.before (node_tokens n ++ x.behind) ts
        ∙ ap (λ vs. x.before ++ vs) (append_assoc (node_tokens n) x.behind ts)

-- no node stands at a token or below it, or where there are no children
no_node : (t : TokenTerm) (p : Path) (old : NodeTerm) → subterm (Token t) p ≡ Some (Node old) → ⊥
no_node t [] old s = absurd cc
no_node t (i ∷ p) old s = absurd cc

no_child : (f : Forest) (i : ℕ) (p : Path) (old : NodeTerm) → f ≡ empty
    → subterm_of (slice_get (terms f) i) p ≡ Some (Node old) → ⊥
no_child f i p old e s = none i (subst
    (λ g. subterm_of (slice_get (terms g) i) p ≡ Some (Node old)) e s)
  where
    none : (j : ℕ) → subterm_of (slice_get (terms empty) j) p ≡ Some (Node old) → ⊥
    none zero h = absurd cc
    none (suc j) h = absurd cc

-- what is put below a node is put among its children
pub put-node : (k : ℕ) (f : Forest) (i : ℕ) (p : Path) (u : NodeTerm) (g : Forest)
    → forest (set (terms f) i (put_of (slice_get (terms f) i) p (Node u))) ≡ g
    → put (Node (node k f)) (i ∷ p) (Node u) ≡ Node (node k g)
put-node k f i p u g made =
    ap (λ ts. Node (node_of k ts)) (replaced-set (terms f) i
    (put_of (slice_get (terms f) i) p (Node u))) ∙ ap (λ h. Node (node k h)) made

mutual
  in_node : (inside last : Bool) (n : NodeTerm) (i : ℕ) (p : Path) (old u : NodeTerm)
      → IsElement inside last n → subterm (Node n) (i ∷ p) ≡ Some (Node old)
      → InNode inside last n i p old u
  in_node inside last (node k empty) i p old u h s = absurd h
  in_node inside last (node k (node_then m f)) i p old u h s = absurd h
  in_node inside last (node k (token_then t f)) zero p old u h s = absurd (no_node t p old s)
  in_node inside last (node k (token_then t f)) (suc i) p old u (inl a) s =
      absurd (no_child f i p old a.alone s)
  in_node inside last (node k (token_then t f)) (suc i) p old u (inr (inl e)) s =
      absurd (no_child f i p old e.1.alone s)
  in_node inside last (node k (token_then t f)) (suc i) p old u (inr (inr l)) s =
      let r = in_forest true last f i p old u l.1 s in
      record {
        new = node k (token_then t r.new);
        made = put-node k (token_then t f) (suc i) p u (token_then t r.new)
            (ap (λ g. token_then t g) r.made);
        exchange = behind_tokens (t ∷ []) (λ a. inr (inr (l.0, a))) r.exchange;
      }

  pub in_forest : (inside last : Bool) (f : Forest) (i : ℕ) (p : Path) (old u : NodeTerm)
      → AreElements inside last f → subterm_of (slice_get (terms f) i) p ≡ Some (Node old)
      → InForest inside last f i p old u
  in_forest inside last empty i p old u h s = absurd (no_child empty i p old refl s)
  in_forest inside last (node_then n f) zero [] old u h s =
      let same : n ≡ old = cc in
      record {
        new = node_then u f;
        made = ap (λ g. node_then u g) (forest-terms f);
        as_empty = refl;
        exchange = record {
          before = [];
          behind = forest_tokens f;
          was = ap (λ m. node_tokens m ++ forest_tokens f) same;
          is = refl;
          inside = inside;
          last = last && is_empty f;
          stood = subst (IsElement inside (last && is_empty f)) same h.0;
          again = λ e. (e, h.1);
        };
      }
  in_forest inside last (node_then n f) zero (j ∷ p) old u h s =
      let r = in_node inside (last && is_empty f) n j p old u h.0 s in
      record {
        new = node_then r.new f;
        made = ap (λ x. put_first x (forest (terms f))) r.made
            ∙ ap (λ g. node_then r.new g) (forest-terms f);
        as_empty = refl;
        exchange = before_tokens (forest_tokens f) (λ e. (e, h.1)) r.exchange;
      }
  in_forest inside last (node_then n f) (suc i) p old u h s =
      let r = in_forest inside last f i p old u h.1 s in
      record {
        new = node_then n r.new;
        made = ap (λ g. node_then n g) r.made;
        as_empty = refl;
        exchange = behind_tokens (node_tokens n)
            (λ a. (subst (λ b. IsElement inside (last && b) n) (sym r.as_empty) h.0, a)) r.exchange;
      }
  in_forest inside last (token_then t f) zero p old u h s = absurd (no_node t p old s)
  in_forest inside last (token_then t f) (suc i) p old u (inl c) s =
      absurd (no_child f i p old c.1.last s)
  in_forest inside last (token_then t f) (suc i) p old u (inr w) s =
      let r = in_forest inside last f i p old u w.1 s in
      record {
        new = token_then t r.new;
        made = ap (λ g. token_then t g) r.made;
        as_empty = refl;
        exchange = behind_tokens (t ∷ []) (λ a. inr (w.0, a)) r.exchange;
      }

-- ---- a closed list

-- where no token stands behind what is closed, it is closed as well
mutual
  closed-element : (last : Bool) (n : NodeTerm) → IsElement true false n → IsElement true last n
  closed-element last (node k empty) h = h
  closed-element last (node k (node_then m f)) h = h
  closed-element last (node k (token_then t f)) (inl a) = inl a
  closed-element last (node k (token_then t f)) (inr (inl e)) = inr (inl e)
  closed-element last (node k (token_then t f)) (inr (inr l)) =
      inr (inr (l.0, closed-elements last f l.1))

  closed-elements : (last : Bool) (f : Forest) → AreElements true false f → AreElements true last f
  closed-elements last empty h = absurd (let wrong : false ≡ true = h in cc)
  closed-elements last (node_then n f) h =
      (closed-element (last && is_empty f) n h.0, closed-elements last f h.1)
  closed-elements last (token_then t f) (inl c) = inl c
  closed-elements last (token_then t f) (inr w) = inr (w.0, closed-elements last f w.1)

-- a closed list is an element everywhere
pub closed-anywhere : (inside last : Bool) (n : NodeTerm) → node_kind n ≡ number_of LIST
    → IsElement true false n → IsElement inside last n
closed-anywhere inside last (node k empty) e h = h
closed-anywhere inside last (node k (node_then m f)) e h = h
closed-anywhere inside last (node k (token_then t f)) e (inl a) =
    absurd (let wrong : 6 ≡ 5 = sym a.atom ∙ e in cc)
closed-anywhere inside last (node k (token_then t f)) e (inr (inl r)) =
    absurd (let wrong : true ≡ false = r.0 in cc)
closed-anywhere inside last (node k (token_then t f)) e (inr (inr l)) =
    inr (inr (l.0, closed-elements last f l.1))
