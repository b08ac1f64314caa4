-- Replacements and limits: what fits a term with a replacement, and when the whole fits.
use Rattle.std.proofs.Common.{◌≡◌, ℕ, zero, suc, ◌≤◌, ◌↔◌, List, [], ◌∷◌, ◌++◌, length, set, Option}
use Rattle.std.proofs.Common.{Some, None, refl, sym, ap, subst, arith, length-set}
use Rattle.std.specs.Prelude.{slice_get}
use Rattle.rowan_green.specs.declared.fault.Fault.{Fault}
use Rattle.rowan_green.specs.declared.utility_types.NodeOrToken.TheVariants.{Node, Token}
use Rattle.rowan_green.specs.Edits.{replaced}
use Rattle.rowan_green.specs.Fits.{byte_limit, AreWithin, FitsNode, FitForest, Fits, PassesLimit}
use Rattle.rowan_green.specs.Fits.{AllFit}
use Rattle.rowan_terms.specs.Path.{Path, term_children, subterm_of, subterm, with_child, put_of}
use Rattle.rowan_terms.specs.Path.{put}
use Rattle.rowan_green.specs.Term.{NodeTerm, node, Forest, empty, node_then, token_then, Term}
use Rattle.rowan_green.specs.Term.{terms, node_kind, node_children, term_len, sum_of_lens}
use Rattle.rowan_green.proofs.EditLemmas.{not_within}
use Rattle.rowan_terms.proofs.PutLemmas.{replaced-set, get-set, subterm-put, put-child}
use Rattle.rowan_green.proofs.Terms.{terms-forest, node_len-node_of, FitsNode-node_of, Fits-len}

-- ---- what is in a term that fits

FitForest-get : (f : Forest) (i : ℕ) (c : Term) → slice_get (terms f) i ≡ Some c → FitForest f
    → Fits c
FitForest-get empty i c e h = absurd cc
FitForest-get (node_then n f) zero c e h = let s : Node n ≡ c = cc in subst Fits s h.0
FitForest-get (token_then t f) zero c e h = let s : Token t ≡ c = cc in subst Fits s h.0
FitForest-get (node_then n f) (suc i) c e h = FitForest-get f i c e h.1
FitForest-get (token_then t f) (suc i) c e h = FitForest-get f i c e h.1

pub AllFit-terms : (f : Forest) → FitForest f → AllFit (terms f)
AllFit-terms empty h = tt
AllFit-terms (node_then n f) h = (h.0, AllFit-terms f h.1)
AllFit-terms (token_then t f) h = (h.0, AllFit-terms f h.1)

-- what the children of a node that fits are
pub Fits-children : (n : NodeTerm) → FitsNode n
    → AreWithin (node_children n) × AllFit (node_children n)
Fits-children (node k f) h = (h.0, AllFit-terms f h.1)

fits-child : (t : Term) (i : ℕ) (c : Term) → slice_get (term_children t) i ≡ Some c → Fits t
    → Fits c
fits-child (Node (node k f)) i c e h = FitForest-get f i c e h.1
fits-child (Token t) i c e h = absurd cc

-- each subterm of a term that fits does
pub Fits-subterm : (t : Term) (p : Path) (w : Term) → subterm t p ≡ Some w → Fits t → Fits w
Fits-subterm t [] w e h = let s : t ≡ w = cc in subst Fits s h
Fits-subterm t (i ∷ p) w e h = at (λ c. Fits-subterm c p w) (slice_get (term_children t) i) refl e
  where
    at : ((c : Term) → subterm c p ≡ Some w → Fits c → Fits w) → (o : Option Term)
        → slice_get (term_children t) i ≡ o → subterm_of o p ≡ Some w → Fits w
    at below None is there = absurd cc
    at below (Some c) is there = below c there (fits-child t i c is h)

-- ---- what a replacement that fits has in it

-- where the whole new term fits, so does what was put
pub Fits-put : (t : Term) (p : Path) (u w : Term) → subterm t p ≡ Some w → Fits (put t p u) → Fits u
Fits-put t p u w e h = Fits-subterm (put t p u) p u (subterm-put t p u w e) h

-- where the new children of a node pass a limit, the whole new term does not fit
pub unfit-put : (t : Term) (p : Path) (i : ℕ) (n : NodeTerm) (u : Term) (e : Fault)
    → subterm t p ≡ Some (Node n) → PassesLimit (replaced (node_children n) i u) e
    → ¬ Fits (put t (p ++ i ∷ []) u)
unfit-put t p i n u e h passes = λ f.
    let v = with_child (Node n) i u in
    let above : Fits v = Fits-put t p v (Node n) h (subst Fits (put-child t p i u (Node n) h) f) in
    not_within (replaced (node_children n) i u) e passes
    (subst AreWithin (terms-forest (replaced (node_children n) i u)) above.0)

-- ---- when the whole fits

AllFit-set : (ts : List Term) (i : ℕ) (x : Term) → AllFit ts → Fits x → AllFit (set ts i x)
AllFit-set [] i x h f = tt
AllFit-set (t ∷ ts) zero x h f = (f, h.1)
AllFit-set (t ∷ ts) (suc i) x h f = (h.0, AllFit-set ts i x h.1 f)

-- with another child, a node that fits does as long as its text is not too long
pub Fits-with_child : (n : NodeTerm) (i : ℕ) (x : Term) → FitsNode n → Fits x
    → sum_of_lens (replaced (node_children n) i x) ≤ byte_limit → Fits (with_child (Node n) i x)
Fits-with_child n i x h f l =
    let old = Fits-children n h in
    let same = replaced-set (node_children n) i x in
    FitsNode-node_of (node_kind n) (replaced (node_children n) i x)
    (record {
      count = omega (arith, old.0.count, ap length same, length-set (node_children n) i x);
      text = l;
    })
    (subst AllFit (sym same) (AllFit-set (node_children n) i x old.1 f))

-- one child is no longer than all of them
len-child : (ts : List Term) (i : ℕ) (x : Term) → slice_get ts i ≡ Some x
    → term_len x ≤ sum_of_lens ts
len-child [] i x e = absurd cc
len-child (t ∷ ts) zero x e = let s : t ≡ x = cc in omega (arith, ap term_len s)
len-child (t ∷ ts) (suc i) x e = omega (arith, len-child ts i x e)

fits-put : (t : Term) (p : Path) (u w : Term) → subterm t p ≡ Some w → Fits t → Fits u
    → term_len (put t p u) ≤ byte_limit → Fits (put t p u)
fits-put t [] u w e h f l = f
fits-put (Token t) (i ∷ p) u w e h f l = absurd cc
fits-put (Node n) (i ∷ p) u w e h f l =
    at (λ c. fits-put c p u w) (slice_get (node_children n) i) refl e l
  where
    at : ((c : Term) → subterm c p ≡ Some w → Fits c → Fits u → term_len (put c p u) ≤ byte_limit
        → Fits (put c p u)) → (o : Option Term) → slice_get (node_children n) i ≡ o
        → subterm_of o p ≡ Some w → term_len (with_child (Node n) i (put_of o p u)) ≤ byte_limit
        → Fits (with_child (Node n) i (put_of o p u))
    at below None is there short = absurd cc
    at below (Some c) is there short =
        let x = put c p u in
        let whole : sum_of_lens (replaced (node_children n) i x) ≤ byte_limit =
        omega (arith, short, node_len-node_of (node_kind n) (replaced (node_children n) i x)) in
        let part = len-child (set (node_children n) i x) i x (get-set (node_children n) i x c is) in
        let same = ap sum_of_lens (replaced-set (node_children n) i x) in
        Fits-with_child n i x h (below c there (fits-child (Node n) i c is h) f
        (omega (arith, part, same, whole))) whole

-- A replacement fits where its text is not too long: no node has more children than before, and no
-- subterm more bytes than the whole.
pub Fits-by_len : (t : Term) (p : Path) (u w : Term) → subterm t p ≡ Some w → Fits t → Fits u
    → Fits (put t p u) ↔ term_len (put t p u) ≤ byte_limit
Fits-by_len t p u w e h f = (Fits-len (put t p u), fits-put t p u w e h f)
