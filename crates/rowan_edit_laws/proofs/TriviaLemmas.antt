-- Trivia stay outside of the nodes of a rewritten tree.
use Rattle.std.proofs.Common.{◌≡◌, ℕ, zero, suc, List, [], ◌∷◌, ◌++◌, length, drop, Some, refl, sym}
use Rattle.std.proofs.Common.{subst}
use Rattle.std.specs.Prelude.{Bool, false, slice_get}
use Rattle.std.specs.List.{AllByRecursion}
use Rattle.rowan_green.specs.declared.utility_types.NodeOrToken.TheVariants.{Node, Token}
use Rattle.rowan_terms.specs.Path.{Path, subterm_of, tokens}
use Rattle.rowan_green.specs.Term.{TokenTerm, NodeTerm, node, Forest, empty, node_then, token_then}
use Rattle.rowan_green.specs.Term.{terms, forest, node_children, Term}
use Rattle.rowan_green.proofs.Terms.{terms-forest}
use Rattle.rowan_rewrite.specs.declared.rewriting.Rewrite.{Rewrite}
use Rattle.rowan_rewrite.specs.Drafts.{tokens_in}
use Rattle.rowan_rewrite.specs.Rewriting.{lead, own, first_answer, node_lead, first_lead, behind_lead}
use Rattle.rowan_rewrite.specs.Rewriting.{new_children, rewritten, Each}
use Rattle.rowan_rewrite.specs.Trivia.{StandOutside, IsToken, BeginsFailing, Formats, AllFormat}
use Rattle.rowan_rewrite.proofs.RewritingLemmas.{tokens-children, drop-more}

-- ---- answers for some tokens, and for those behind

pub each-parts : (Holds : TokenTerm → Rewrite → Type 0) (ts us : List TokenTerm)
    (answers : List Rewrite) → Each Holds (ts ++ us) answers
    → Each Holds ts answers × Each Holds us (drop (length ts) answers)
each-parts Holds [] us answers h = (tt, h)
each-parts Holds (t ∷ ts) us answers h =
    let rest = each-parts Holds ts us (drop 1 answers) h.1 in (
      (h.0, rest.0),
      subst (λ rs. Each Holds us rs) (drop-more (length ts) answers) rest.1,
    )

module _ (test : TokenTerm → Bool) where
  -- ---- by trees in place of paths

  -- the first child is no token that passes the test
  abbrev FirstFails : Forest → Type 0
  FirstFails empty = Unit {0}
  FirstFails (node_then n f) = Unit {0}
  FirstFails (token_then t f) = test t ≡ false

  abbrev mutual
    -- nor is that of any node in it
    IsOutside : NodeTerm → Type 0
    IsOutside (node k f) = FirstFails f × AreOutside f

    AreOutside : Forest → Type 0
    AreOutside empty = Unit {0}
    AreOutside (node_then n f) = IsOutside n × AreOutside f
    AreOutside (token_then t f) = AreOutside f

  -- from paths to trees
  mutual
    outside-node : (n : NodeTerm)
        → ((p : Path) (t : TokenTerm) → subterm_of (Some (Node n)) (p ++ 0 ∷ []) ≡ Some (Token t)
        → test t ≡ false) → IsOutside n
    outside-node (node k empty) h = (tt, tt)
    outside-node (node k (node_then n f)) h =
        (tt, outside-forest (node_then n f) (λ i p. h (i ∷ p)))
    outside-node (node k (token_then t f)) h =
        (h [] t refl, outside-forest (token_then t f) (λ i p. h (i ∷ p)))

    outside-forest : (f : Forest)
        → ((i : ℕ) (p : Path) (t : TokenTerm)
        → subterm_of (slice_get (terms f) i) (p ++ 0 ∷ []) ≡ Some (Token t) → test t ≡ false)
        → AreOutside f
    outside-forest empty h = tt
    outside-forest (node_then n f) h =
        (outside-node n (h 0), outside-forest f (λ i p t at. h (suc i) p t at))
    outside-forest (token_then t f) h = outside-forest f (λ i p t at. h (suc i) p t at)

  -- and back
  none-below : (p : Path) (t u : TokenTerm)
      → subterm_of (Some (Token u)) (p ++ 0 ∷ []) ≡ Some (Token t) → ⊥
  none-below [] t u at = absurd cc
  none-below (i ∷ []) t u at = absurd cc
  none-below (i ∷ j ∷ p) t u at = absurd cc

  stands-outside : (f : Forest) → AreOutside f → (i : ℕ) (p : Path) (t : TokenTerm)
      → subterm_of (slice_get (terms f) i) (p ++ 0 ∷ []) ≡ Some (Token t) → test t ≡ false
  stands-outside empty h i [] t at = absurd cc
  stands-outside empty h i (j ∷ p) t at = absurd cc
  stands-outside (token_then u f) h zero p t at = absurd (none-below p t u at)
  stands-outside (token_then u f) h (suc i) p t at = stands-outside f h i p t at
  stands-outside (node_then n f) h (suc i) p t at = stands-outside f h.1 i p t at
  stands-outside (node_then (node k empty) f) h zero [] t at = absurd cc
  stands-outside (node_then (node k (node_then n g)) f) h zero [] t at = absurd cc
  stands-outside (node_then (node k (token_then u g)) f) h zero [] t at =
      let same : u ≡ t = cc in subst (λ v. test v ≡ false) same h.0.0
  stands-outside (node_then (node k g) f) h zero (j ∷ p) t at = stands-outside g h.0.1 j p t at

  -- ---- by lists of children

  abbrev AllOutside : List Term → Type 0
  AllOutside [] = Unit {0}
  AllOutside (Node n ∷ ts) = IsOutside n × AllOutside ts
  AllOutside (Token t ∷ ts) = AllOutside ts

  in-forest : (ts : List Term) → AllOutside ts → AreOutside (forest ts)
  in-forest [] h = tt
  in-forest (Node n ∷ ts) h = (h.0, in-forest ts h.1)
  in-forest (Token t ∷ ts) h = in-forest ts h

  both : (ts us : List Term) → AllOutside ts → AllOutside us → AllOutside (ts ++ us)
  both [] us h g = g
  both (Node n ∷ ts) us h g = (h.0, both ts us h.1 g)
  both (Token t ∷ ts) us h g = both ts us h g

  of-tokens : (ts us : List Term) → AllByRecursion IsToken (ts ++ us)
      → AllOutside ts × AllOutside us
  of-tokens [] [] h = (tt, tt)
  of-tokens [] (Node n ∷ us) h = absurd h.0
  of-tokens [] (Token t ∷ us) h = (tt, (of-tokens [] us h.1).1)
  of-tokens (Node n ∷ ts) us h = absurd h.0
  of-tokens (Token t ∷ ts) us h = of-tokens ts us h.1

  begins-failing : (ts us : List Term) → BeginsFailing test ts → FirstFails (forest (ts ++ us))
  begins-failing [] us h = absurd h
  begins-failing (Node n ∷ ts) us h = absurd h
  begins-failing (Token t ∷ ts) us h = h

  -- ---- the new tree

  mutual
    lead-node : (n : NodeTerm) (answers : List Rewrite) → AllFormat test (tokens (Node n)) answers
        → AllOutside (node_lead n answers)
    lead-node (node k f) answers g =
        lead-forest f answers
        (subst (λ ts. AllFormat test ts answers) (tokens-children (node k f)) g)

    lead-forest : (f : Forest) (answers : List Rewrite)
        → AllFormat test (tokens_in (terms f)) answers → AllOutside (first_lead f answers)
    lead-forest empty answers g = tt
    lead-forest (node_then n f) answers g =
        lead-node n answers
        (each-parts (Formats test) (tokens (Node n)) (tokens_in (terms f)) answers g).0
    lead-forest (token_then t f) answers g =
        let a = first_answer answers in (of-tokens (lead a) (own t a) g.0.tokens).0

  mutual
    new-node : (n : NodeTerm) (answers : List Rewrite) → IsOutside n
        → AllFormat test (tokens (Node n)) answers → IsOutside (behind_lead n answers)
    new-node (node k f) answers h g =
        let all = subst (λ ts. AllFormat test ts answers) (tokens-children (node k f)) g in (
          new-first f answers h.0 all,
          in-forest (new_children f answers) (new-forest f answers h.1 all),
        )

    new-first : (f : Forest) (answers : List Rewrite) → FirstFails f
        → AllFormat test (tokens_in (terms f)) answers → FirstFails (forest (new_children f answers))
    new-first empty answers h g = tt
    new-first (node_then n f) answers h g = tt
    new-first (token_then t f) answers h g =
        let rest = drop 1 answers in
        begins-failing (own t (first_answer answers)) (first_lead f rest ++ new_children f rest)
        (g.0.first h)

    new-forest : (f : Forest) (answers : List Rewrite) → AreOutside f
        → AllFormat test (tokens_in (terms f)) answers → AllOutside (new_children f answers)
    new-forest empty answers h g = tt
    new-forest (node_then n f) answers h g =
        let rest = drop (length (tokens (Node n))) answers in
        let parts = each-parts (Formats test) (tokens (Node n)) (tokens_in (terms f)) answers g in (
          new-node n answers h.0 parts.0,
          both (first_lead f rest) (new_children f rest) (lead-forest f rest parts.1)
              (new-forest f rest h.1 parts.1),
        )
    new-forest (token_then t f) answers h g =
        let rest = drop 1 answers in
        let a = first_answer answers in
        both (own t a) (first_lead f rest ++ new_children f rest)
        (of-tokens (lead a) (own t a) g.0.tokens).1
        (both (first_lead f rest) (new_children f rest) (lead-forest f rest g.1)
        (new-forest f rest h g.1))

  pub trivia-outside : (old : NodeTerm) (answers : List Rewrite) → StandOutside test old
      → AllFormat test (tokens (Node old)) answers → StandOutside test (rewritten old answers)
  trivia-outside (node k f) answers h g =
      let all = subst (λ ts. AllFormat test ts answers) (tokens-children (node k f)) g in
      let new = new_children f answers in
      let list = first_lead f answers ++ node_children (node k (forest new)) in
      let out : AllOutside list =
      subst (λ ts. AllOutside (first_lead f answers ++ ts)) (sym (terms-forest new))
      (both (first_lead f answers) new (lead-forest f answers all)
      (new-forest f answers (outside-forest f h) all)) in
      stands-outside (forest list) (in-forest list out)
