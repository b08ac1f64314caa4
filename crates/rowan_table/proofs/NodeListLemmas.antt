-- Laws of the nodes of a table, which stand in two lists.
use Rattle.std.proofs.Common.{◌≡◌, ℕ, List, [], ◌∷◌, ◌++◌, length, Some, refl, ◌∙◌, ap, sym, arith}
use Rattle.std.specs.Prelude.{map, slice_get}
use Rattle.rowan_green.specs.Term.{NodeTerm}
use Rattle.rowan_terms.proofs.Lists.{at_map}
use Rattle.rowan_table.specs.Nodes.{Inner, inner, inners}

inners-greens : (ns : List NodeTerm) (fs : List ℕ) → length fs ≡ length ns
    → map (λ (x : Inner). x.green) (inners ns fs) ≡ ns
inners-greens [] fs same = refl
inners-greens (n ∷ ns) [] same = absurd (omega (arith, same))
inners-greens (n ∷ ns) (f ∷ fs) same = ap (λ ms. n ∷ ms) (inners-greens ns fs (omega (arith, same)))

inners-firsts : (ns : List NodeTerm) (fs : List ℕ) → length fs ≡ length ns
    → map (λ (x : Inner). x.first_child) (inners ns fs) ≡ fs
inners-firsts [] [] same = refl
inners-firsts [] (f ∷ fs) same = absurd (omega (arith, same))
inners-firsts (n ∷ ns) [] same = absurd (omega (arith, same))
inners-firsts (n ∷ ns) (f ∷ fs) same = ap (λ gs. f ∷ gs) (inners-firsts ns fs (omega (arith, same)))

pub inners-length : (ns : List NodeTerm) (fs : List ℕ) → length fs ≡ length ns
    → length (inners ns fs) ≡ length ns
inners-length [] fs same = refl
inners-length (n ∷ ns) [] same = absurd (omega (arith, same))
inners-length (n ∷ ns) (f ∷ fs) same = omega (arith, inners-length ns fs (omega (arith, same)))

pub inners-append : (ns : List NodeTerm) (fs : List ℕ) (n : NodeTerm) (f : ℕ)
    → length fs ≡ length ns → inners (ns ++ n ∷ []) (fs ++ f ∷ []) ≡ inners ns fs ++ inner n f ∷ []
inners-append [] [] n f same = refl
inners-append [] (g ∷ fs) n f same = absurd (omega (arith, same))
inners-append (m ∷ ns) [] n f same = absurd (omega (arith, same))
inners-append (m ∷ ns) (g ∷ fs) n f same = ap (λ xs. inner m g ∷ xs)
    (inners-append ns fs n f (omega (arith, same)))

module _ (ns : List NodeTerm) (fs : List ℕ) (same : length fs ≡ length ns) (k : ℕ) (x : Inner)
    (at : slice_get (inners ns fs) k ≡ Some x) where
  pub green_at : slice_get ns k ≡ Some x.green
  green_at = ap (λ ms. slice_get ms k) (sym (inners-greens ns fs same))
      ∙ at_map (λ (y : Inner). y.green) (inners ns fs) k x at

  pub first_at : slice_get fs k ≡ Some x.first_child
  first_at = ap (λ gs. slice_get gs k) (sym (inners-firsts ns fs same))
      ∙ at_map (λ (y : Inner). y.first_child) (inners ns fs) k x at
