-- Places in lists.
use Rattle.std.proofs.Common.{◌≡◌, ℕ, zero, suc, List, [], ◌∷◌, ◌++◌, map, length, Some, refl, ap}
use Rattle.std.proofs.Common.{◌⊎◌, inl, inr}
use Rattle.std.specs.List.{slice_get}

pub at_map : {X Y : Type 0} (f : X → Y) (xs : List X) (n : ℕ) (x : X) → slice_get xs n ≡ Some x
    → slice_get (map f xs) n ≡ Some (f x)
at_map f [] n x e = absurd cc
at_map f (y ∷ xs) zero x e = let same : y ≡ x = cc in ap (λ z. Some (f z)) same
at_map f (y ∷ xs) (suc n) x e = at_map f xs n x e

pub slice_get-grown : {X : Type 0} (xs ys : List X) (n : ℕ) (x : X) → slice_get xs n ≡ Some x
    → slice_get (xs ++ ys) n ≡ Some x
slice_get-grown [] ys n x e = absurd cc
slice_get-grown (y ∷ xs) ys zero x e = e
slice_get-grown (y ∷ xs) ys (suc n) x e = slice_get-grown xs ys n x e

pub slice_get-last : {X : Type 0} (xs : List X) (x : X)
    → slice_get (xs ++ x ∷ []) (length xs) ≡ Some x
slice_get-last [] x = refl
slice_get-last (y ∷ xs) x = slice_get-last xs x

pub slice_get-cases : {X : Type 0} (xs : List X) (x : X) (n : ℕ) (y : X)
    → slice_get (xs ++ x ∷ []) n ≡ Some y → (slice_get xs n ≡ Some y) ⊎ ((n ≡ length xs) × (x ≡ y))
slice_get-cases [] x zero y e = inr (refl, cc)
slice_get-cases [] x (suc n) y e = absurd cc
slice_get-cases (z ∷ xs) x zero y e = inl e
slice_get-cases (z ∷ xs) x (suc n) y e =
    elim (slice_get-cases xs x n y e) [ inl h ↦ inl h | inr p ↦ inr (ap suc p.0, p.1) ]
