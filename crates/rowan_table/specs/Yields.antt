-- Iterators whose items may be refused, by what is left of them: the items that are still to come,
-- or the one refusal that is.
use Rattle.std.specs.Prelude.{◌≡◌, ℕ, ◌<◌, List, [], ◌∷◌, length, Option, Some, None, Result, Ok}
use Rattle.std.specs.Prelude.{Err}
use Rattle.rowan_green.specs.declared.fault.Fault.{Fault}
use Rattle.rowan_green.specs.declared.fault.Fault.TheVariants.{Memory}

abbrev pub Rest : Type 0 → Type 0
Rest A = Result (List A) Fault

-- The first of the items comes next, and then the others are left. In its place `Memory` may come,
-- and then nothing is left.
-- Where a refusal is left, it comes next and alone. Where nothing is left, nothing comes.
abbrev pub YieldsOrRefuses : {A : Type 0} → Rest A → Option (Result A Fault) → Rest A → Type 0
YieldsOrRefuses (Ok xs) None after = (xs ≡ []) × (after ≡ Ok [])
YieldsOrRefuses {A} (Ok xs) (Some (Ok x)) after = (ys : List A) × (xs ≡ x ∷ ys) × (after ≡ Ok ys)
YieldsOrRefuses (Ok xs) (Some (Err e)) after = (e ≡ Memory) × (0 < length xs) × (after ≡ Ok [])
YieldsOrRefuses (Err f) (Some (Err e)) after = (e ≡ f) × (after ≡ Ok [])
YieldsOrRefuses (Err f) _ after = ⊥

-- the first of the items comes next, and then the others are left; nothing, where there are none
abbrev pub TakesFirst : {A : Type 0} → List A → Option A → List A → Type 0
TakesFirst xs None ys = xs ≡ []
TakesFirst xs (Some x) ys = xs ≡ x ∷ ys

-- how many items are left at most, a refusal counted
abbrev pub count_of : {A : Type 0} → Rest A → ℕ
count_of (Ok xs) = length xs
count_of (Err e) = 1
