-- The stack of a machine.
use Rattle.std.proofs.Common.{◌≡◌, ◌<◌, List, [], ◌∷◌, ◌++◌, length, reverse, refl, ap, ◌∙◌, arith}
use Rattle.std.proofs.lemmas.List.{reverse-append, length-reverse}
use Rattle.rowan_predictive.specs.declared.machine.Frame.{Frame}
use Rattle.rowan_predictive.specs.View.{items_of}

-- what was pushed is expected next
pub pushed : {A : Type 0} (xs ys : List A) (x : A) → ys ≡ xs ++ (x ∷ []) → reverse ys ≡ x ∷ reverse xs
pushed xs ys x e = ap reverse e ∙ reverse-append xs (x ∷ [])

-- where there is a frame something is expected
some-frames : (fs : List Frame) → (items_of fs ≡ []) → fs ≡ []
some-frames [] e = refl
some-frames (f ∷ fs) e = absurd (cc)

pub some-items : (fs : List Frame) → 0 < length fs → items_of (reverse fs) ≡ [] → ⊥
some-items fs some e =
    let none : reverse fs ≡ [] = some-frames (reverse fs) e in
    let same : length (reverse fs) ≡ length fs = length-reverse fs in
    let zero : length (reverse fs) ≡ 0 = ap length none in
    omega (arith, some, same, zero)
