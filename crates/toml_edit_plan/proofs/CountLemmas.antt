-- Counting goes on from child to child.
use Rattle.std.proofs.Common.{◌≡◌, ℕ, zero, suc, ◌+◌, ◌-◌, ◌≤◌, List, [], ◌∷◌, take, drop, ◌∙◌, ap}
use Rattle.std.proofs.Common.{arith, refl}
use Rattle.std.specs.Prelude.{false, slice_get}
use Rattle.std.specs.Option.{option_map_or}
use Rattle.rowan.specs.Term.{Term}
use Rattle.toml_edit_plan.specs.declared.counts.Sort.{Sort}
use Rattle.toml_edit_plan.specs.Counts.{bit, count_of, is_sort, part}

-- what stands behind some elements
get-drop : (ts : List Term) (s k : ℕ) → slice_get (drop s ts) k ≡ slice_get ts (s + k)
get-drop ts zero k = let e : k ≡ 0 + k = omega arith in ap (slice_get ts) e
get-drop [] (suc s) k = refl
get-drop (t ∷ ts) (suc s) k =
    let e : suc (s + k) ≡ suc s + k = omega arith in get-drop ts s k ∙ ap (slice_get (t ∷ ts)) e

count-next : (sort : Sort) (ts : List Term) (k : ℕ)
    → count_of sort (take (k + 1) ts) ≡ count_of sort (take k ts)
    + bit (option_map_or (is_sort sort) (slice_get ts k) false)
count-next sort [] zero = omega arith
count-next sort [] (suc k) =
    let e : suc k + 1 ≡ suc (k + 1) = omega arith in
    omega (arith, ap (λ j. count_of sort (take j [])) e)
count-next sort (t ∷ ts) zero = omega arith
count-next sort (t ∷ ts) (suc k) =
    let e : suc k + 1 ≡ suc (k + 1) = omega arith in
    omega (arith, ap (λ j. count_of sort (take j (t ∷ ts))) e, count-next sort ts k)

-- one more child
pub count-more : (sort : Sort) (ts : List Term) (start index : ℕ) → start ≤ index
    → count_of sort (part start (index + 1 - start) ts)
    ≡ count_of sort (part start (index - start) ts)
    + bit (option_map_or (is_sort sort) (slice_get ts index) false)
count-more sort ts start index h =
    let d = index - start in
    let next : index + 1 - start ≡ d + 1 = omega (arith, h) in
    let here : start + d ≡ index = omega (arith, h) in
    ap (λ j. count_of sort (take j (drop start ts))) next
    ∙ count-next sort (drop start ts) d
    ∙ ap (λ o. count_of sort (take d (drop start ts))
    + bit (option_map_or (is_sort sort) o false))
    (get-drop ts start d ∙ ap (slice_get ts) here)
